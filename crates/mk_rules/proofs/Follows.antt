-- An allowed reply to a line that is a text leads from a bounded history to a bounded one.
use Rattle.std.proofs.Common.{◌≡◌, ℕ, ◌+◌, ◌<◌, ◌⊎◌, inl, inr, List, [], ◌∷◌, ◌++◌, false, map}
use Rattle.std.proofs.Common.{length, Option, Some, None, IfSome, MatchOption, refl, sym, subst}
use Rattle.std.proofs.Common.{arith, append-nil}
use Rattle.std.specs.Prelude.{option_to_list, option_map}
use Rattle.std.specs.List.{AllByRecursion, AllZip, enumerate_from, count_by}
use Rattle.std.proofs.lemmas.Bool.{leb-false}
use Rattle.arrayvec.specs.ArrayVec.{ArrayVec}
use Rattle.mk_net.specs.Bounds.{max_transfer_bits, number_limit}
use Rattle.mk_net.specs.declared.words.PairText.{PairText}
use Rattle.mk_net.specs.declared.words.QuestionText.{QuestionText}
use Rattle.mk_names.specs.Name.{IsName}
use Rattle.mk_net.specs.Named.{pair_named}
use Rattle.mk_net.specs.Asked.{Asked}
use Rattle.mk_states.specs.Events.{always}
use Rattle.mk_states.specs.States.{numbers_below}
use Rattle.mk_exact.specs.History.{Entry, Resolve as Resolves, users, trades, is_transfer, is_settled, revision}
use Rattle.mk_exact.specs.ByRule.{payment_by_rule, outcome}
use Rattle.mk_exact.specs.Weight.{IsSmall}
use Rattle.mk_exact.specs.Factors.{HoldsNoTrade, factor_with, least_gain}
use Rattle.mk_exact.specs.Limits.{Side}
use Rattle.mk_spread.specs.Bounds.{IsFairFor}
use Rattle.mk_exact.specs.Market.{Market, present}
use Rattle.mk_net.specs.Bounds.{sharpness}
use Rattle.mk_exact.proofs.ExistBounds.{fair_pair_fits, cash_fits}
use Rattle.mk_cash.proofs.Payments.{payment_by_rule_fits}
use Rattle.mk_reply.specs.declared.payments.Payment.{Payment}
use Rattle.mk_spread.specs.Spreads.{SpreadAsked}
use Rattle.mk_spread.proofs.Listed.{each_units}
use Rattle.mk_command.specs.declared.command.Command.{Command}
use Rattle.mk_command.specs.declared.command.Command.TheVariants.{User, Deposit, Withdraw, Price, Limits, Edit, Bounds, Spread, Worst, Resolve, Settle, Bound, Paid}
use Rattle.mk_command.specs.declared.command.Command.TheVariants.{Prices, Position, Status, Add}
use Rattle.mk_reply.specs.declared.refusal.Refusal.{Refusal}
use Rattle.mk_reply.specs.declared.refusal.Refusal.TheVariants.{Memory}
use Rattle.mk_reply.specs.declared.reply.Reply.{Reply}
use Rattle.mk_reply.specs.declared.reply.Reply.TheVariants.{Joined, Refused}
use Rattle.mk_rules.specs.Refusals.{question_named, spread_named, user_number, no_user, range, full, refusals, first_refusal}
use Rattle.mk_rules.specs.Quotes.{Quotes, last_quote, current_limits, current_bounds}
use Rattle.mk_rules.specs.Answers.{IsTrade, IsSpreadTrade, IsWithdrawal, IsPayment, IsAnswer, IsAllowed, ends_of, entry_of}
use Rattle.mk_rules.specs.Transcript.{Standing, Line, OfCommand, NoCommand, LongLine, IsAllowedFor, after, Run}
use Rattle.mk_rules.specs.Bounded.{IsLine, JoinsByName, IsTransferOf, FitPayment, IsBounded}
use Rattle.mk_rules.proofs.Options.{value_of}
use Rattle.mk_rules.proofs.Appended.{Appends, refused_appends, reply_appends, judged_appends, spread_appends}
use Rattle.mk_rules.proofs.Unrefused.{none_applies, not_faulted, user_in_range, number_in_range}
use Rattle.mk_rules.proofs.Bounds.{IsLimited, MayFollow, entry_bounded}
use Rattle.mk_rules.proofs.Paying.{SettlingIs, settling_is}

-- there is room for one more
has_room : (most held : ℕ) → full most held ≡ None → held < most
has_room most held h = leb-false most held (not_faulted _ _ h)

transfer_of : (H : List Entry) (u : List ℕ) (bits : ℕ) → no_user H u ≡ None → range max_transfer_bits bits ≡ None → IsTransferOf (length (users H)) (user_number H u) bits
transfer_of H u bits joined within =
    let numbers = number_in_range max_transfer_bits bits within in
    record { user = user_in_range H u joined; some = numbers.0; few = numbers.1 }

module _ (market : Market) (H : List Entry) (legal : IsLimited market) (bounded : IsBounded market H) where
  abbrev Follows : Command → Reply → Type 0
  Follows command reply = Appends (MayFollow market H) market H command reply

  user_follows : (u : List ℕ) (reply : Reply) → IsName u → first_refusal market H (User u) ≡ None → (reply ≡ Joined u (revision H + 1)) ⊎ (reply ≡ Refused Memory) → Follows (User u) reply
  user_follows u reply named none (inl e) =
      let refused = none_applies (refusals market H (User u)) none in
      reply_appends (MayFollow market H) market H (User u) reply _ e (named, leb-false market.max_users (length (users H)) (not_faulted _ _ refused.1.1.0), not_faulted _ _ refused.1.0)
  user_follows u reply named none (inr e) = reply_appends (MayFollow market H) market H (User u) reply _ e tt

  withdrawal_follows : (u : List ℕ) (bits g : ℕ) (reply : Reply) → first_refusal market H (Withdraw u bits) ≡ None
      → IsWithdrawal (IsSmall market.network H) (HoldsNoTrade H (user_number H u))
      (sharpness market.max_trades)
      (factor_with H (user_number H u) g) u bits (revision H + 1) reply
      → Follows (Withdraw u bits) reply
  withdrawal_follows u bits g reply none (inl taken) =
      let refused = none_applies (refusals market H (Withdraw u bits)) none in
      reply_appends (MayFollow market H) market H (Withdraw u bits) reply _ taken.1 (transfer_of H u bits refused.1.0 refused.1.1.0, has_room market.max_transfers (count_by is_transfer H) refused.1.1.1.0)
  withdrawal_follows u bits g reply none (inr short) = reply_appends (MayFollow market H) market H (Withdraw u bits) reply _ short.printed tt

  trade_follows : (u : List ℕ) (q : QuestionText) (X : ℕ) (seen : Option ℕ) (asked : Asked) (reply : Reply) → question_named market.network q ≡ Some asked
      → length (trades H) < market.max_trades → IsTrade market.network H (user_number H u) asked X reply → Follows (Edit u q X seen) reply
  trade_follows u q X seen asked reply named few trade = reply_appends (MayFollow market H) market H (Edit u q X seen) reply _ trade.printed
      (rw named (fair_pair_fits market.network H (user_number H u) asked X trade.hit trade.miss trade.fair, few))

  -- units that are fair for a value fit, and so does one whole unit
  fits_for : (small : Type 0) (side : Option Side) (X F : ℕ) → IsFairFor small side X F → F < number_limit
  fits_for small None X F h = omega (arith, h.1)
  fits_for small (Some side) X F h = h.fair.fits

  -- a spread is one trade more
  spread_follows : (u v : List ℕ) (condition : ArrayVec PairText) (to : ArrayVec ℕ) (seen : Option ℕ) (spread : SpreadAsked) (reply : Reply)
      → spread_named market.network v condition.items ≡ Some spread → length (trades H) < market.max_trades
      → IsSpreadTrade market.network H (user_number H u) spread to.items reply → Follows (Spread u v condition to seen) reply
  spread_follows u v condition to seen spread reply named few trade = reply_appends (MayFollow market H) market H (Spread u v condition to seen) reply _ trade.printed
      (rw named (each_units (λ units. units < number_limit) (IsSmall market.network H) (fits_for (IsSmall market.network H)) trade.fair.sides to.items trade.factors.items trade.fair.units, few))

  -- payments that fit, to users who are counted from n on
  ends_fit : (s : List ℕ) (n : ℕ) (names : List (List ℕ)) (listed : List Payment)
      → AllZip (IsPayment market.network H market.max_trades market.points_per_bit s)
      (enumerate_from n names) listed → AllByRecursion FitPayment (map ends_of listed)
  ends_fit s n [] [] h = tt
  ends_fit s n [] (payment ∷ listed) h = absurd h
  ends_fit s n (name ∷ names) [] h = absurd h
  ends_fit s n (name ∷ names) (payment ∷ listed) h =
      let covers = h.0.covers in
      let high = cash_fits (IsSmall market.network H) (HoldsNoTrade H n) H market.max_trades n s
      market.points_per_bit payment.low payment.high
      bounded.within legal.few_points covers in
      (record { low = omega (arith, covers.above, covers.below); high = high }, ends_fit s (n + 1) names listed h.1)

  pub rule_ends_fit : (s : List ℕ) (us : List ℕ) → AllByRecursion FitPayment (map (payment_by_rule H market.points_per_bit s) us)
  rule_ends_fit s [] = tt
  rule_ends_fit s (u ∷ us) =
      let fits = payment_by_rule_fits H market.points_per_bit s u bounded.within legal.few_points in
      (record { low = fits.0; high = fits.1 }, rule_ends_fit s us)

  settling_follows : (reply : Reply) → is_settled H ≡ false → SettlingIs market H reply → Follows Settle reply
  settling_follows reply before (inl (few, listed)) =
      reply_appends (MayFollow market H) market H Settle reply _ listed.printed
      (before, ends_fit listed.state 0 (users H) listed.payments listed.paid)
  settling_follows reply before (inr (many, e)) =
      reply_appends (MayFollow market H) market H Settle reply _ e
      (before, rule_ends_fit (outcome market.network H) (numbers_below (length (users H))))

  answer_follows : (quotes : Quotes) (command : Command) (reply : Reply) → JoinsByName (OfCommand command) → first_refusal market H command ≡ None → IsAnswer market H quotes command reply → Follows command reply
  answer_follows quotes (User u) reply text none h = user_follows u reply text none h
  answer_follows quotes (Deposit u bits) reply text none h =
      let refused = none_applies (refusals market H (Deposit u bits)) none in
      reply_appends (MayFollow market H) market H (Deposit u bits) reply _ h (transfer_of H u bits refused.1.0 refused.1.1.0, has_room market.max_transfers (count_by is_transfer H) refused.1.1.1.0)
  answer_follows quotes (Withdraw u bits) reply text none h =
      let least = value_of _ (least_gain market.network H (user_number H u) always) h in
      withdrawal_follows u bits least.0 reply none least.2
  answer_follows quotes (Price q) reply text none h = reply_appends (MayFollow market H) market H (Price q) reply _ (value_of _ (question_named market.network q) h).2.printed tt
  answer_follows quotes (Limits u q) reply text none h = reply_appends (MayFollow market H) market H (Limits u q) reply _ (value_of _ (question_named market.network q) h).2.printed tt
  answer_follows quotes (Edit u q X seen) reply text none h =
      let refused = none_applies (refusals market H (Edit u q X seen)) none in
      let judged = value_of _ (question_named market.network q) h in
      judged_appends (MayFollow market H) market H u q X seen judged.0 reply (current_limits (last_quote quotes (user_number H u)) judged.0 (revision H))
      (trade_follows u q X seen judged.0 reply judged.1 (has_room market.max_trades (length (trades H)) refused.1.1.1.1.1.1.1.1.1.0)) judged.2
  answer_follows quotes (Bounds u v condition) reply text none h =
      reply_appends (MayFollow market H) market H (Bounds u v condition) reply _ (value_of _ (spread_named market.network v condition.items) h).2.printed tt
  answer_follows quotes (Spread u v condition to seen) reply text none h =
      let refused = none_applies (refusals market H (Spread u v condition to seen)) none in
      let judged = value_of _ (spread_named market.network v condition.items) h in
      spread_appends (MayFollow market H) market H u v condition to seen judged.0 reply (current_bounds (last_quote quotes (user_number H u)) judged.0 (revision H))
      (spread_follows u v condition to seen judged.0 reply judged.1 (has_room market.max_trades (length (trades H)) refused.1.1.1.1.1.1.1.1.1.1.1.1.0)) judged.2
  answer_follows quotes (Paid u) reply text none h = reply_appends (MayFollow market H) market H (Paid u) reply _ h tt
  answer_follows quotes (Worst u) reply text none h =
      reply_appends (MayFollow market H) market H (Worst u) reply _ (value_of _ (least_gain market.network H (user_number H u) always) h).2.printed tt
  answer_follows quotes Bound reply text none h = reply_appends (MayFollow market H) market H Bound reply _ h.printed tt
  answer_follows quotes (Prices v condition) reply text none h =
      let told = value_of _ (spread_named market.network v condition.items) h in
      reply_appends (MayFollow market H) market H (Prices v condition) reply _ told.2.printed tt
  answer_follows quotes (Position u v condition) reply text none h =
      let told = value_of _ (spread_named market.network v condition.items) h in
      reply_appends (MayFollow market H) market H (Position u v condition) reply _ told.2.printed tt
  answer_follows quotes Status reply text none h =
      reply_appends (MayFollow market H) market H Status reply _ h tt
  answer_follows quotes (Add add) reply text none (inl (words, e)) =
      reply_appends (MayFollow market H) market H (Add add) reply _ e tt
  answer_follows quotes (Add add) reply text none (inr e) =
      reply_appends (MayFollow market H) market H (Add add) reply _ e tt
  answer_follows quotes (Resolve p) reply text none h = reply_appends (MayFollow market H) market H (Resolve p) reply _ h (resolves (pair_named market.network p))
    where
      resolves : (o : Option _) → IfSome (option_map Resolves o) (MayFollow market H)
      resolves None = tt
      resolves (Some pair) = tt
  answer_follows quotes Settle reply text none h =
      let refused = none_applies (refusals market H Settle) none in
      settling_follows reply (not_faulted _ _ refused.0) (settling_is market H reply h)

  allowed_follows : (quotes : Quotes) (command : Command) (reply : Reply) → JoinsByName (OfCommand command) → IsAllowed market H quotes command reply → Follows command reply
  allowed_follows quotes command reply text h = at (first_refusal market H command) refl h
    where
      at : (o : Option Refusal) → first_refusal market H command ≡ o → MatchOption o (IsAnswer market H quotes command reply) (λ why. reply ≡ Refused why) → Follows command reply
      at None none h = answer_follows quotes command reply text none h
      at (Some why) e h = reply_appends (MayFollow market H) market H command reply _ h (refused_appends (MayFollow market H) market H command why)

appended_bounded : (market : Market) (H : List Entry) (o : Option Entry)
    → IsLimited market → IsBounded market H → IfSome o (MayFollow market H) → IsBounded market (H ++ option_to_list o)
appended_bounded market H None few bounded h = subst (IsBounded market) (sym (append-nil H)) bounded
appended_bounded market H (Some e) few bounded h = entry_bounded market H few bounded e h

pub names_keep_bounds : (market : Market) (now : Standing) (line : Line) (reply : Reply)
    → IsLimited market → JoinsByName line → IsBounded market now.history
    → IsAllowedFor market now line reply → IsBounded market (after market now line reply).history
names_keep_bounds market now (OfCommand command) reply few joins bounded h =
    appended_bounded market now.history (entry_of market now.history command reply) few bounded
    (allowed_follows market now.history few bounded now.quotes command reply joins h)
names_keep_bounds market now NoCommand reply few joins bounded h = bounded
names_keep_bounds market now LongLine reply few joins bounded h = bounded

-- a command that is a text joins a user by a name
pub joins_by_name : (line : Line) → IsLine line → JoinsByName line
joins_by_name (OfCommand (User u)) text = text
joins_by_name (OfCommand (Deposit u bits)) text = tt
joins_by_name (OfCommand (Withdraw u bits)) text = tt
joins_by_name (OfCommand (Price q)) text = tt
joins_by_name (OfCommand (Limits u q)) text = tt
joins_by_name (OfCommand (Edit u q X seen)) text = tt
joins_by_name (OfCommand (Bounds u v condition)) text = tt
joins_by_name (OfCommand (Spread u v condition to seen)) text = tt
joins_by_name (OfCommand (Worst u)) text = tt
joins_by_name (OfCommand (Paid u)) text = tt
joins_by_name (OfCommand (Resolve p)) text = tt
joins_by_name (OfCommand Settle) text = tt
joins_by_name (OfCommand Bound) text = tt
joins_by_name (OfCommand (Prices v condition)) text = tt
joins_by_name (OfCommand (Position u v condition)) text = tt
joins_by_name (OfCommand Status) text = tt
joins_by_name (OfCommand (Add add)) text = tt
joins_by_name NoCommand text = tt
joins_by_name LongLine text = tt

pub bounded_keeps : (market : Market) (now : Standing) (line : Line) (reply : Reply)
    → IsLimited market → IsLine line → IsBounded market now.history
    → IsAllowedFor market now line reply → IsBounded market (after market now line reply).history
bounded_keeps market now line reply few text =
    names_keep_bounds market now line reply few (joins_by_name line text)

-- what bounds a history does not look at what was added
pub bounded_in : (market later : Market) (H : List Entry) → market.max_trades ≡ later.max_trades
    → market.max_users ≡ later.max_users → market.max_transfers ≡ later.max_transfers → IsBounded market H → IsBounded later H
bounded_in market later H same users_same transfers_same bounded = record {
  within = bounded.within;
  few_users = omega (arith, users_same, bounded.few_users);
  users_named = bounded.users_named;
  users_distinct = bounded.users_distinct;
  few_trades = omega (arith, same, bounded.few_trades);
  few_transfers = omega (arith, transfers_same, bounded.few_transfers);
  transfers_fit = bounded.transfers_fit;
  settled_once = bounded.settled_once;
  payments_fit = bounded.payments_fit;
}

pub run_keeps_bounded : (market : Market) (old new : Standing) (lines : List Line)
    (replies : List Reply) → IsLimited market → AllByRecursion IsLine lines
    → IsBounded market old.history → Run market old lines replies new → IsBounded market new.history
run_keeps_bounded market old new [] [] few text bounded h =
    subst (λ (now : Standing). IsBounded market now.history) (sym h) bounded
run_keeps_bounded market old new [] (reply ∷ replies) few text bounded h = absurd h
run_keeps_bounded market old new (line ∷ lines) [] few text bounded h = absurd h
run_keeps_bounded market old new (line ∷ lines) (reply ∷ replies) few text bounded h =
    let here = present market old.history in
    let next = after here old line reply in
    let bounded_here = bounded_in market here old.history refl refl refl bounded in
    let few_here : IsLimited here = record { few_points = few.few_points; few_trades = few.few_trades; few_transfers = few.few_transfers } in
    let bounded_next = bounded_keeps here old line reply few_here text.0 bounded_here h.0 in
    run_keeps_bounded market next new lines replies few text.1
    (bounded_in here market next.history refl refl refl bounded_next) h.1

pub opening_is_bounded : (market : Market) → IsBounded market []
opening_is_bounded market = record {
  within = record { few_trades = omega arith; units_fit = tt; few_transfers = omega arith; few_bits = tt };
  few_users = omega arith;
  users_named = tt;
  users_distinct = λ i j d p q. absurd (omega arith);
  few_trades = omega arith;
  few_transfers = omega arith;
  transfers_fit = tt;
  settled_once = omega arith;
  payments_fit = tt;
}
