-- A change that is taken back harms nothing, whatever its units are.
use Rattle.std.proofs.Common.{◌≡◌, ℕ, ◌+◌, ◌<◌, ◌≤◌, List, [], ◌∷◌, ◌++◌, length, Option, Some}
use Rattle.std.proofs.Common.{None, IfSome, refl, sym, ◌∙◌, subst, arith, append-nil}
use Rattle.std.specs.Prelude.{⊤}
use Rattle.std.specs.Prelude.{option_to_list}
use Rattle.std.specs.List.{AllByRecursion, All, count_by}
use Rattle.std.proofs.lemmas.Bool.{leb-false}
use Rattle.std.proofs.lemmas.List.Elements.{recursion_from_All}
use Rattle.arrayvec.specs.ArrayVec.{ArrayVec}
use Rattle.mk_net.specs.declared.words.PairText.{PairText}
use Rattle.mk_net.specs.declared.words.QuestionText.{QuestionText}
use Rattle.mk_net.specs.Bounds.{max_transfer_bits, number_limit}
use Rattle.mk_net.specs.Network.{sizes}
use Rattle.mk_net.specs.Firsts.{first_of}
use Rattle.std.specs.Prelude.{slice_index}
use Rattle.mk_exact.specs.History.{Entry, Join, Deposit as Deposits}
use Rattle.mk_exact.specs.History.{Withdraw as Withdraws, Trade, Resolve as Resolves}
use Rattle.mk_exact.specs.History.{Settle as Settles, Add, trade_in, users, trades, is_transfer}
use Rattle.mk_exact.specs.History.{revision}
use Rattle.mk_exact.specs.Accepted.{IsInRange}
use Rattle.mk_exact.specs.Market.{Market, present, with_entry}
use Rattle.mk_exact.specs.Proper.{IsProper}
use Rattle.mk_exact.proofs.Range.{empty_proper}
use Rattle.mk_grown.proofs.Present.{proper_after}
use Rattle.mk_states.proofs.Sums.{each_weaker}
use Rattle.mk_command.specs.declared.command.Command.{Command}
use Rattle.mk_command.specs.declared.command.Command.TheVariants.{User, Deposit, Withdraw, Price}
use Rattle.mk_command.specs.declared.command.Command.TheVariants.{Limits, Edit, Bounds, Spread}
use Rattle.mk_command.specs.declared.command.Command.TheVariants.{Worst, Resolve, Settle, Bound}
use Rattle.mk_command.specs.declared.command.Command.TheVariants.{Prices, Position, Status, Add as AddCommand}
use Rattle.mk_reply.specs.declared.reply.Reply.{Reply}
use Rattle.mk_reply.specs.declared.reply.Reply.TheVariants.{Joined, Deposited, Withdrawn, Traded}
use Rattle.mk_reply.specs.declared.reply.Reply.TheVariants.{Spreaded, Resolved, Settled, Bounded}
use Rattle.mk_reply.specs.declared.reply.Reply.TheVariants as replies
use Rattle.mk_reply.specs.Replies.{IsReply, IsRatio}
use Rattle.mk_rules.specs.Refusals.{user_number, no_user, range, transfers_full}
use Rattle.mk_rules.specs.Answers.{entry_of, next_history}
use Rattle.mk_rules.specs.Standings.{IsMarket, IsInClique}
use Rattle.mk_rules.specs.Bounded.{IsTransferOf, JoinsByName}
use Rattle.mk_rules.specs.Transcript.{OfCommand, with_entries}
use Rattle.mk_rules.proofs.Appended.{Appends, reply_appends}
use Rattle.mk_rules.proofs.Bounds.{MayFollow, entry_bounded}
use Rattle.mk_rules.proofs.Follows.{opening_is_bounded, joins_by_name, bounded_in}
use Rattle.mk_rules.proofs.Keeps.{inside_after, present_with}
use Rattle.mk_rules.proofs.Coming.{some_with_pair}
use Rattle.mk_rules.proofs.Spreads.{spread_is, spread_not_wide}
use Rattle.mk_rules.proofs.Spreadable.{spread_exists, as_many_shares}
use Rattle.mk_rules.proofs.Traded.{ratio_fits, each_factor}
use Rattle.mk_rules.proofs.Additions.{longer_is_network, market_with}
use Rattle.mk_rules.proofs.Unrefused.{none_applies, not_faulted, user_in_range, number_in_range}
use Rattle.mk_rules.proofs.Unrefused.{question_exists, question_known, not_wide, pair_known}
use Rattle.mk_rules.proofs.Unrefused.{not_resolved}
use Rattle.mk_restore.specs.Restoring.{Agrees, refusals_again, IsFit, IsChange}
use Rattle.mk_restore.specs.Laws.{IsSafe, FitIsSafe, OpeningIsSafe, RestoredIsSafe}
use Rattle.mk_command.specs.declared.command.Command.TheVariants.{Paid}
use Rattle.mk_restore.proofs.Settled.{SettledIs, settled_is}
use Rattle.std.proofs.Common.{inl, inr}
use Rattle.std.proofs.Common.{map, false}
use Rattle.mk_states.specs.States.{numbers_below}
use Rattle.mk_exact.specs.History.{is_settled}
use Rattle.mk_exact.specs.ByRule.{outcome}
use Rattle.mk_reply.specs.declared.payments.Payment.{Payment}
use Rattle.mk_reply.specs.Replies.{IsPayment as IsReadPayment}
use Rattle.mk_rules.specs.Answers.{ends_of}
use Rattle.mk_rules.specs.Bounded.{FitPayment, IsBounded}
use Rattle.mk_rules.proofs.Bounds.{limits_of}
use Rattle.mk_rules.proofs.Follows.{rule_ends_fit}

-- the units of a reply are positive and fit 63 bits, and so do the payments that it lists
abbrev pub HasUnits : Reply → Type 0
HasUnits (Traded hit miss at) = IsRatio hit × IsRatio miss
HasUnits (Spreaded factors at) = All IsRatio factors.items
HasUnits (Settled at payments) = AllByRecursion FitPayment (map ends_of payments)
HasUnits _ = ⊤

listed_fit : (payments : List Payment) → AllByRecursion IsReadPayment payments → AllByRecursion FitPayment (map ends_of payments)
listed_fit [] h = tt
listed_fit (payment ∷ payments) h = (record { low = h.0.low; high = h.0.high }, listed_fit payments h.1)

-- as those of a reply that has a text
has_units : (r : Reply) → IsReply r → HasUnits r
has_units (Joined user at) h = tt
has_units (Deposited user bits at) h = tt
has_units (Withdrawn user bits at) h = tt
has_units (replies.Price low high) h = tt
has_units (replies.Limits limits at) h = tt
has_units (Traded hit miss at) h = (h.0, h.1)
has_units (Bounded intervals at) h = tt
has_units (Spreaded factors at) h = h.0.each
has_units (replies.Worst low high) h = tt
has_units (Resolved pair at) h = tt
has_units (Settled at payments) h = listed_fit payments (recursion_from_All IsReadPayment payments h.1.each)
has_units (replies.SettledAll at users total) h = tt
has_units (replies.Paid payment) h = tt
has_units (replies.Bound low high) h = tt
has_units (replies.Prices intervals) h = tt
has_units (replies.Position intervals) h = tt
has_units (replies.Status at users trades most transfers most_transfers unresolved questions) h = tt
has_units (replies.Added variable at) h = tt
has_units (replies.Refused why) h = tt

each_of : (P Q : ℕ → Type 0) → ((n : ℕ) → P n → Q n) → (xs : List ℕ) → All P xs
    → AllByRecursion Q xs
each_of P Q f xs h = each_weaker P Q f xs (recursion_from_All P xs h)

-- an entry after which all that safety rests on stands
record MayBeNext (market : Market) (H : List Entry) (e : Entry) : Type 0 where
  in_range : IsInRange market.network H e
  narrow : IfSome (trade_in e) (IsInClique market.cliques)
  legal : IsMarket market → IsMarket (with_entry e market)
  follows : MayFollow market H e

-- whatever an entry adds, the market takes as many trades, users and transfers as before
same_limits : (market : Market) (e : Entry)
    → (market.max_trades ≡ (with_entry e market).max_trades)
    × (market.max_users ≡ (with_entry e market).max_users)
    × (market.max_transfers ≡ (with_entry e market).max_transfers)
same_limits market (Join name) = (refl, refl, refl)
same_limits market (Deposits u bits) = (refl, refl, refl)
same_limits market (Withdraws u bits) = (refl, refl, refl)
same_limits market (Trade u r) = (refl, refl, refl)
same_limits market (Resolves p) = (refl, refl, refl)
same_limits market (Settles paid) = (refl, refl, refl)
same_limits market (Add a) = (refl, refl, refl)

next_is_safe : (market : Market) (H : List Entry) (o : Option Entry) → IsSafe market H
    → IfSome o (MayBeNext market H) → IsSafe (with_entries o market) (H ++ option_to_list o)
next_is_safe market H None safe h = rw (append-nil H) safe
next_is_safe market H (Some e) safe h =
    let inside = inside_after market H e (safe.none_wide, safe.few_added) h.narrow in
    record {
      legal = h.legal safe.legal;
      proper = proper_after market H e safe.proper h.in_range;
      none_wide = inside.0;
      few_added = inside.1;
      bounded = let same = same_limits market e in
          bounded_in market (with_entry e market) (H ++ e ∷ []) same.0 same.1 same.2
          (entry_bounded market H (limits_of market safe.legal) safe.bounded e h.follows);
    }

module _ (market : Market) (H : List Entry) where
  -- no refusal that is tried again applies
  IsUnrefused : Command → Type 0
  IsUnrefused command = first_of (refusals_again market H command) ≡ None

  abbrev Follows : Command → Reply → Type 0
  Follows command reply = Appends (MayBeNext market H) market H command reply

  transfer_of : (u : List ℕ) (bits : ℕ) → no_user H u ≡ None → range max_transfer_bits bits ≡ None
      → transfers_full market H ≡ None
      → IsTransferOf (length (users H)) (user_number H u) bits ×
      (count_by is_transfer H < market.max_transfers)
  transfer_of u bits joined within room =
      let numbers = number_in_range max_transfer_bits bits within in (
        record { user = user_in_range H u joined; some = numbers.0; few = numbers.1 },
        leb-false market.max_transfers (count_by is_transfer H) (not_faulted _ _ room),
      )

  next_in_place : (e : Entry) → IsInRange market.network H e
      → IfSome (trade_in e) (IsInClique market.cliques)
      → (IsMarket market → IsMarket (with_entry e market)) → MayFollow market H e
      → MayBeNext market H e
  next_in_place e in_range narrow legal follows =
      record { in_range = in_range; narrow = narrow; legal = legal; follows = follows }

  edit_follows : (u : List ℕ) (q : QuestionText) (X : ℕ) (seen : Option ℕ) (hit miss at : ℕ)
      → IsRatio hit → IsRatio miss
      → IsUnrefused (Edit u q X seen) → Follows (Edit u q X seen) (Traded hit miss at)
  unfolding IsUnrefused
  edit_follows u q X seen hit miss at of_hit of_miss none =
      let network = market.network in
      let refused = none_applies (refusals_again market H (Edit u q X seen)) none in
      let asked = question_exists network q refused.1.1.0 in
      let fits = question_known network q asked.0 refused.1.1.0 asked.1 in
      rw asked.1 (record {
        in_range =
            record {
              user = user_in_range H u refused.1.0;
              ratio = ratio_fits network asked.0 hit miss fits of_hit.positive of_miss.positive;
            };
        narrow = not_wide market H q asked.0 asked.1 refused.1.1.1.1.1.1.1.0;
        legal = λ is_market. is_market;
        follows = (
          each_factor (λ n. n < number_limit) asked.0.target.value
              (slice_index (sizes network) asked.0.target.variable) hit miss
              of_hit.below of_miss.below,
          leb-false market.max_trades (length (trades H))
              (not_faulted _ _ refused.1.1.1.1.1.1.1.1.1.0),
        );
      })

  spread_follows : (u v : List ℕ) (condition : ArrayVec PairText) (to : ArrayVec ℕ)
      (seen : Option ℕ) (factors : ArrayVec ℕ) (at : ℕ)
      → All IsRatio factors.items → length factors.items ≡ length to.items
      → IsUnrefused (Spread u v condition to seen)
      → Follows (Spread u v condition to seen) (Spreaded factors at)
  unfolding IsUnrefused
  spread_follows u v condition to seen factors at units as_many none =
      let network = market.network in
      let refused = none_applies (refusals_again market H (Spread u v condition to seen)) none in
      let spread = spread_exists network v condition.items refused.1.1.0 in
      let fits = spread_is network v condition.items spread.0 spread.1 in
      rw spread.1 (record {
        in_range = record {
          user = user_in_range H u refused.1.0;
          ratio = record {
            variable = fits.variable;
            condition = fits.condition;
            one_each =
                as_many
                ∙ as_many_shares network v condition.items spread.0 to.items spread.1
                refused.1.1.1.1.1.1.1.1.1.0;
            positive = each_of IsRatio (λ n. 1 ≤ n) (λ n is. is.positive) factors.items units;
          };
        };
        narrow =
            spread_not_wide market H v condition.items spread.0 spread.1 refused.1.1.1.1.1.1.1.1.0;
        legal = λ is_market. is_market;
        follows = (
          each_of IsRatio (λ n. n < number_limit) (λ n is. is.below) factors.items units,
          leb-false market.max_trades (length (trades H))
              (not_faulted _ _ refused.1.1.1.1.1.1.1.1.1.1.1.1.0),
        );
      })

  resolve_follows : (p : PairText) (at : ℕ) → IsProper market.network H
      → IsUnrefused (Resolve p) → Follows (Resolve p) (Resolved p at)
  unfolding IsUnrefused
  resolve_follows p at proper none =
      let network = market.network in
      let refused = none_applies (refusals_again market H (Resolve p)) none in
      let named = pair_known network p refused.1.0 in
      rw named.1 (record {
        in_range = (
          named.2,
          not_resolved network H p named.0 named.1 refused.1.1.0,
          some_with_pair network H proper p named.0 named.1 refused.1.1.1.0,
        );
        narrow = tt;
        legal = λ is_market. is_market;
        follows = tt;
      })

  fit_follows : (command : Command) (reply : Reply) → IsMarket market → IsProper market.network H
      → IsBounded market H → JoinsByName (OfCommand command) → HasUnits reply
      → IsUnrefused command → Agrees market H command reply → Follows command reply
  unfolding IsUnrefused
  fit_follows (User u) reply legal proper bounded joins units none e =
      let refused = none_applies (refusals_again market H (User u)) none in
      reply_appends (MayBeNext market H) market H (User u) reply _ e (record {
        in_range = tt;
        narrow = tt;
        legal = λ is_market. is_market;
        follows = (
          joins,
          leb-false market.max_users (length (users H))
              (not_faulted _ _ refused.1.1.0),
          not_faulted _ _ refused.1.0,
        );
      })
  fit_follows (Deposit u bits) reply legal proper bounded joins units none e =
      let refused = none_applies (refusals_again market H (Deposit u bits)) none in
      reply_appends (MayBeNext market H) market H (Deposit u bits) reply _ e
      (next_in_place (Deposits (user_number H u) bits) tt tt (λ is_market. is_market)
      (transfer_of u bits refused.1.0 refused.1.1.0 refused.1.1.1.0))
  fit_follows (Withdraw u bits) reply legal proper bounded joins units none e =
      let refused = none_applies (refusals_again market H (Withdraw u bits)) none in
      reply_appends (MayBeNext market H) market H (Withdraw u bits) reply _ e
      (next_in_place (Withdraws (user_number H u) bits) tt tt (λ is_market. is_market)
      (transfer_of u bits refused.1.0 refused.1.1.0 refused.1.1.1.0))
  fit_follows (Price q) reply legal proper bounded joins units none h = absurd h
  fit_follows (Limits u q) reply legal proper bounded joins units none h = absurd h
  fit_follows (Edit u q X seen) reply legal proper bounded joins units none trade =
      let its = subst HasUnits trade.printed units in
      reply_appends (MayBeNext market H) market H (Edit u q X seen) reply _ trade.printed
      (edit_follows u q X seen trade.hit trade.miss (revision H + 1) its.0 its.1 none)
  fit_follows (Bounds u v condition) reply legal proper bounded joins units none h = absurd h
  fit_follows (Spread u v condition to seen) reply legal proper bounded joins units none trade =
      let its = subst HasUnits trade.printed units in
      reply_appends (MayBeNext market H) market H
      (Spread u v condition to seen) reply _ trade.printed
      (spread_follows u v condition to seen trade.factors
      (revision H + 1) its trade.one_each none)
  fit_follows (Paid u) reply legal proper bounded joins units none h = absurd h
  fit_follows (Worst u) reply legal proper bounded joins units none h = absurd h
  fit_follows (Resolve p) reply legal proper bounded joins units none e =
      reply_appends (MayBeNext market H) market H (Resolve p) reply _ e
      (resolve_follows p (revision H + 1) proper none)
  fit_follows Settle reply legal proper bounded joins units none settlement =
      let before = not_faulted _ _ (none_applies (refusals_again market H Settle) none).0 in
      settles before (settled_is market H reply settlement)
    where
      settles : is_settled H ≡ false → SettledIs market H reply → Follows Settle reply
      settles before (inl listed) =
          reply_appends (MayBeNext market H) market H Settle reply _ listed.printed (record {
            in_range = tt;
            narrow = tt;
            legal = λ is_market. is_market;
            follows = (before, subst HasUnits listed.printed units);
          })
      settles before (inr e) =
          reply_appends (MayBeNext market H) market H Settle reply _ e (record {
            in_range = tt;
            narrow = tt;
            legal = λ is_market. is_market;
            follows = (
              before,
              rule_ends_fit market H (limits_of market legal) bounded
                  (outcome market.network H) (numbers_below (length (users H))),
            );
          })
  fit_follows Bound reply legal proper bounded joins units none h = absurd h
  fit_follows (Prices v condition) reply legal proper bounded joins units none h = absurd h
  fit_follows (Position u v condition) reply legal proper bounded joins units none h = absurd h
  fit_follows Status reply legal proper bounded joins units none h = absurd h
  fit_follows (AddCommand add) reply legal proper bounded joins units none agrees =
      reply_appends (MayBeNext market H) market H (AddCommand add) reply _ agrees.1
      (record {
        in_range = longer_is_network market H add legal agrees.0 none;
        narrow = tt;
        legal = λ is_market. market_with market H add is_market agrees.0 none;
        follows = tt;
      })

-- a change that is taken back keeps a safe history safe, also where it was never a text
pub fit_keeps_safe : (market : Market) (H : List Entry) (command : Command) (reply : Reply)
    → JoinsByName (OfCommand command) → HasUnits reply → IsSafe market H
    → IsFit market H command reply
    → IsSafe (with_entries (entry_of market H command reply) market)
    (next_history market H command reply)
unfolding IsUnrefused
fit_keeps_safe market H command reply joins units safe fit =
    next_is_safe market H (entry_of market H command reply) safe
    (fit_follows market H command reply safe.legal safe.proper safe.bounded joins units fit.unrefused fit.agrees)

pub fit_is_safe : FitIsSafe
fit_is_safe market H command reply text safe fit =
    fit_keeps_safe market H command reply (joins_by_name (OfCommand command) text.0)
    (has_units reply text.1) safe fit

pub opening_is_safe : OpeningIsSafe
opening_is_safe market is_market =
    record {
      legal = is_market;
      proper = empty_proper
          market.network is_market.network;
      none_wide = tt;
      few_added = omega (arith, is_market.network.some);
      bounded = opening_is_bounded market;
    }

SafeIn : List Entry → Market → Type 0
SafeIn H market = IsSafe market H

-- and keeps it so in the market of the longer history
step_is_safe : (market : Market) (H : List Entry) (command : Command) (reply : Reply)
    → IsChange (command, reply) → IsSafe (present market H) H
    → IsFit (present market H) H command reply
    → IsSafe (present market (next_history (present market H) H command reply))
    (next_history (present market H) H command reply)
unfolding SafeIn
step_is_safe market H command reply text safe fit =
    let here = present market H in
    let entry = entry_of here H command reply in
    subst (SafeIn (H ++ option_to_list entry)) (sym (present_with market H entry))
    (fit_is_safe here H command reply text safe fit)

pub restored_is_safe : RestoredIsSafe
restored_is_safe market old new [] text safe h =
    subst (λ (H : List Entry). IsSafe (present market H) H) (sym h) safe
restored_is_safe market old new (change ∷ changes) text safe h =
    let later = next_history (present market old) old (change.0) (change.1) in
    restored_is_safe market later new changes text.1
    (step_is_safe market old (change.0) (change.1) text.0 safe h.0) h.1
