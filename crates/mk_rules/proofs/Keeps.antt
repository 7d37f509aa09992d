-- What an allowed reply keeps.
use Rattle.std.proofs.Common.{◌≡◌, ℕ, ◌+◌, ◌-◌, ◌<◌, ◌≤◌, ◌⊎◌, inl, inr}
use Rattle.std.proofs.Common.{Bool, true, false, not, ◌||◌, List, [], ◌∷◌, ◌++◌, length, sum}
use Rattle.std.proofs.Common.{Option, Some, None, IfSome, MatchOption}
use Rattle.std.proofs.Common.{refl, sym, ap, ◌∙◌, subst, arith, append-nil, length-append}
use Rattle.std.specs.Prelude.{option_to_list, ◌==◌}
use Rattle.std.specs.List.{AllByRecursion, list_any, list_all}
use Rattle.std.proofs.lemmas.List.Elements.{filter_map-append}
use Rattle.std.proofs.lemmas.List.Folds.{list_any-append}
use Rattle.arrayvec.specs.ArrayVec.{ArrayVec}
use Rattle.mk_net.specs.declared.words.PairText.{PairText}
use Rattle.mk_net.specs.declared.words.QuestionText.{QuestionText}
use Rattle.mk_net.specs.Bounds.{million}
use Rattle.mk_net.specs.Asked.{Asked}
use Rattle.mk_states.specs.Events.{always}
use Rattle.mk_net.specs.Bounds.{sharpness}
use Rattle.mk_exact.specs.History.{Entry, UserTrade, Join, Deposit as Deposits, Withdraw as Withdraws}
use Rattle.mk_exact.specs.History.{Trade, Resolve as Resolves, Settle as Settles, Add as Adds}
use Rattle.mk_exact.specs.History.{Addition}
use Rattle.mk_exact.specs.History.{trade_in, addition_in, users, trades, additions, revision}
use Rattle.mk_exact.specs.Weight.{IsSmall}
use Rattle.mk_exact.specs.Factors.{HoldsNoTrade, factor_with, least_gain}
use Rattle.mk_states.specs.OfNetwork.{IsQuestionOf}
use Rattle.mk_exact.specs.Proper.{IsProper}
use Rattle.mk_exact.specs.Accepted.{Covers, IsAcceptable, IsInRange}
use Rattle.mk_exact.specs.Market.{Market, present, with_entry}
use Rattle.mk_exact.proofs.After.{kept_where, trades_kept, trades_more}
use Rattle.mk_exact.proofs.Single.{empty_sound}
use Rattle.mk_states.proofs.Sums.{each-append, each_weaker}
use Rattle.mk_exact.proofs.Range.{empty_proper, fair_pair_is_safe}
use Rattle.mk_grown.proofs.Present.{present_at_first, present_after, sound_after, proper_after}
use Rattle.mk_spread.specs.Spreads.{SpreadAsked, IsSpreadOf}
use Rattle.mk_spread.proofs.Fair.{fair_list_is_ratio}
use Rattle.mk_spread.proofs.Safe.{fair_list_is_safe}
use Rattle.mk_command.specs.declared.command.Command.{Command}
use Rattle.mk_command.specs.declared.command.Command.TheVariants.{User, Deposit, Withdraw, Price, Limits, Edit, Bounds, Spread, Worst, Resolve, Settle, Bound}
use Rattle.mk_command.specs.declared.command.Command.TheVariants.{Prices, Position, Status, Add}
use Rattle.mk_reply.specs.declared.refusal.Refusal.{Refusal}
use Rattle.mk_reply.specs.declared.refusal.Refusal.TheVariants.{Memory}
use Rattle.mk_reply.specs.declared.reply.Reply.{Reply}
use Rattle.mk_reply.specs.declared.reply.Reply.TheVariants.{Joined, Resolved, Added, Refused}
use Rattle.mk_rules.specs.Refusals.{question_named, spread_named, variables_in, is_wide, user_number, refusals, first_refusal}
use Rattle.mk_rules.specs.Quotes.{Quotes, last_quote, current_limits, current_bounds}
use Rattle.mk_rules.specs.Answers.{IsTrade, IsSpreadTrade, IsWithdrawal, IsAnswer, IsAllowed, entry_of}
use Rattle.mk_rules.specs.Transcript.{Standing, Line, OfCommand, NoCommand, LongLine}
use Rattle.mk_rules.specs.Transcript.{IsAllowedFor, after, with_entries, market_after, Run}
use Rattle.mk_rules.specs.Standings.{IsMarket, variables_of, IsInClique, Stands}
use Rattle.mk_addition.specs.Adds.{IsAddText}
use Rattle.mk_addition.specs.declared.add.AddText.{AddText}
use Rattle.mk_rules.proofs.Additions.{longer_is_network, market_with}
use Rattle.mk_rules.proofs.Options.{value_of}
use Rattle.mk_rules.proofs.Appended.{Appends, refused_appends, reply_appends, judged_appends, spread_appends}
use Rattle.mk_rules.proofs.Unrefused.{none_applies, user_in_range, number_in_range, pair_known, question_known, not_resolved, not_wide}
use Rattle.mk_rules.proofs.Spreads.{spread_is, spread_not_wide, sum_is_million}
use Rattle.mk_rules.proofs.Traded.{ratio_fits}
use Rattle.mk_rules.proofs.Coming.{some_with_pair}
use Rattle.mk_net.specs.Firsts.{first_of}
use Rattle.mk_exact.specs.History.{is_settlement, is_settled}
use Rattle.mk_exact.specs.Sides.{ratio_in}
use Rattle.mk_exact.proofs.ExistOutcome.{outcome_exists}
use Rattle.mk_spread.specs.Spreads.{spread_ratio}
use Rattle.mk_command.specs.declared.command.Command.TheVariants.{Paid}
use Rattle.mk_rules.specs.Refusals.{settled}
use Rattle.mk_rules.specs.Additions.{addition_of}
use Rattle.mk_rules.specs.Standings.{ArePaidOff}
use Rattle.mk_rules.proofs.Unrefused.{not_faulted, all_resolved}
use Rattle.mk_rules.proofs.Paying.{SettlingIs, settling_is, listed_pays_off, rule_pays_off}

-- an entry that may be appended
record Fits (market : Market) (H : List Entry) (e : Entry) : Type 0 where
  acceptable : IsAcceptable market.network H e
  in_range : IsInRange market.network H e
  narrow : IfSome (trade_in e) (IsInClique market.cliques)
  legal : IsMarket market → IsMarket (with_entry e market)
  paid_off : is_settled (H ++ e ∷ []) ≡ true → ArePaidOff (with_entry e market) (H ++ e ∷ [])

-- what holds of each trade before an entry and of its own holds of each trade after it
each_trade : (P : UserTrade → Type 0) (H : List Entry) (e : Entry) → AllByRecursion P (trades H) → IfSome (trade_in e) P → AllByRecursion P (trades (H ++ e ∷ []))
each_trade P H (Join name) h k = subst (AllByRecursion P) (sym (trades_kept H (Join name) refl)) h
each_trade P H (Deposits u bits) h k = subst (AllByRecursion P) (sym (trades_kept H (Deposits u bits) refl)) h
each_trade P H (Withdraws u bits) h k = subst (AllByRecursion P) (sym (trades_kept H (Withdraws u bits) refl)) h
each_trade P H (Trade u r) h k = subst (AllByRecursion P) (sym (trades_more H u r)) (each-append P (trades H) (record { user = u; ratio = r } ∷ []) h (k, tt))
each_trade P H (Resolves p) h k = subst (AllByRecursion P) (sym (trades_kept H (Resolves p) refl)) h
each_trade P H (Settles paid) h k = subst (AllByRecursion P) (sym (trades_kept H (Settles paid) refl)) h
each_trade P H (Adds a) h k = subst (AllByRecursion P) (sym (trades_kept H (Adds a) refl)) h

-- what some clique holds it holds beside further cliques
any_longer : {X : Type 0} (test : X → Bool) (xs more : List X) → list_any test xs ≡ true
    → list_any test (xs ++ more) ≡ true
any_longer test xs more h = list_any-append test xs more ∙ ap (λ b. b || list_any test more) h

from_false : (b : Bool) → not b ≡ false → b ≡ true
from_false true h = refl
from_false false h = absurd (cc)

in_longer : (cliques more : List (List ℕ)) (t : UserTrade) → IsInClique cliques t
    → IsInClique (cliques ++ more) t
in_longer cliques more t h =
    ap not (any_longer holds_all cliques more (from_false (list_any holds_all cliques) h))
  where
    holds_all : List ℕ → Bool
    holds_all clique = list_all (λ x. list_any (λ v. v == x) clique) (variables_of t.ratio)

-- the trades of a history lie in cliques, and something was not added
abbrev pub IsInside : Market → List Entry → Type 0
IsInside market H = AllByRecursion (IsInClique market.cliques) (trades H)
    × (length (additions H) < length market.network)

module _ (market : Market) (H : List Entry) where
  inside_kept : (e : Entry) → addition_in e ≡ None → IsInside market H
      → IfSome (trade_in e) (IsInClique market.cliques) → IsInside market (H ++ e ∷ [])
  inside_kept e other inside narrow =
      let same = kept_where addition_in H e other in (
        each_trade (IsInClique market.cliques) H e inside.0 narrow,
        subst (λ (more : List Addition). length more < length market.network) (sym same) inside.1,
      )

  inside_more : (a : Addition) → IsInside market H
      → IsInside (with_entry (Adds a) market) (H ++ Adds a ∷ [])
  inside_more a inside =
      let longer = market.cliques ++ a.clique ∷ [] in
      let in_more = in_longer market.cliques (a.clique ∷ []) in
      let one_more : length (additions (H ++ Adds a ∷ [])) ≡ length (additions H) + 1 =
      ap length (filter_map-append addition_in H (Adds a ∷ []))
      ∙ length-append (additions H) (a ∷ []) in
      let old_in = each_weaker (IsInClique market.cliques) (IsInClique longer) in_more (trades H) in (
        each_trade (IsInClique longer) H (Adds a) (old_in inside.0) tt,
        omega (arith, inside.1, length-append market.network (a.variable ∷ [])),
      )

  pub inside_after : (e : Entry) → IsInside market H
      → IfSome (trade_in e) (IsInClique market.cliques)
      → IsInside (with_entry e market) (H ++ e ∷ [])
  inside_after (Adds a) inside narrow = inside_more a inside
  inside_after (Join name) inside narrow = inside_kept (Join name) refl inside narrow
  inside_after (Deposits u bits) inside narrow = inside_kept (Deposits u bits) refl inside narrow
  inside_after (Withdraws u bits) inside narrow = inside_kept (Withdraws u bits) refl inside narrow
  inside_after (Trade u r) inside narrow = inside_kept (Trade u r) refl inside narrow
  inside_after (Resolves p) inside narrow = inside_kept (Resolves p) refl inside narrow
  inside_after (Settles paid) inside narrow = inside_kept (Settles paid) refl inside narrow

entry_keeps : (market : Market) (H : List Entry) (o : Option Entry) → Stands market H
    → IfSome o (Fits market H) → Stands (with_entries o market) (H ++ option_to_list o)
entry_keeps market H None stands h = rw (append-nil H) stands
entry_keeps market H (Some e) stands h =
    let network = stands.legal.network in
    let inside = inside_after market H e (stands.none_wide, stands.few_added) h.narrow in
    record {
      legal = h.legal stands.legal;
      sound = sound_after market H e stands.proper stands.sound network h.acceptable h.in_range;
      proper = proper_after market H e stands.proper h.in_range;
      none_wide = inside.0;
      few_added = inside.1;
      paid_off = h.paid_off;
    }

-- what a reply appends may be appended
abbrev AppendsFit : Market → List Entry → Command → Reply → Type 0
AppendsFit market H command reply = Appends (Fits market H) market H command reply

-- behind an entry that is no settlement nothing is settled that was not
not_yet : {X : Type 0} (H : List Entry) (e : Entry) → is_settled H ≡ false → is_settlement e ≡ false → is_settled (H ++ e ∷ []) ≡ true → X
not_yet [] e before other now = absurd (let no : is_settled (e ∷ []) ≡ false = ap (λ (b : Bool). b || false) other in cc)
not_yet (d ∷ H) e before other now = at (is_settlement d) before now (not_yet H e)
  where
    at : {X : Type 0} (b : Bool) → (b || is_settled H) ≡ false → (b || is_settled (H ++ e ∷ [])) ≡ true
        → (is_settled H ≡ false → is_settlement e ≡ false → is_settled (H ++ e ∷ []) ≡ true → X) → X
    at true before now rest = absurd (cc)
    at false before now rest = rest before other now

user_fits : (market : Market) (H : List Entry) (u : List ℕ) (reply : Reply) → is_settled H ≡ false → (reply ≡ Joined u (revision H + 1)) ⊎ (reply ≡ Refused Memory) → AppendsFit market H (User u) reply
user_fits market H u reply before (inl e) = reply_appends (Fits market H) market H (User u) reply _ e
    (record { acceptable = tt; in_range = tt; narrow = tt; legal = λ is_market. is_market; paid_off = not_yet H (Join u) before refl })
user_fits market H u reply before (inr e) = reply_appends (Fits market H) market H (User u) reply _ e tt

withdrawal_fits : (market : Market) (H : List Entry) (u : List ℕ) (bits g : ℕ) (reply : Reply) → is_settled H ≡ false → least_gain market.network H (user_number H u) always ≡ Some g
    → IsWithdrawal (IsSmall market.network H) (HoldsNoTrade H (user_number H u))
    (sharpness market.max_trades)
    (factor_with H (user_number H u) g) u bits (revision H + 1) reply
    → AppendsFit market H (Withdraw u bits) reply
withdrawal_fits market H u bits g reply before e (inl taken) = reply_appends (Fits market H) market H (Withdraw u bits) reply _ taken.1
    (record {
      acceptable = subst (λ (o : Option ℕ). IfSome o (λ g. Covers (factor_with H (user_number H u) g) bits))
          (sym e) taken.0;
      in_range = tt;
      narrow = tt;
      legal = λ is_market. is_market;
      paid_off = not_yet H (Withdraws (user_number H u) bits) before refl;
    })
withdrawal_fits market H u bits g reply before e (inr short) = reply_appends (Fits market H) market H (Withdraw u bits) reply _ short.printed tt

trade_fits : (market : Market) (H : List Entry) (u : List ℕ) (q : QuestionText) (X : ℕ) (seen : Option ℕ) (asked : Asked) (reply : Reply)
    → is_settled H ≡ false → question_named market.network q ≡ Some asked → user_number H u < length (users H) → IsQuestionOf market.network asked
    → is_wide market.cliques (asked.target.variable ∷ variables_in asked.condition) ≡ false → X ≤ 999999
    → IsTrade market.network H (user_number H u) asked X reply → AppendsFit market H (Edit u q X seen) reply
trade_fits market H u q X seen asked reply before named user fits narrow most trade = reply_appends (Fits market H) market H (Edit u q X seen) reply _ trade.printed (rw named (record {
  acceptable = fair_pair_is_safe market.network H (user_number H u) asked X trade.hit trade.miss (omega arith) fits.target trade.fair;
  in_range = record { user = user; ratio = ratio_fits market.network asked trade.hit trade.miss fits trade.fair.hit_units.fair.positive trade.fair.miss_units.fair.positive };
  narrow = narrow;
  legal = λ is_market. is_market;
  paid_off = not_yet H (Trade (user_number H u) (ratio_in market.network asked trade.hit trade.miss)) before refl;
}))

spread_trade_fits : (market : Market) (H : List Entry) (u v : List ℕ) (condition : ArrayVec PairText) (to : ArrayVec ℕ) (seen : Option ℕ) (spread : SpreadAsked) (reply : Reply)
    → is_settled H ≡ false → spread_named market.network v condition.items ≡ Some spread → user_number H u < length (users H) → IsSpreadOf market.network spread
    → is_wide market.cliques (spread.variable ∷ variables_in spread.condition) ≡ false → sum to.items ≤ million
    → IsSpreadTrade market.network H (user_number H u) spread to.items reply → AppendsFit market H (Spread u v condition to seen) reply
spread_trade_fits market H u v condition to seen spread reply before named user fits narrow most trade =
    reply_appends (Fits market H) market H (Spread u v condition to seen) reply _ trade.printed (rw named (record {
      acceptable = fair_list_is_safe market.network H (user_number H u) spread to.items trade.factors.items fits.variable trade.fair most;
      in_range = record { user = user; ratio = fair_list_is_ratio market.network H (user_number H u) spread to.items trade.factors.items trade.fair fits };
      narrow = narrow;
      legal = λ is_market. is_market;
      paid_off = not_yet H (Trade (user_number H u) (spread_ratio spread trade.factors.items)) before refl;
    }))

-- a command that meets no refusal of the table
IsUnrefused : Market → List Entry → Command → Type 0
IsUnrefused market H command = first_refusal market H command ≡ None

-- one that is refused first where the market is settled meets one that is not
before_settled : (market : Market) (H : List Entry) (command : Command) (rest : List (Option Refusal))
    → refusals market H command ≡ settled H ∷ rest → IsUnrefused market H command → is_settled H ≡ false
unfolding IsUnrefused
before_settled market H command rest is none =
    not_faulted _ _ (none_applies (settled H ∷ rest) (ap first_of (sym is) ∙ none)).0

edit_fits : (market : Market) (H : List Entry) (quotes : Quotes) (u : List ℕ) (q : QuestionText) (X : ℕ) (seen : Option ℕ) (reply : Reply)
    → IsUnrefused market H (Edit u q X seen) → IsAnswer market H quotes (Edit u q X seen) reply → AppendsFit market H (Edit u q X seen) reply
unfolding IsUnrefused
edit_fits market H quotes u q X seen reply none h =
    let network = market.network in
    let refused = none_applies (refusals market H (Edit u q X seen)) none in
    let judged = value_of _ (question_named network q) h in
    judged_appends (Fits market H) market H u q X seen judged.0 reply (current_limits (last_quote quotes (user_number H u)) judged.0 (revision H))
    (trade_fits market H u q X seen judged.0 reply (not_faulted _ _ refused.0) judged.1 (user_in_range H u refused.1.0) (question_known network q judged.0 refused.1.1.0 judged.1)
    (not_wide market H q judged.0 judged.1 refused.1.1.1.1.1.1.1.0) (number_in_range (million - 1) X refused.1.1.1.1.1.1.1.1.0).1) judged.2

spread_fits : (market : Market) (H : List Entry) (quotes : Quotes) (u v : List ℕ) (condition : ArrayVec PairText) (to : ArrayVec ℕ) (seen : Option ℕ) (reply : Reply)
    → IsUnrefused market H (Spread u v condition to seen) → IsAnswer market H quotes (Spread u v condition to seen) reply → AppendsFit market H (Spread u v condition to seen) reply
unfolding IsUnrefused
spread_fits market H quotes u v condition to seen reply none h =
    let network = market.network in
    let refused = none_applies (refusals market H (Spread u v condition to seen)) none in
    let judged = value_of _ (spread_named network v condition.items) h in
    let million_in_all = sum_is_million to.items refused.1.1.1.1.1.1.1.1.1.1.1.0 in
    spread_appends (Fits market H) market H u v condition to seen judged.0 reply (current_bounds (last_quote quotes (user_number H u)) judged.0 (revision H))
    (spread_trade_fits market H u v condition to seen judged.0 reply (not_faulted _ _ refused.0) judged.1 (user_in_range H u refused.1.0) (spread_is network v condition.items judged.0 judged.1)
    (spread_not_wide market H v condition.items judged.0 judged.1 refused.1.1.1.1.1.1.1.1.0) (omega (arith, million_in_all))) judged.2

resolve_fits : (market : Market) (H : List Entry) (p : PairText) (reply : Reply) → IsProper market.network H
    → IsUnrefused market H (Resolve p) → reply ≡ Resolved p (revision H + 1) → AppendsFit market H (Resolve p) reply
unfolding IsUnrefused
resolve_fits market H p reply proper none e =
    let refused = none_applies (refusals market H (Resolve p)) none in
    let named = pair_known market.network p refused.1.0 in
    reply_appends (Fits market H) market H (Resolve p) reply _ e (rw (named.1) (record {
      acceptable = tt;
      in_range = (named.2, not_resolved market.network H p named.0 named.1 refused.1.1.0, some_with_pair market.network H proper p named.0 named.1 refused.1.1.1.0);
      narrow = tt;
      legal = λ is_market. is_market;
      paid_off = not_yet H (Resolves named.0) (not_faulted _ _ refused.0) refl;
    }))

-- a question that meets no refusal may be appended
add_fits : (market : Market) (H : List Entry) (add : AddText) (reply : Reply) → Stands market H
    → IsUnrefused market H (Add add) → (IsAddText add
    × (reply ≡ Added add.variable (revision H + 1))) ⊎ (reply ≡ Refused Memory)
    → AppendsFit market H (Add add) reply
unfolding IsUnrefused
add_fits market H add reply stands none (inl (text, e)) =
    reply_appends (Fits market H) market H (Add add) reply _ e (record {
      acceptable = tt;
      in_range = longer_is_network market H add stands.legal text none;
      narrow = tt;
      legal = λ is_market. market_with market H add is_market text none;
      paid_off = not_yet H (Adds (addition_of market.network add)) (not_faulted _ _ (none_applies (refusals market H (Add add)) none).0) refl;
    })
add_fits market H add reply stands none (inr e) =
    reply_appends (Fits market H) market H (Add add) reply _ e tt

-- a settlement pays off each user
settling_fits : (market : Market) (H : List Entry) (reply : Reply) → Stands market H → IsUnrefused market H Settle
    → SettlingIs market H reply → AppendsFit market H Settle reply
unfolding IsUnrefused
settling_fits market H reply stands none (inl (few, listed)) =
    let refused = none_applies (refusals market H Settle) none in
    reply_appends (Fits market H) market H Settle reply _ listed.printed (record {
      acceptable = tt;
      in_range = tt;
      narrow = tt;
      legal = λ is_market. is_market;
      paid_off = λ settled. listed_pays_off market H reply listed (not_faulted _ _ refused.0);
    })
settling_fits market H reply stands none (inr (many, e)) =
    let refused = none_applies (refusals market H Settle) none in
    let left = outcome_exists market.network H stands.legal.network stands.proper (all_resolved market.network H refused.1.0) in
    reply_appends (Fits market H) market H Settle reply _ e (record {
      acceptable = tt;
      in_range = tt;
      narrow = tt;
      legal = λ is_market. is_market;
      paid_off = λ settled. rule_pays_off market H left.state stands (not_faulted _ _ refused.0) left.one_state;
    })

answer_fits : (market : Market) (H : List Entry) (quotes : Quotes) (command : Command) (reply : Reply) → Stands market H
    → IsUnrefused market H command → IsAnswer market H quotes command reply → AppendsFit market H command reply
answer_fits market H quotes (User u) reply stands none h = user_fits market H u reply (before_settled market H (User u) _ refl none) h
answer_fits market H quotes (Deposit u bits) reply stands none h =
    reply_appends (Fits market H) market H (Deposit u bits) reply _ h
    (record { acceptable = tt; in_range = tt; narrow = tt; legal = λ is_market. is_market; paid_off = not_yet H (Deposits (user_number H u) bits) (before_settled market H (Deposit u bits) _ refl none) refl })
answer_fits market H quotes (Withdraw u bits) reply stands none h = let least = value_of _ (least_gain market.network H (user_number H u) always) h in
    withdrawal_fits market H u bits least.0 reply (before_settled market H (Withdraw u bits) _ refl none) least.1 least.2
answer_fits market H quotes (Price q) reply stands none h = let price = value_of _ (question_named market.network q) h in
    reply_appends (Fits market H) market H (Price q) reply _ price.2.printed tt
answer_fits market H quotes (Limits u q) reply stands none h = let limits = value_of _ (question_named market.network q) h in
    reply_appends (Fits market H) market H (Limits u q) reply _ limits.2.printed tt
answer_fits market H quotes (Edit u q X seen) reply stands none h = edit_fits market H quotes u q X seen reply none h
answer_fits market H quotes (Bounds u v condition) reply stands none h = let bounds = value_of _ (spread_named market.network v condition.items) h in
    reply_appends (Fits market H) market H (Bounds u v condition) reply _ bounds.2.printed tt
answer_fits market H quotes (Spread u v condition to seen) reply stands none h = spread_fits market H quotes u v condition to seen reply none h
answer_fits market H quotes (Worst u) reply stands none h = let worst = value_of _ (least_gain market.network H (user_number H u) always) h in
    reply_appends (Fits market H) market H (Worst u) reply _ worst.2.printed tt
answer_fits market H quotes (Paid u) reply stands none h = reply_appends (Fits market H) market H (Paid u) reply _ h tt
answer_fits market H quotes (Resolve p) reply stands none h = resolve_fits market H p reply stands.proper none h
answer_fits market H quotes Settle reply stands none h =
    settling_fits market H reply stands none (settling_is market H reply h)
answer_fits market H quotes Bound reply stands none h = reply_appends (Fits market H) market H Bound reply _ h.printed tt
answer_fits market H quotes (Prices v condition) reply stands none h =
    let told = value_of _ (spread_named market.network v condition.items) h in
    reply_appends (Fits market H) market H (Prices v condition) reply _ told.2.printed tt
answer_fits market H quotes (Position u v condition) reply stands none h =
    let told = value_of _ (spread_named market.network v condition.items) h in
    reply_appends (Fits market H) market H (Position u v condition) reply _ told.2.printed tt
answer_fits market H quotes Status reply stands none h =
    reply_appends (Fits market H) market H Status reply _ h tt
answer_fits market H quotes (Add add) reply stands none h = add_fits market H add reply stands none h

-- an allowed reply appends what may be appended
allowed_fits : (market : Market) (H : List Entry) (quotes : Quotes) (command : Command) (reply : Reply) → Stands market H → IsAllowed market H quotes command reply → AppendsFit market H command reply
unfolding IsUnrefused
allowed_fits market H quotes command reply stands h = at (first_refusal market H command) refl h
  where
    at : (o : Option Refusal) → first_refusal market H command ≡ o → MatchOption o (IsAnswer market H quotes command reply) (λ why. reply ≡ Refused why) → AppendsFit market H command reply
    at None none h = answer_fits market H quotes command reply stands none h
    at (Some why) _ e = reply_appends (Fits market H) market H command reply _ e (refused_appends (Fits market H) market H command why)

pub allowed_keeps : (market : Market) (now : Standing) (line : Line) (reply : Reply)
    → Stands market now.history → IsAllowedFor market now line reply
    → Stands (market_after market now line reply) (after market now line reply).history
allowed_keeps market now (OfCommand command) reply stands h =
    entry_keeps market now.history (entry_of market now.history command reply) stands (allowed_fits market now.history now.quotes command reply stands h)
allowed_keeps market now NoCommand reply stands h = stands
allowed_keeps market now LongLine reply stands h = stands

-- the market after a reply is that of the history after it
pub present_with : (market : Market) (H : List Entry) (o : Option Entry)
    → present market (H ++ option_to_list o) ≡ with_entries o (present market H)
present_with market H None = ap (present market) (append-nil H)
present_with market H (Some e) = present_after market H e

pub present_next : (market : Market) (now : Standing) (line : Line) (reply : Reply)
    → present market (after (present market now.history) now line reply).history
    ≡ market_after (present market now.history) now line reply
present_next market now (OfCommand command) reply =
    let here = present market now.history in
    present_with market now.history (entry_of here now.history command reply)
present_next market now NoCommand reply = refl
present_next market now LongLine reply = refl

StandsIn : List Entry → Market → Type 0
StandsIn H market = Stands market H

pub step_keeps : (market : Market) (now : Standing) (line : Line) (reply : Reply)
    → Stands (present market now.history) now.history
    → IsAllowedFor (present market now.history) now line reply
    → Stands (present market (after (present market now.history) now line reply).history)
    (after (present market now.history) now line reply).history
unfolding StandsIn
step_keeps market now line reply stands h =
    let here = present market now.history in
    let next = after here now line reply in
    subst (StandsIn next.history) (sym (present_next market now line reply))
    (allowed_keeps here now line reply stands h)

pub run_keeps : (market : Market) (old new : Standing) (lines : List Line) (replies : List Reply)
    → Stands (present market old.history) old.history → Run market old lines replies new
    → Stands (present market new.history) new.history
run_keeps market old new [] [] stands h =
    subst (λ (now : Standing). Stands (present market now.history) now.history) (sym h) stands
run_keeps market old new [] (reply ∷ replies) stands h = absurd h
run_keeps market old new (line ∷ lines) [] stands h = absurd h
run_keeps market old new (line ∷ lines) (reply ∷ replies) stands h =
    let next = after (present market old.history) old line reply in
    run_keeps market next new lines replies (step_keeps market old line reply stands h.0) h.1

pub runs_join : (market : Market) (old middle new : Standing) (first second : List Line) (replies more : List Reply)
    → Run market old first replies middle → Run market middle second more new → Run market old (first ++ second) (replies ++ more) new
runs_join market old middle new [] second [] more h k = subst (λ (now : Standing). Run market now second more new) h k
runs_join market old middle new [] second (reply ∷ replies) more h k = absurd h
runs_join market old middle new (line ∷ first) second [] more h k = absurd h
runs_join market old middle new (line ∷ first) second (reply ∷ replies) more h k =
    let next = after (present market old.history) old line reply in
    (h.0, runs_join market next middle new first second replies more h.1 k)

pub opening_stands : (market : Market) → IsMarket market → Stands market []
opening_stands market is_market = record {
  legal = is_market;
  sound = empty_sound market.network;
  proper = empty_proper market.network is_market.network;
  none_wide = tt;
  few_added = omega (arith, is_market.network.some);
  paid_off = λ settled. absurd (cc);
}

pub opening_present : (market : Market) → IsMarket market → Stands (present market []) []
unfolding StandsIn
opening_present market is_market =
    subst (StandsIn []) (sym (present_at_first market)) (opening_stands market is_market)
