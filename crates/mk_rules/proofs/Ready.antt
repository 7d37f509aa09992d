-- An allowed reply leads from a ready standing to a ready one.
use Rattle.std.proofs.Common.{◌≡◌, ℕ, zero, suc, ◌+◌, inl, inr, Bool, true, false, List, [], ◌∷◌, ◌++◌, map, length, Option, Some, None, IfSome, MatchOption, refl, sym, ap, ◌∙◌, subst, arith, append-nil, length-append}
use Rattle.std.specs.Prelude.{option_map, option_and_then, option_to_list, slice_set, find, nat_le, ◌&&◌, ⊤}
use Rattle.std.specs.List.{AllByRecursion, enumerate_from}
use Rattle.std.proofs.lemmas.List.{length-set, length-map}
use Rattle.arrayvec.specs.ArrayVec.{ArrayVec}
use Rattle.mk_net.specs.declared.words.PairText.{PairText}
use Rattle.mk_net.specs.declared.words.QuestionText.{QuestionText}
use Rattle.mk_net.specs.Network.{Variable}
use Rattle.mk_net.specs.Named.{pair_named}
use Rattle.mk_net.specs.Asked.{Asked}
use Rattle.mk_net.specs.Firsts.{fault_if, first_of}
use Rattle.mk_states.specs.Events.{always}
use Rattle.mk_net.specs.Bounds.{sharpness}
use Rattle.mk_exact.specs.History.{Entry, Join, Deposit as Deposits, Withdraw as Withdraws, Settle as Settles, Add as Adds, join_in, users, revision}
use Rattle.mk_exact.specs.Weight.{IsSmall}
use Rattle.mk_exact.specs.Factors.{HoldsNoTrade, factor_with, least_gain}
use Rattle.mk_exact.specs.Sides.{AreRightLimits}
use Rattle.mk_exact.specs.Market.{Market, present, with_entry}
use Rattle.mk_exact.proofs.After.{users_kept, users_more}
use Rattle.mk_spread.specs.Spreads.{SpreadAsked}
use Rattle.mk_spread.specs.Bounds.{Intervals}
use Rattle.mk_spread.specs.Markets.{AreRightBoundsOf, value_cannot_come}
use Rattle.mk_command.specs.declared.command.Command.{Command}
use Rattle.mk_command.specs.declared.command.Command.TheVariants.{User, Deposit, Withdraw, Price, Limits, Edit, Bounds, Spread, Worst, Resolve, Settle, Bound}
use Rattle.mk_command.specs.declared.command.Command.TheVariants.{Prices, Position, Status, Add}
use Rattle.mk_reply.specs.declared.refusal.Refusal.{Refusal}
use Rattle.mk_reply.specs.declared.refusal.Refusal.TheVariants.{Unknown, Twice, Impossible, Range, Beyond, Outside}
use Rattle.mk_reply.specs.declared.reply.Reply.{Reply}
use Rattle.mk_reply.specs.declared.reply.Reply.TheVariants.{Refused}
use Rattle.mk_rules.specs.Refusals.{variables_in, question_named, spread_named, user_number, stale, wide, pair_with, impossible_share, refusals, first_refusal}
use Rattle.mk_rules.specs.Additions.{addition_of}
use Rattle.mk_rules.specs.Quotes.{Interval, Quoted, EditLimits, SpreadBounds, Quote, Quotes, no_quotes, last_quote, current_limits, current_bounds}
use Rattle.mk_rules.specs.Answers.{IsTrade, IsJudged, IsJudgedAfresh, IsBeyond, IsSpreadTrade, IsSpreadJudged, IsSpreadJudgedAfresh, IsOutside, IsWithdrawal, IsAnswer, IsAllowed, next_quotes}
use Rattle.mk_rules.specs.Transcript.{Standing, opening, Line, OfCommand, NoCommand, LongLine}
use Rattle.mk_rules.specs.Transcript.{IsAllowedFor, after, with_entries, market_after, Run}
use Rattle.mk_rules.specs.Standings.{IsMarket, Stands, IsRight, IsRightQuote, IsReady}
use Rattle.mk_rules.proofs.Options.{value_of}
use Rattle.mk_rules.proofs.Keeps.{allowed_keeps, opening_present, present_next}
use Rattle.mk_rules.proofs.Quoted.{Each, each_set, each_pushed, each_weaker, current_right, current_bounds_right}
use Rattle.mk_states.proofs.Sums.{each_always}
use Rattle.mk_rules.proofs.Coming.{together_have, decided_has, sure_has, missing_has}
use Rattle.std.specs.Prelude.{map}
use Rattle.mk_exact.specs.ByRule.{payments_by_rule}
use Rattle.mk_command.specs.declared.command.Command.TheVariants.{Paid}
use Rattle.mk_rules.specs.Answers.{ends_of}
use Rattle.mk_rules.proofs.Paying.{SettlingIs, settling_is}

-- what is known of the quotes beside a history
record AreKept (market : Market) (H : List Entry) (quotes : Quotes) : Type 0 where
  one_place_each : length quotes ≡ length (users H)
  right : Each (IsRightQuote market H) quotes

-- a quote that was right is one of an earlier revision after an entry
quote_later : (market later : Market) (H : List Entry) (e : Entry) (u : ℕ) (quote : Quote)
    → IsRightQuote market H u quote → IsRightQuote later (H ++ e ∷ []) u quote
quote_later market later H e u quote h =
    let longer : length (H ++ e ∷ []) ≡ length H + 1 = length-append H (e ∷ []) in
    record { not_later = omega (arith, h.not_later); right = λ same. absurd (omega (arith, h.not_later)) }

module _ (market : Market) (H : List Entry) (quotes : Quotes) (kept : AreKept market H quotes) where
  after_entry : (e : Entry) → join_in e ≡ None → AreKept (with_entry e market) (H ++ e ∷ []) quotes
  after_entry e other = record {
    one_place_each = kept.one_place_each ∙ sym (ap length (users_kept H e other));
    right = each_weaker (IsRightQuote market H) (IsRightQuote (with_entry e market) (H ++ e ∷ []))
        (quote_later market (with_entry e market) H e) quotes kept.right;
  }

  after_join : (name : List ℕ) → AreKept market (H ++ Join name ∷ []) (quotes ++ None ∷ [])
  after_join name = record {
    one_place_each = length-append quotes (None ∷ []) ∙ ap (λ (n : ℕ). n + 1) kept.one_place_each ∙ sym (length-append (users H) (name ∷ [])) ∙ sym (ap length (users_more H name));
    right = each_pushed (IsRightQuote market (H ++ Join name ∷ [])) quotes
        (each_weaker (IsRightQuote market H) (IsRightQuote market (H ++ Join name ∷ []))
        (quote_later market market H (Join name)) quotes kept.right);
  }

  after_quote : (n : ℕ) (o : Option Quote) → IfSome o (IsRightQuote market H n) → AreKept market H (slice_set quotes n o)
  after_quote n o right = record {
    one_place_each = length-set quotes n o ∙ kept.one_place_each;
    right = each_set (IsRightQuote market H) quotes n o kept.right right;
  }

-- the standing after a reply to a command
KeptAfter : Market → Standing → Command → Reply → Type 0
KeptAfter market now command reply = AreKept (market_after market now (OfCommand command) reply)
    (after market now (OfCommand command) reply).history
    (after market now (OfCommand command) reply).quotes

reply_kept : (market : Market) (now : Standing) (command : Command) (reply known : Reply) → reply ≡ known → KeptAfter market now command known → KeptAfter market now command reply
reply_kept market now command reply known e h = subst (KeptAfter market now command) (sym e) h

mapped : {X Y : Type 0} (P : Y → Type 0) (f : X → Y) → ((x : X) → P (f x)) → (o : Option X) → IfSome (option_map f o) P
mapped P f each None = tt
mapped P f each (Some x) = each x

-- no refusal of the table carries limits or bounds
CarriesNoQuote : Refusal → Type 0
CarriesNoQuote (Beyond limits) = ⊥
CarriesNoQuote (Outside intervals) = ⊥
CarriesNoQuote _ = ⊤

faulted : (test : Bool) (why : Refusal) → CarriesNoQuote why → IfSome (fault_if test why) CarriesNoQuote
faulted true why h = h
faulted false why h = tt

first_carries_none : (faults : List (Option Refusal)) → AllByRecursion (λ o. IfSome o CarriesNoQuote) faults → IfSome (first_of faults) CarriesNoQuote
first_carries_none [] h = tt
first_carries_none (None ∷ later) h = first_carries_none later h.1
first_carries_none (Some why ∷ later) h = h.0

stale_carries_none : (H : List Entry) (seen : Option ℕ) → IfSome (stale H seen) CarriesNoQuote
unfolding CarriesNoQuote
stale_carries_none H None = tt
stale_carries_none H (Some named) = faulted _ _ tt

pair_carries_none : (f : PairText → Refusal) → ((p : PairText) → CarriesNoQuote (f p)) → (o : Option PairText) → IfSome (option_map f o) CarriesNoQuote
pair_carries_none f each o = mapped CarriesNoQuote f each o

name_carries_none : (f : List ℕ → Refusal) → ((name : List ℕ) → CarriesNoQuote (f name)) → (o : Option (List ℕ)) → IfSome (option_map f o) CarriesNoQuote
name_carries_none f each o = mapped CarriesNoQuote f each o

number_carries_none : (f : ℕ → Refusal) → ((n : ℕ) → CarriesNoQuote (f n)) → (o : Option ℕ) → IfSome (option_map f o) CarriesNoQuote
number_carries_none f each o = mapped CarriesNoQuote f each o

wide_carries_none : (cliques : List (List ℕ)) (o : Option SpreadAsked)
    → IfSome (option_and_then (λ (spread : SpreadAsked). wide cliques (spread.variable ∷ variables_in spread.condition)) o) CarriesNoQuote
unfolding CarriesNoQuote
wide_carries_none cliques None = tt
wide_carries_none cliques (Some spread) = faulted _ _ tt

-- nor does that of a share that cannot come
share_carries_none : (network : List Variable) (H : List Entry) (v : List ℕ) (pairs : List PairText) (to : List ℕ) → IfSome (impossible_share network H v pairs to) CarriesNoQuote
unfolding CarriesNoQuote
share_carries_none network H v pairs to = at (spread_named network v pairs)
  where
    at : (o : Option SpreadAsked) → IfSome (option_and_then (λ (spread : SpreadAsked).
        option_map (λ (numbered : ℕ × ℕ). Impossible (pair_with network v spread (numbered.0)))
        (find (λ (numbered : ℕ × ℕ). nat_le 1 (numbered.1) && value_cannot_come network H spread (numbered.0)) (enumerate_from 0 to))) o) CarriesNoQuote
    at None = tt
    at (Some spread) = mapped CarriesNoQuote (λ (numbered : ℕ × ℕ). Impossible (pair_with network v spread (numbered.0))) (λ numbered. tt) _

edit_carries_none : (market : Market) (H : List Entry) (u : List ℕ) (q : QuestionText) (X : ℕ) (seen : Option ℕ)
    → AllByRecursion (λ o. IfSome o CarriesNoQuote) (refusals market H (Edit u q X seen))
unfolding CarriesNoQuote
edit_carries_none market H u q X seen = (
  faulted _ _ tt,
  (
    faulted _ _ tt,
    (
      pair_carries_none Unknown (λ p. tt) _,
      (
        name_carries_none Twice (λ name. tt) _,
        (
          stale_carries_none H seen,
          (faulted _ _ tt, (pair_carries_none Impossible (λ p. tt) _, (faulted _ _ tt, (faulted _ _ tt, (faulted _ _ tt, (together_have CarriesNoQuote market.network H [] q.condition.items (each_always _ (λ p. tt) _), (decided_has CarriesNoQuote market.network H q tt tt, tt))))))),
        ),
      ),
    ),
  ),
)

spread_carries_none : (market : Market) (H : List Entry) (u v : List ℕ) (condition : ArrayVec PairText) (to : ArrayVec ℕ) (seen : Option ℕ)
    → AllByRecursion (λ o. IfSome o CarriesNoQuote) (refusals market H (Spread u v condition to seen))
unfolding CarriesNoQuote
spread_carries_none market H u v condition to seen = (
  faulted _ _ tt,
  (
    faulted _ _ tt,
    (
      faulted _ _ tt,
      (
        pair_carries_none Unknown (λ p. tt) _,
        (
          name_carries_none Twice (λ name. tt) _,
          (
            stale_carries_none H seen,
            (
              faulted _ _ tt,
              (
                pair_carries_none Impossible (λ p. tt) _,
                (
                  wide_carries_none market.cliques _,
                  (faulted _ _ tt, (number_carries_none Range (λ n. tt) _, (faulted _ _ tt, (faulted _ _ tt, (together_have CarriesNoQuote market.network H [] condition.items (each_always _ (λ p. tt) _), (sure_has CarriesNoQuote market.network H v condition.items (λ n k b. tt), (share_carries_none market.network H v condition.items to.items, (missing_has CarriesNoQuote market.network H v condition.items to.items tt, tt)))))))),
                ),
              ),
            ),
          ),
        ),
      ),
    ),
  ),
)

edit_stays : (market : Market) (H : List Entry) (quotes : Quotes) (u : List ℕ) (q : QuestionText) (X : ℕ) (seen : Option ℕ) (why : Refusal) → CarriesNoQuote why
    → next_quotes market H quotes (Edit u q X seen) (Refused why) ≡ quotes
unfolding CarriesNoQuote
edit_stays market H quotes u q X seen (Beyond limits) h = absurd h
edit_stays market H quotes u q X seen why h = refl

spread_stays : (market : Market) (H : List Entry) (quotes : Quotes) (u v : List ℕ) (condition : ArrayVec PairText) (to : ArrayVec ℕ) (seen : Option ℕ) (why : Refusal)
    → CarriesNoQuote why → next_quotes market H quotes (Spread u v condition to seen) (Refused why) ≡ quotes
unfolding CarriesNoQuote
spread_stays market H quotes u v condition to seen (Outside intervals) h = absurd h
spread_stays market H quotes u v condition to seen why h = refl

value_has : {X : Type 0} (P : X → Type 0) (o : Option X) (x : X) → o ≡ Some x → IfSome o P → P x
value_has P o x e h = subst (λ (o : Option _). IfSome o P) e h

-- a refusal of the table leaves the quotes of an edit as they are
pub edit_refused : (market : Market) (H : List Entry) (quotes : Quotes) (u : List ℕ) (q : QuestionText) (X : ℕ) (seen : Option ℕ) (why : Refusal)
    → first_refusal market H (Edit u q X seen) ≡ Some why → next_quotes market H quotes (Edit u q X seen) (Refused why) ≡ quotes
edit_refused market H quotes u q X seen why h =
    edit_stays market H quotes u q X seen why
    (value_has CarriesNoQuote _ why h (first_carries_none (refusals market H (Edit u q X seen)) (edit_carries_none market H u q X seen)))

-- and those of a spread
pub spread_refused : (market : Market) (H : List Entry) (quotes : Quotes) (u v : List ℕ) (condition : ArrayVec PairText) (to : ArrayVec ℕ) (seen : Option ℕ) (why : Refusal)
    → first_refusal market H (Spread u v condition to seen) ≡ Some why → next_quotes market H quotes (Spread u v condition to seen) (Refused why) ≡ quotes
spread_refused market H quotes u v condition to seen why h =
    spread_stays market H quotes u v condition to seen why
    (value_has CarriesNoQuote _ why h (first_carries_none (refusals market H (Spread u v condition to seen)) (spread_carries_none market H u v condition to seen)))

module _ (market : Market) (now : Standing) (kept : AreKept market now.history now.quotes) where
  stays : (quotes : Quotes) → AreKept market now.history quotes → AreKept market (now.history ++ []) quotes
  stays quotes h = subst (λ (H : List Entry). AreKept market H quotes) (sym (append-nil now.history)) h

  after_some : (o : Option Entry) → IfSome o (λ e. join_in e ≡ None)
      → AreKept (with_entries o market) (now.history ++ option_to_list o) now.quotes
  after_some None h = stays now.quotes kept
  after_some (Some e) other = after_entry market now.history now.quotes kept e other

  refused_kept : (command : Command) (why : Refusal) → first_refusal market now.history command ≡ Some why → KeptAfter market now command (Refused why)
  unfolding KeptAfter
  refused_kept (User u) why h = stays now.quotes kept
  refused_kept (Deposit u bits) why h = stays now.quotes kept
  refused_kept (Withdraw u bits) why h = stays now.quotes kept
  refused_kept (Price q) why h = stays now.quotes kept
  refused_kept (Limits u q) why h = stays now.quotes kept
  refused_kept (Edit u q X seen) why h =
      stays (next_quotes market now.history now.quotes (Edit u q X seen) (Refused why))
      (subst (AreKept market now.history) (sym (edit_refused market now.history now.quotes u q X seen why h)) kept)
  refused_kept (Bounds u v condition) why h = stays now.quotes kept
  refused_kept (Spread u v condition to seen) why h =
      stays (next_quotes market now.history now.quotes (Spread u v condition to seen) (Refused why))
      (subst (AreKept market now.history) (sym (spread_refused market now.history now.quotes u v condition to seen why h)) kept)
  refused_kept (Worst u) why h = stays now.quotes kept
  refused_kept (Paid u) why h = stays now.quotes kept
  refused_kept (Resolve p) why h = stays now.quotes kept
  refused_kept Settle why h = stays now.quotes kept
  refused_kept Bound why h = stays now.quotes kept
  refused_kept (Prices v condition) why h = stays now.quotes kept
  refused_kept (Position u v condition) why h = stays now.quotes kept
  refused_kept Status why h = stays now.quotes kept
  refused_kept (Add add) why h = stays now.quotes kept

  -- what is right is quoted
  quoted_kept : (n : ℕ) (said : Option Quoted) → IfSome said (IsRight market now.history n)
      → AreKept market (now.history ++ []) (slice_set now.quotes n (option_map (λ (says : Quoted). record { says = says; at = revision now.history }) said))
  quoted_kept n said right = stays _ (after_quote market now.history now.quotes kept n _ (quote_right said right))
    where
      quote_right : (said : Option Quoted) → IfSome said (IsRight market now.history n)
          → IfSome (option_map (λ (says : Quoted). record { says = says; at = revision now.history }) said) (IsRightQuote market now.history n)
      quote_right None right = tt
      quote_right (Some says) right = record { not_later = omega arith; right = λ same. right }

  limits_right : (n : ℕ) (asked : Asked) (limits : Interval) (o : Option Asked) → o ≡ Some asked → AreRightLimits market.network now.history n asked limits
      → IfSome (option_map (λ (asked : Asked). EditLimits asked limits) o) (IsRight market now.history n)
  limits_right n asked limits o named right = rw named right

  bounds_right : (n : ℕ) (spread : SpreadAsked) (intervals : Intervals) (o : Option SpreadAsked) → o ≡ Some spread
      → AreRightBoundsOf market.network now.history n spread intervals
      → IfSome (option_map (λ (spread : SpreadAsked). SpreadBounds spread intervals) o) (IsRight market now.history n)
  bounds_right n spread intervals o named right = rw named right

  withdrawal_kept : (u : List ℕ) (bits g : ℕ) (reply : Reply)
      → IsWithdrawal (IsSmall market.network now.history)
      (HoldsNoTrade now.history (user_number now.history u)) (sharpness market.max_trades)
      (factor_with now.history (user_number now.history u) g) u bits (revision now.history + 1)
      reply
      → KeptAfter market now (Withdraw u bits) reply
  unfolding KeptAfter
  withdrawal_kept u bits g reply (inl taken) = reply_kept market now (Withdraw u bits) reply _ taken.1 (after_some (Some (Withdraws (user_number now.history u) bits)) refl)
  withdrawal_kept u bits g reply (inr short) = reply_kept market now (Withdraw u bits) reply _ short.printed (stays now.quotes kept)

  trade_kept : (u : List ℕ) (q : QuestionText) (X : ℕ) (seen : Option ℕ) (n : ℕ) (asked : Asked) (reply : Reply) → IsTrade market.network now.history n asked X reply
      → KeptAfter market now (Edit u q X seen) reply
  unfolding KeptAfter
  trade_kept u q X seen n asked reply trade = reply_kept market now (Edit u q X seen) reply _ trade.printed
      (after_some _ (mapped (λ (e : Entry). join_in e ≡ None) _ (λ asked. refl) (question_named market.network q)))

  beyond_kept : (u : List ℕ) (q : QuestionText) (X : ℕ) (seen : Option ℕ) (asked : Asked) (limits : Interval) (reply : Reply) → question_named market.network q ≡ Some asked
      → AreRightLimits market.network now.history (user_number now.history u) asked limits → IsBeyond limits X reply → KeptAfter market now (Edit u q X seen) reply
  unfolding KeptAfter
  beyond_kept u q X seen asked limits reply named right beyond = reply_kept market now (Edit u q X seen) reply _ beyond.printed
      (quoted_kept (user_number now.history u) _ (limits_right (user_number now.history u) asked limits _ named right))

  judged_kept : (u : List ℕ) (q : QuestionText) (X : ℕ) (seen : Option ℕ) (asked : Asked) (reply : Reply) → question_named market.network q ≡ Some asked
      → (o : Option Interval) → current_limits (last_quote now.quotes (user_number now.history u)) asked (revision now.history) ≡ o
      → MatchOption o (IsJudgedAfresh market.network now.history (user_number now.history u) asked X reply)
      (λ limits. IsJudged market.network now.history (user_number now.history u) asked X limits reply) → KeptAfter market now (Edit u q X seen) reply
  judged_kept u q X seen asked reply named None e (inl trade) = trade_kept u q X seen (user_number now.history u) asked reply trade
  judged_kept u q X seen asked reply named None e (inr beyond) = beyond_kept u q X seen asked beyond.limits reply named beyond.right beyond.beyond
  judged_kept u q X seen asked reply named (Some limits) e (inl trade) = trade_kept u q X seen (user_number now.history u) asked reply trade.1
  judged_kept u q X seen asked reply named (Some limits) e (inr beyond) = beyond_kept u q X seen asked limits reply named
      (current_right market now.history (user_number now.history u) asked limits (last_quote now.quotes (user_number now.history u)) (kept.right (user_number now.history u)) e) beyond

  spread_kept : (u v : List ℕ) (condition : ArrayVec PairText) (to : ArrayVec ℕ) (seen : Option ℕ) (n : ℕ) (spread : SpreadAsked) (reply : Reply)
      → IsSpreadTrade market.network now.history n spread to.items reply → KeptAfter market now (Spread u v condition to seen) reply
  unfolding KeptAfter
  spread_kept u v condition to seen n spread reply trade = reply_kept market now (Spread u v condition to seen) reply _ trade.printed
      (after_some _ (mapped (λ (e : Entry). join_in e ≡ None) _ (λ spread. refl) (spread_named market.network v condition.items)))

  outside_kept : (u v : List ℕ) (condition : ArrayVec PairText) (to : ArrayVec ℕ) (seen : Option ℕ) (spread : SpreadAsked) (intervals : Intervals) (reply : Reply)
      → spread_named market.network v condition.items ≡ Some spread
      → AreRightBoundsOf market.network now.history (user_number now.history u) spread intervals → IsOutside intervals to.items reply
      → KeptAfter market now (Spread u v condition to seen) reply
  unfolding KeptAfter
  outside_kept u v condition to seen spread intervals reply named right outside = reply_kept market now (Spread u v condition to seen) reply _ outside.printed
      (quoted_kept (user_number now.history u) _ (bounds_right (user_number now.history u) spread _ _ named
      (subst (AreRightBoundsOf market.network now.history (user_number now.history u) spread) (sym outside.given) right)))

  spread_judged_kept : (u v : List ℕ) (condition : ArrayVec PairText) (to : ArrayVec ℕ) (seen : Option ℕ) (spread : SpreadAsked) (reply : Reply)
      → spread_named market.network v condition.items ≡ Some spread
      → (o : Option Intervals) → current_bounds (last_quote now.quotes (user_number now.history u)) spread (revision now.history) ≡ o
      → MatchOption o (IsSpreadJudgedAfresh market.network now.history (user_number now.history u) spread to.items reply)
      (λ intervals. IsSpreadJudged market.network now.history (user_number now.history u) spread to.items intervals reply)
      → KeptAfter market now (Spread u v condition to seen) reply
  spread_judged_kept u v condition to seen spread reply named None e (inl trade) = spread_kept u v condition to seen (user_number now.history u) spread reply trade
  spread_judged_kept u v condition to seen spread reply named None e (inr afresh) =
      outside_kept u v condition to seen spread afresh.intervals reply named afresh.right afresh.outside
  spread_judged_kept u v condition to seen spread reply named (Some intervals) e (inl trade) =
      spread_kept u v condition to seen (user_number now.history u) spread reply trade.1
  spread_judged_kept u v condition to seen spread reply named (Some intervals) e (inr outside) = outside_kept u v condition to seen spread intervals reply named
      (current_bounds_right market now.history (user_number now.history u) spread intervals (last_quote now.quotes (user_number now.history u))
      (kept.right (user_number now.history u)) e) outside

  answer_kept : (command : Command) (reply : Reply) → IsAnswer market now.history now.quotes command reply → KeptAfter market now command reply
  unfolding KeptAfter
  answer_kept (User u) reply (inl e) = reply_kept market now (User u) reply _ e (after_join market now.history now.quotes kept u)
  answer_kept (User u) reply (inr e) = reply_kept market now (User u) reply _ e (stays now.quotes kept)
  answer_kept (Deposit u bits) reply h = reply_kept market now (Deposit u bits) reply _ h (after_some (Some (Deposits (user_number now.history u) bits)) refl)
  answer_kept (Withdraw u bits) reply h = let least = value_of _ (least_gain market.network now.history (user_number now.history u) always) h in
      withdrawal_kept u bits least.0 reply least.2
  answer_kept (Price q) reply h = reply_kept market now (Price q) reply _ (value_of _ (question_named market.network q) h).2.printed (stays now.quotes kept)
  answer_kept (Limits u q) reply h = let limits = value_of _ (question_named market.network q) h in
      reply_kept market now (Limits u q) reply _ limits.2.printed (quoted_kept (user_number now.history u) _
      (limits_right (user_number now.history u) limits.0 limits.2.limits _ limits.1 limits.2.right))
  answer_kept (Edit u q X seen) reply h = let judged = value_of _ (question_named market.network q) h in
      judged_kept u q X seen judged.0 reply judged.1 (current_limits (last_quote now.quotes (user_number now.history u)) judged.0 (revision now.history)) refl judged.2
  answer_kept (Bounds u v condition) reply h = let bounds = value_of _ (spread_named market.network v condition.items) h in
      reply_kept market now (Bounds u v condition) reply _ bounds.2.printed (quoted_kept (user_number now.history u) _
      (bounds_right (user_number now.history u) bounds.0 _ _ bounds.1 bounds.2.right))
  answer_kept (Spread u v condition to seen) reply h = let judged = value_of _ (spread_named market.network v condition.items) h in
      spread_judged_kept u v condition to seen judged.0 reply judged.1
      (current_bounds (last_quote now.quotes (user_number now.history u)) judged.0 (revision now.history)) refl judged.2
  answer_kept (Worst u) reply h = reply_kept market now (Worst u) reply _ (value_of _ (least_gain market.network now.history (user_number now.history u) always) h).2.printed (stays now.quotes kept)
  answer_kept (Paid u) reply h = reply_kept market now (Paid u) reply _ h (stays now.quotes kept)
  answer_kept (Resolve p) reply h = reply_kept market now (Resolve p) reply _ h (after_some _ (mapped (λ (e : Entry). join_in e ≡ None) _ (λ pair. refl) (pair_named market.network p)))
  answer_kept Settle reply h = settled (settling_is market now.history reply h)
    where
      settled : SettlingIs market now.history reply → KeptAfter market now Settle reply
      settled (inl (few, listed)) =
          reply_kept market now Settle reply _ listed.printed (after_some (Some (Settles (map ends_of listed.payments))) refl)
      settled (inr (many, e)) =
          reply_kept market now Settle reply _ e
          (after_some (Some (Settles (payments_by_rule market.network now.history market.points_per_bit))) refl)
  answer_kept Bound reply h = reply_kept market now Bound reply _ h.printed (stays now.quotes kept)
  answer_kept (Prices v condition) reply h =
      let told = value_of _ (spread_named market.network v condition.items) h in
      reply_kept market now (Prices v condition) reply _ told.2.printed (stays now.quotes kept)
  answer_kept (Position u v condition) reply h =
      let told = value_of _ (spread_named market.network v condition.items) h in
      reply_kept market now (Position u v condition) reply _ told.2.printed (stays now.quotes kept)
  answer_kept Status reply h = reply_kept market now Status reply _ h (stays now.quotes kept)
  answer_kept (Add add) reply (inl (text, e)) =
      reply_kept market now (Add add) reply _ e
      (after_some (Some (Adds (addition_of market.network add))) refl)
  answer_kept (Add add) reply (inr e) =
      reply_kept market now (Add add) reply _ e (stays now.quotes kept)

  allowed_kept : (command : Command) (reply : Reply) → IsAllowed market now.history now.quotes command reply → KeptAfter market now command reply
  allowed_kept command reply h = meet (first_refusal market now.history command) refl h
    where
      meet : (o : Option Refusal) → first_refusal market now.history command ≡ o → MatchOption o (IsAnswer market now.history now.quotes command reply) (λ why. reply ≡ Refused why)
          → KeptAfter market now command reply
      meet None e h = answer_kept command reply h
      meet (Some why) e h = reply_kept market now command reply _ h (refused_kept command why e)

are_kept : (market : Market) (now : Standing) → IsReady market now → AreKept market now.history now.quotes
are_kept market now ready = record { one_place_each = ready.one_place_each; right = ready.quotes_right }

pub ready_keeps : (market : Market) (now : Standing) (line : Line) (reply : Reply)
    → IsReady market now → IsAllowedFor market now line reply
    → IsReady (market_after market now line reply) (after market now line reply)
unfolding KeptAfter
ready_keeps market now (OfCommand command) reply ready h =
    let kept = allowed_kept market now (are_kept market now ready) command reply h in
    record { stands = allowed_keeps market now (OfCommand command) reply ready.stands h; one_place_each = kept.one_place_each; quotes_right = kept.right }
ready_keeps market now NoCommand reply ready h = ready
ready_keeps market now LongLine reply ready h = ready

ReadyIn : Standing → Market → Type 0
ReadyIn now market = IsReady market now

pub step_keeps_ready : (market : Market) (now : Standing) (line : Line) (reply : Reply)
    → IsReady (present market now.history) now
    → IsAllowedFor (present market now.history) now line reply
    → IsReady (present market (after (present market now.history) now line reply).history)
    (after (present market now.history) now line reply)
unfolding ReadyIn
step_keeps_ready market now line reply ready h =
    let here = present market now.history in
    subst (ReadyIn (after here now line reply)) (sym (present_next market now line reply))
    (ready_keeps here now line reply ready h)

pub run_keeps_ready : (market : Market) (old new : Standing) (lines : List Line)
    (replies : List Reply) → IsReady (present market old.history) old → Run market old lines replies new
    → IsReady (present market new.history) new
run_keeps_ready market old new [] [] ready h =
    subst (λ (now : Standing). IsReady (present market now.history) now) (sym h) ready
run_keeps_ready market old new [] (reply ∷ replies) ready h = absurd h
run_keeps_ready market old new (line ∷ lines) [] ready h = absurd h
run_keeps_ready market old new (line ∷ lines) (reply ∷ replies) ready h =
    let next = after (present market old.history) old line reply in
    run_keeps_ready market next new lines replies
    (step_keeps_ready market old line reply ready h.0) h.1

-- no user was quoted anything
abbrev none_held : List ℕ → Option Quote
none_held name = None

abbrev no_quotes_of : List (List ℕ) → Quotes
no_quotes_of names = map (λ name. None) names

nothing_quoted : (names : List (List ℕ)) (u : ℕ) (P : Quote → Type 0) → IfSome (last_quote (no_quotes_of names) u) P
nothing_quoted [] u P = tt
nothing_quoted (name ∷ names) zero P = tt
nothing_quoted (name ∷ names) (suc u) P = nothing_quoted names u P

pub unquoted_is_ready : (market : Market) (H : List Entry) → Stands market H → IsReady market (record { history = H; quotes = no_quotes H })
unquoted_is_ready market H stands = record {
  stands = stands;
  one_place_each = length-map (users H) none_held;
  quotes_right = λ u. nothing_quoted (users H) u (IsRightQuote market H u);
}

pub opening_is_ready : (market : Market) → IsMarket market → IsReady (present market []) opening
opening_is_ready market is_market =
    unquoted_is_ready (present market []) [] (opening_present market is_market)
