-- In a ready standing an allowed reply to a line that is a text has a text.
use Rattle.std.proofs.Common.{◌≡◌, ℕ, ◌+◌, ◌*◌, ◌^◌, ◌<◌, ◌≤◌, ◌⊎◌, inl, inr, Bool}
use Rattle.std.proofs.Common.{List, [], ◌∷◌, length, sum, Option, Some, None, IfSome}
use Rattle.std.proofs.Common.{MatchOption, slice_index, slice_index_or, refl, sym, ◌∙◌, subst}
use Rattle.std.proofs.Common.{arith}
use Rattle.std.specs.Prelude.{option_map, option_and_then, All}
use Rattle.std.specs.List.{AllByRecursion, AllZip, enumerate_from}
use Rattle.std.proofs.lemmas.Bool.{cases_lt}
use Rattle.std.proofs.lemmas.List.Elements.{All-from_recursion, recursion_from_All}
use Rattle.std.proofs.lemmas.List.FromFn.{length-enumerate_from, length-range_with_len}
use Rattle.std.proofs.lemmas.List.Sums.{sum_by-le, count_by-le-length}
use Rattle.std.proofs.lemmas.Slice.Zip.{AllZip-long}
use Rattle.arrayvec.specs.ArrayVec.{ArrayVec}
use Rattle.mk_net.specs.declared.words.PairText.{PairText}
use Rattle.mk_net.specs.declared.words.QuestionText.{QuestionText}
use Rattle.mk_names.specs.Name.{IsName}
use Rattle.mk_net.specs.Network.{Variable, sizes, IsNetwork}
use Rattle.mk_net.specs.Named.{variable_at, nobody}
use Rattle.std.proofs.lemmas.List.{get_or_past}
use Rattle.mk_states.proofs.Listed.{as_many}
use Rattle.mk_states.proofs.Shares.{size_at}
use Rattle.mk_rules.proofs.Coming.{together_have, decided_has, sure_has, share_has, missing_has}
use Rattle.mk_net.specs.Asked.{Asked, IsUnits}
use Rattle.mk_net.specs.Firsts.{first_of}
use Rattle.mk_states.specs.Events.{always}
use Rattle.mk_exact.specs.History.{Entry, users, revision}
use Rattle.mk_exact.specs.Weight.{IsSmall}
use Rattle.mk_exact.specs.Factors.{HoldsNoTrade, factor, factor_with, least_gain}
use Rattle.mk_exact.specs.Limits.{IsWithinRange}
use Rattle.mk_exact.specs.Prices.{exact_price}
use Rattle.mk_exact.specs.Sides.{AreRightLimits}
use Rattle.mk_exact.specs.Market.{Market}
use Rattle.mk_net.specs.Bounds.{sharpness}
use Rattle.mk_exact.specs.Cash.{CoversCash}
use Rattle.mk_exact.proofs.Sharp.{sharp_enough}
use Rattle.mk_exact.proofs.ExistBounds.{cash_fits, least_cash_fits}
use Rattle.mk_states.proofs.Sums.{each_weaker}
use Rattle.mk_exact.proofs.ExistMarkets.{price_exists}
use Rattle.mk_exact.specs.Risk.{least_weight}
use Rattle.mk_exact.proofs.Risk.{bound_fits}
use Rattle.mk_spread.specs.Spreads.{SpreadAsked}
use Rattle.mk_spread.specs.Bounds.{Intervals}
use Rattle.mk_spread.specs.Markets.{AreRightBoundsOf}
use Rattle.mk_spread.specs.Existing.{IsShareInterval}
use Rattle.mk_spread.specs.Told.{AreNumbers}
use Rattle.mk_spread.proofs.Exist.{right_bounds_fit}
use Rattle.mk_spread.proofs.Telling.{low_at_most_one, prices_fit, position_fits}
use Rattle.mk_spread.proofs.Fair.{fair_list_fits}
use Rattle.mk_text.specs.Numbers.{IsShort, AreLimits, IsInterval, AreIntervals}
use Rattle.mk_text.specs.Texts.{IsPairText, IsCondition, IsQuestionText}
use Rattle.mk_command.specs.Commands.{IsCommand}
use Rattle.mk_command.specs.declared.command.Command.{Command}
use Rattle.mk_command.specs.declared.command.Command.TheVariants.{User, Deposit, Withdraw, Price, Limits, Edit, Bounds, Spread, Worst, Resolve, Settle, Bound}
use Rattle.mk_command.specs.declared.command.Command.TheVariants.{Prices, Position, Status, Add}
use Rattle.mk_reply.specs.Refusals.{given_in, IsRefusal}
use Rattle.mk_reply.specs.Replies.{IsReply, IsRatio, IsPayment as HasText}
use Rattle.mk_reply.specs.declared.refusal.Refusal.{Refusal}
use Rattle.mk_reply.specs.declared.refusal.Refusal.TheVariants.{Unknown, Twice, Impossible, Unresolved}
use Rattle.mk_reply.specs.declared.payments.Payment.{Payment}
use Rattle.mk_reply.specs.declared.reply.Reply.{Reply}
use Rattle.mk_reply.specs.declared.reply.Reply.TheVariants.{Refused}
use Rattle.mk_rules.specs.Refusals.{pairs_of, names_in, variables_in, question_named, spread_named, user_number, settled, no_user, no_variable, unknown, twice, stale, resolved, impossible, impossible_together, sure_value, impossible_share, missing_share, least_share, wide, wide_spread, numbers, ranges, sums, trades_full, unresolved, refusals, first_refusal}
use Rattle.mk_rules.specs.Refusals.{is_resolved}
use Rattle.mk_rules.proofs.Faults.{faulted, first_has, first_then, then_has, found_has, repeat_has}
use Rattle.mk_rules.proofs.Faults.{name_fault, ranges_have}
use Rattle.mk_rules.proofs.AddTexts.{add_refused}
use Rattle.mk_text.specs.Numbers.{AreEnds}
use Rattle.std.specs.Prelude.{not}
use Rattle.std.specs.List.{count_by, range_with_len}
use Rattle.mk_rules.specs.Quotes.{Interval, last_quote, current_limits, current_bounds}
use Rattle.mk_rules.specs.Answers.{IsTrade, IsJudged, IsJudgedAfresh, IsSpreadTrade, IsOutside, IsSpreadJudged, IsSpreadJudgedAfresh, IsWithdrawal, IsPayment, IsSettlement, IsAnswer, IsAllowed}
use Rattle.mk_rules.specs.Transcript.{Standing, Line, OfCommand, NoCommand, LongLine, IsAllowedFor}
use Rattle.mk_rules.specs.Standings.{IsMarket, IsReady}
use Rattle.mk_rules.specs.Bounded.{IsLine, IsBounded}
use Rattle.mk_rules.proofs.Options.{value_of}
use Rattle.mk_rules.proofs.Unrefused.{none_applies}
use Rattle.mk_rules.proofs.Spreads.{spread_is, numbers_in_range}
use Rattle.mk_rules.proofs.Spreadable.{as_many_shares, can_be_told}
use Rattle.mk_rules.proofs.Quoted.{current_right, current_bounds_right}
use Rattle.mk_rules.proofs.Revisions.{revision_fits}
use Rattle.mk_rules.proofs.Answered.{can_be_asked}
use Rattle.std.specs.Prelude.{slice_get}
use Rattle.mk_net.specs.Bounds.{max_payments}
use Rattle.mk_exact.specs.History.{payments, or_nothing}
use Rattle.mk_command.specs.declared.command.Command.TheVariants.{Paid}
use Rattle.mk_cash.proofs.Sums.{payments_by_rule_fit}
use Rattle.mk_rules.specs.Bounded.{FitPayment}
use Rattle.mk_rules.proofs.Paying.{SettlingIs, settling_is}
use Rattle.std.proofs.Common.{zero, suc}

pair_fault : (f : PairText → Refusal) → ((p : PairText) → IsPairText p → IsRefusal (f p)) → (o : Option PairText) → IfSome o IsPairText → IfSome (option_map f o) IsRefusal
pair_fault f each None h = tt
pair_fault f each (Some p) h = each p h

pair_names : (pairs : List PairText) → AllByRecursion IsPairText pairs → AllByRecursion IsName (names_in pairs)
pair_names [] h = tt
pair_names (p ∷ pairs) h = (h.0.variable, pair_names pairs h.1)

-- the pairs of a question are texts
pairs_are : (q : QuestionText) → IsQuestionText q → AllByRecursion IsPairText (pairs_of q)
pairs_are q h = (h.target, recursion_from_All IsPairText q.condition.items h.condition.each)

-- and those of a condition
condition_pairs : (pairs : List PairText) → IsCondition pairs → AllByRecursion IsPairText pairs
condition_pairs pairs h = recursion_from_All IsPairText pairs h.each

unknown_has : (network : List Variable) (pairs : List PairText) → AllByRecursion IsPairText pairs → IfSome (unknown network pairs) IsRefusal
unknown_has network pairs h = pair_fault Unknown (λ p text. text) _ (found_has IsPairText _ pairs h)

impossible_has : (network : List Variable) (H : List Entry) (pairs : List PairText) → AllByRecursion IsPairText pairs → IfSome (impossible network H pairs) IsRefusal
impossible_has network H pairs h = pair_fault Impossible (λ p text. text) _ (found_has IsPairText _ pairs h)

twice_has : (pairs : List PairText) → AllByRecursion IsPairText pairs → IfSome (twice (names_in pairs)) IsRefusal
twice_has pairs h = name_fault Twice (λ name named. named) _ (repeat_has [] (names_in pairs) (pair_names pairs h))

-- a variable before the pairs of a condition
names_have : (v : List ℕ) (pairs : List PairText) → IsName v → AllByRecursion IsPairText pairs → IfSome (twice (v ∷ names_in pairs)) IsRefusal
names_have v pairs named h = name_fault Twice (λ name named. named) _ (repeat_has [] (v ∷ names_in pairs) (named, pair_names pairs h))

stale_has : (H : List Entry) (seen : Option ℕ) → revision H + 1 < 2 ^ 63 → IfSome seen IsShort → IfSome (stale H seen) IsRefusal
stale_has H None fits short = tt
stale_has H (Some named) fits short = faulted _ _ (omega (arith, short), omega (arith, fits))

-- numbers below a million make no more than a million for each
few_millions : (least : ℕ) (numbers : List ℕ) → AllByRecursion (λ n. (least ≤ n) × (n ≤ 999999)) numbers → sum numbers ≤ length numbers * 999999
few_millions least numbers h = sum_by-le (λ n. n) 999999 numbers
    (All-from_recursion (λ n. n ≤ 999999) numbers (each_weaker (λ n. (least ≤ n) × (n ≤ 999999)) (λ n. n ≤ 999999) (λ n inside. inside.1) numbers h))

wide_spread_has : (market : Market) (H : List Entry) (v : List ℕ) (pairs : List PairText) → IfSome (wide_spread market H v pairs) IsRefusal
wide_spread_has market H v pairs = at (spread_named market.network v pairs)
  where
    at : (o : Option SpreadAsked) → IfSome (option_and_then (λ (spread : SpreadAsked). wide market.cliques (spread.variable ∷ variables_in spread.condition)) o) IsRefusal
    at None = tt
    at (Some spread) = faulted _ _ tt

-- the variables of a network, counted from n on, have names
numbered_named : (n : ℕ) (vs : List Variable) → AllByRecursion (λ (v : Variable). IsName v.name) vs → AllByRecursion (λ (numbered : ℕ × Variable). IsName (numbered.1).name) (enumerate_from n vs)
numbered_named n [] h = tt
numbered_named n (v ∷ vs) h = (h.0, numbered_named (n + 1) vs h.1)

variables_named : (network : List Variable) → IsNetwork network → AllByRecursion (λ (v : Variable). IsName v.name) network
variables_named network net = recursion_from_All (λ (v : Variable). IsName v.name) network (λ k d inside. (net.each k d inside).name)

open_fault : (o : Option (ℕ × Variable)) → IfSome o (λ (numbered : ℕ × Variable). IsName (numbered.1).name)
    → IfSome (option_map (λ (numbered : ℕ × Variable). Unresolved (numbered.1).name) o) IsRefusal
open_fault None h = tt
open_fault (Some numbered) h = h

unresolved_has : (network : List Variable) (H : List Entry) → IsNetwork network → IfSome (unresolved network H) IsRefusal
unresolved_has network H net = open_fault _ (found_has (λ (numbered : ℕ × Variable). IsName (numbered.1).name) _ (enumerate_from 0 network) (numbered_named 0 network (variables_named network net)))

-- limits that are right have a text
limits_have : (limits : Interval) → IsWithinRange limits → AreLimits limits
limits_have None h = tt
limits_have (Some (low, high)) h = record { positive = h.0; ordered = h.1; below = h.2 }

right_limits_have : (network : List Variable) (H : List Entry) (u : ℕ) (asked : Asked) (limits : Interval) → AreRightLimits network H u asked limits → AreLimits limits
right_limits_have network H u asked limits h = limits_have limits h.right.in_range

-- and so have bounds
interval_has : (interval : ℕ × ℕ) → IsShareInterval interval → IsInterval interval
interval_has interval (inl none) = inl none
interval_has (low, high) (inr h) = inr (record { positive = h.0; ordered = h.1; below = h.2 })

right_bounds_have : (network : List Variable) (H : List Entry) (u : ℕ) (spread : SpreadAsked) (intervals : Intervals) → IsNetwork network → spread.variable < length network
    → AreRightBoundsOf network H u spread intervals → AreIntervals intervals
right_bounds_have network H u spread None net within right = tt
right_bounds_have network H u spread (Some given) net within right =
    let fit = right_bounds_fit network H u spread given net within right in
    record { two = fit.0.two; few = fit.0.few; each = λ k d inside. interval_has _ (fit.1 k d inside) }

-- the ends of a position have texts
ends_have : (interval : Option (ℕ × ℕ)) → AreNumbers interval → AreEnds interval
ends_have None h = tt
ends_have (Some ends) h = h

-- no more numbers of a range pass a test than there are
counted_at_most : (test : ℕ → Bool) (a n : ℕ) → count_by test (range_with_len a n) ≤ n
counted_at_most test a n =
    omega (arith, count_by-le-length test (range_with_len a n), length-range_with_len a n)

-- payments of a bounded history have texts
payments_have : (network : List Variable) (H : List Entry) (m b : ℕ) (s : List ℕ)
    → ((u low high : ℕ) (covers : CoversCash (IsSmall network H) (HoldsNoTrade H u) (sharpness m)
    (factor H u s) b low high) → high < 2 ^ 63)
    → (n : ℕ) (names : List (List ℕ)) (payments : List Payment) → AllByRecursion IsName names
    → AllZip (IsPayment network H m b s) (enumerate_from n names) payments
    → AllByRecursion HasText payments
payments_have network H m b s fits n [] [] named paid = tt
payments_have network H m b s fits n [] (payment ∷ payments) named paid = absurd paid
payments_have network H m b s fits n (name ∷ names) [] named paid = absurd paid
payments_have network H m b s fits n (name ∷ names) (payment ∷ payments) named paid =
    let high : payment.high < 2 ^ 63 = fits n payment.low payment.high paid.0.covers in (
      record { user = subst IsName (sym paid.0.name) named.0; low = omega (arith, paid.0.covers.above, paid.0.covers.below); high = high; paid = paid.0.low_end },
      payments_have network H m b s fits (n + 1) names payments named.1 paid.1,
    )

-- a reply that is known
reply_has : (reply known : Reply) → reply ≡ known → IsReply known → IsReply reply
reply_has reply known e h = subst (λ (r : Reply). IsReply r) (sym e) h

-- each payment fits, and so does none
payment_fits : (paid : List (ℕ × ℕ)) (u : ℕ) → AllByRecursion FitPayment paid → FitPayment (or_nothing (slice_get paid u))
payment_fits [] u h = record { low = omega arith; high = omega arith }
payment_fits (ends ∷ paid) zero h = h.0
payment_fits (ends ∷ paid) (suc u) h = payment_fits paid u h.1

module _ (market : Market) (now : Standing) (is_market : IsMarket market) (ready : IsReady market now) (bounded : IsBounded market now.history) where
  abbrev network : List Variable
  network = market.network

  abbrev H : List Entry
  H = now.history

  next : revision H + 1 < 2 ^ 63
  next = revision_fits market H is_market ready.stands bounded

  -- each value of a variable is a name
  value_named : (v : List ℕ) → IsName v → (n k : ℕ) → k < slice_index (sizes network) n → IsPairText (record { variable = v; value = slice_index_or (variable_at network n).values k [] })
  value_named v named n k below = record { variable = named; value = at (cases_lt n (length network)) }
    where
      at : (n < length network) ⊎ (length network ≤ n) → IsName (slice_index_or (variable_at network n).values k [])
      at (inl within) = (is_market.network.each n nobody within).values_named k [] (omega (arith, below, size_at network is_market.network n within))
      at (inr past) = absurd (let none : slice_index (sizes network) n ≡ 0 = get_or_past (sizes network) n 0 (omega (arith, as_many network)) in omega (arith, below))

  -- where its numbers are in range, their sum is short
  spread_refused : (u v : List ℕ) (condition : ArrayVec PairText) (to : ArrayVec ℕ) (seen : Option ℕ) → IsCommand (Spread u v condition to seen)
      → IfSome (first_refusal market H (Spread u v condition to seen)) IsRefusal
  spread_refused u v condition to seen text =
      let pairs = condition_pairs condition.items text.2 in
      first_then
      (settled H ∷ no_user H u ∷ no_variable network v ∷ unknown network condition.items ∷ twice (v ∷ names_in condition.items) ∷ stale H seen
      ∷ resolved network H v ∷ impossible network H condition.items ∷ wide_spread market H v condition.items ∷ [])
      (numbers network v to.items ∷ ranges (least_share market) 999999 to.items ∷ sums to.items ∷ trades_full market H ∷ impossible_together network H condition.items
      ∷ sure_value network H v condition.items ∷ impossible_share network H v condition.items to.items ∷ missing_share network H v condition.items to.items ∷ []) (
        faulted _ _ tt,
        (
          faulted _ _ text.0,
          (
            faulted _ _ text.1,
            (
              unknown_has network condition.items pairs,
              (
                names_have v condition.items text.1 pairs,
                (stale_has H seen next text.4, (faulted _ _ text.1, (impossible_has network H condition.items pairs, (wide_spread_has market H v condition.items, tt)))),
              ),
            ),
          ),
        ),
      )
      (then_has (numbers network v to.items) (ranges (least_share market) 999999 to.items ∷ sums to.items ∷ trades_full market H ∷ impossible_together network H condition.items ∷ sure_value network H v condition.items
      ∷ impossible_share network H v condition.items to.items ∷ missing_share network H v condition.items to.items ∷ []) (faulted _ _ (omega (arith, text.3.few))) (λ one_each.
      then_has (ranges (least_share market) 999999 to.items) (sums to.items ∷ trades_full market H ∷ impossible_together network H condition.items ∷ sure_value network H v condition.items
      ∷ impossible_share network H v condition.items to.items ∷ missing_share network H v condition.items to.items ∷ []) (ranges_have (least_share market) 999999 to.items (recursion_from_All IsShort to.items text.3.each)) (λ within.
      let most = few_millions (least_share market) to.items (numbers_in_range (least_share market) 999999 to.items within) in
      first_has (sums to.items ∷ trades_full market H ∷ impossible_together network H condition.items ∷ sure_value network H v condition.items
      ∷ impossible_share network H v condition.items to.items ∷ missing_share network H v condition.items to.items ∷ []) (
        faulted _ _ (omega (arith, most, text.3.few)),
        (
          faulted _ _ (omega (arith, is_market.few_trades)),
          (
            together_have IsRefusal network H [] condition.items pairs,
            (
              sure_has IsRefusal network H v condition.items (value_named v text.1),
              (
                share_has IsRefusal network H v condition.items to.items (value_named v text.1)
                    (λ spread named. let same = as_many_shares network v condition.items spread to.items named one_each in omega (arith, same)),
                (missing_has IsRefusal network H v condition.items to.items (omega arith), tt),
              ),
            ),
          ),
        ),
      ))))

  -- the refusals of a question about every value, behind those of its user
  abbrev refusals_of_values : List ℕ → ArrayVec PairText → List (Option Refusal)
  refusals_of_values v condition =
      no_variable network v ∷ unknown network condition.items ∷ twice (v ∷ names_in condition.items)
      ∷ resolved network H v ∷ impossible network H condition.items
      ∷ wide_spread market H v condition.items ∷ impossible_together network H condition.items ∷ []

  values_have : (v : List ℕ) (condition : ArrayVec PairText) → IsName v →
      AllByRecursion IsPairText condition.items →
      IfSome (first_of (refusals_of_values v condition)) IsRefusal
  values_have v condition named pairs =
      let items = condition.items in
      let together = together_have IsRefusal network H [] items pairs in
      first_has (refusals_of_values v condition) (
        faulted _ _ named,
        (
          unknown_has network items pairs,
          (
            names_have v items named pairs,
            (
              faulted _ _ named,
              (
                impossible_has network H items pairs,
                (wide_spread_has market H v items, (together, tt)),
              ),
            ),
          ),
        ),
      )

  refused_has : (command : Command) → IsCommand command → IfSome (first_refusal market H command) IsRefusal
  refused_has (User u) text = first_has (refusals market H (User u))
      (faulted _ _ tt, (faulted _ _ text, (faulted _ _ (record { positive = is_market.some_users; most = is_market.few_users }), tt)))
  refused_has (Deposit u bits) text = first_has (refusals market H (Deposit u bits)) (faulted _ _ tt, (faulted _ _ text.0, (faulted _ _ (omega (arith, text.1)), (faulted _ _ (omega (arith, is_market.few_transfers)), tt))))
  refused_has (Withdraw u bits) text = first_has (refusals market H (Withdraw u bits)) (faulted _ _ tt, (faulted _ _ text.0, (faulted _ _ (omega (arith, text.1)), (faulted _ _ (omega (arith, is_market.few_transfers)), tt))))
  refused_has (Price q) text =
      let pairs = pairs_are q text in
      first_has (refusals market H (Price q))
      (faulted _ _ tt, (unknown_has network (pairs_of q) pairs, (twice_has (pairs_of q) pairs, (faulted _ _ pairs.0.variable, (impossible_has network H q.condition.items pairs.1, (faulted _ _ tt, (together_have IsRefusal network H [] q.condition.items pairs.1, tt)))))))
  refused_has (Limits u q) text =
      let pairs = pairs_are q text.1 in
      first_has (refusals market H (Limits u q))
      (faulted _ _ tt, (faulted _ _ text.0, (unknown_has network (pairs_of q) pairs, (twice_has (pairs_of q) pairs, (faulted _ _ pairs.0.variable, (impossible_has network H q.condition.items pairs.1, (faulted _ _ tt, (together_have IsRefusal network H [] q.condition.items pairs.1, (decided_has IsRefusal network H q pairs.0 pairs.0, tt)))))))))
  refused_has (Edit u q X seen) text =
      let pairs = pairs_are q text.1 in
      first_has (refusals market H (Edit u q X seen)) (
        faulted _ _ tt,
        (
          faulted _ _ text.0,
          (
            unknown_has network (pairs_of q) pairs,
            (
              twice_has (pairs_of q) pairs,
              (
                stale_has H seen next text.3,
                (
                  faulted _ _ pairs.0.variable,
                  (impossible_has network H q.condition.items pairs.1, (faulted _ _ tt, (faulted _ _ (omega (arith, text.2)), (faulted _ _ (omega (arith, is_market.few_trades)), (together_have IsRefusal network H [] q.condition.items pairs.1, (decided_has IsRefusal network H q pairs.0 pairs.0, tt)))))),
                ),
              ),
            ),
          ),
        ),
      )
  refused_has (Bounds u v condition) text =
      let pairs = condition_pairs condition.items text.2 in
      first_has (refusals market H (Bounds u v condition)) (
        faulted _ _ tt,
        (
          faulted _ _ text.0,
          (
            faulted _ _ text.1,
            (
              unknown_has network condition.items pairs,
              (
                names_have v condition.items text.1 pairs,
                (faulted _ _ text.1, (impossible_has network H condition.items pairs, (wide_spread_has market H v condition.items, (together_have IsRefusal network H [] condition.items pairs, (sure_has IsRefusal network H v condition.items (value_named v text.1), tt))))),
              ),
            ),
          ),
        ),
      )
  refused_has (Spread u v condition to seen) text = spread_refused u v condition to seen text
  refused_has (Paid u) text = first_has (refusals market H (Paid u)) (faulted _ _ tt, (faulted _ _ text, tt))
  refused_has (Worst u) text = first_has (refusals market H (Worst u)) (faulted _ _ tt, (faulted _ _ text, tt))
  refused_has (Resolve p) text = first_has (refusals market H (Resolve p)) (faulted _ _ tt, (unknown_has network (p ∷ []) (text, tt), (faulted _ _ text.variable, (together_have IsRefusal network H [] (p ∷ []) (text, tt), tt))))
  refused_has Settle text = first_has (refusals market H Settle) (faulted _ _ tt, (unresolved_has network H is_market.network, tt))
  refused_has Bound text = first_has (refusals market H Bound) (faulted _ _ tt, tt)
  refused_has (Prices v condition) text =
      let pairs = condition_pairs condition.items text.1 in
      first_then (settled H ∷ []) (refusals_of_values v condition) (faulted _ _ tt, tt)
      (values_have v condition text.0 pairs)
  refused_has (Position u v condition) text =
      let pairs = condition_pairs condition.items text.2 in
      first_then (settled H ∷ no_user H u ∷ []) (refusals_of_values v condition)
      (faulted _ _ tt, (faulted _ _ text.0, tt)) (values_have v condition text.1 pairs)
  refused_has Status text = first_has (refusals market H Status) (faulted _ _ tt, tt)
  refused_has (Add add) text = add_refused market H add text.0 is_market

  refusal_has : (command : Command) (why : Refusal) → IsCommand command → first_refusal market H command ≡ Some why → IsRefusal why
  refusal_has command why text e = subst (λ (o : Option Refusal). IfSome o IsRefusal) e (refused_has command text)

  trade_has : (u : ℕ) (asked : Asked) (X : ℕ) (reply : Reply) → IsTrade network H u asked X reply → IsReply reply
  trade_has u asked X reply trade = reply_has reply _ trade.printed (
    record { positive = trade.fair.hit_units.fair.positive; below = trade.fair.hit_units.fair.fits },
    record { positive = trade.fair.miss_units.fair.positive; below = trade.fair.miss_units.fair.fits },
    next,
  )

  judged_has : (u : ℕ) (asked : Asked) (X : ℕ) (reply : Reply) (o : Option Interval) → current_limits (last_quote now.quotes u) asked (revision H) ≡ o
      → MatchOption o (IsJudgedAfresh network H u asked X reply) (λ limits. IsJudged network H u asked X limits reply) → IsReply reply
  judged_has u asked X reply None e (inl trade) = trade_has u asked X reply trade
  judged_has u asked X reply None e (inr beyond) = reply_has reply _ beyond.beyond.printed (right_limits_have network H u asked beyond.limits beyond.right)
  judged_has u asked X reply (Some limits) e (inl trade) = trade_has u asked X reply trade.1
  judged_has u asked X reply (Some limits) e (inr beyond) = reply_has reply _ beyond.printed
      (right_limits_have network H u asked limits (current_right market H u asked limits (last_quote now.quotes u) (ready.quotes_right u) e))

  spread_trade_has : (u : ℕ) (spread : SpreadAsked) (Xs : List ℕ) (reply : Reply) → spread.variable < length network → IsSpreadTrade network H u spread Xs reply → IsReply reply
  spread_trade_has u spread Xs reply within trade =
      let fit = fair_list_fits network H u spread Xs trade.factors.items trade.fair is_market.network within in
      let each : All IsRatio trade.factors.items = λ k d inside. let units : IsUnits _ = fit.1 k d inside in record { positive = units.positive; below = units.fits } in
      reply_has reply _ trade.printed (record { two = fit.0.two; few = fit.0.few; each = each }, next)

  outside_has : (u : ℕ) (spread : SpreadAsked) (intervals : Intervals) (Xs : List ℕ) (reply : Reply) → spread.variable < length network
      → AreRightBoundsOf network H u spread intervals → IsOutside intervals Xs reply → IsReply reply
  outside_has u spread intervals Xs reply within right outside = reply_has reply _ outside.printed
      (subst AreIntervals (sym outside.given) (right_bounds_have network H u spread intervals is_market.network within right))

  spread_judged_has : (u : ℕ) (spread : SpreadAsked) (Xs : List ℕ) (reply : Reply) → spread.variable < length network
      → (o : Option Intervals) → current_bounds (last_quote now.quotes u) spread (revision H) ≡ o
      → MatchOption o (IsSpreadJudgedAfresh network H u spread Xs reply) (λ intervals. IsSpreadJudged network H u spread Xs intervals reply) → IsReply reply
  spread_judged_has u spread Xs reply within None e (inl trade) = spread_trade_has u spread Xs reply within trade
  spread_judged_has u spread Xs reply within None e (inr outside) = outside_has u spread outside.intervals Xs reply within outside.right outside.outside
  spread_judged_has u spread Xs reply within (Some intervals) e (inl trade) = spread_trade_has u spread Xs reply within trade.1
  spread_judged_has u spread Xs reply within (Some intervals) e (inr outside) = outside_has u spread intervals Xs reply within
      (current_bounds_right market H u spread intervals (last_quote now.quotes u) (ready.quotes_right u) e) outside

  withdrawal_has : (u : List ℕ) (bits g : ℕ) (reply : Reply) → IsName u → IsShort bits
      → IsWithdrawal (IsSmall network H) (HoldsNoTrade H (user_number H u))
      (sharpness market.max_trades)
      (factor_with H (user_number H u) g) u bits (revision H + 1) reply → IsReply reply
  withdrawal_has u bits g reply named short (inl taken) = reply_has reply _ taken.1 (named, omega (arith, short), next)
  withdrawal_has u bits g reply named short (inr less) = reply_has reply _ less.printed (omega (arith, short, less.less))

  settlement_has : (reply : Reply) → length (users H) ≤ max_payments
      → IsSettlement network H market.max_trades market.points_per_bit reply → IsReply reply
  settlement_has reply listed settlement =
      let each : AllByRecursion HasText settlement.payments = payments_have network H
      market.max_trades market.points_per_bit settlement.state
      (λ u low high covers. cash_fits (IsSmall network H) (HoldsNoTrade H u) H market.max_trades u
      settlement.state
      market.points_per_bit low high bounded.within is_market.few_points covers) 0 (users H)
      settlement.payments bounded.users_named settlement.paid in
      let many : length settlement.payments ≡ length (users H) = AllZip-long
      (IsPayment network H market.max_trades market.points_per_bit settlement.state)
      (enumerate_from 0 (users H))
      settlement.payments settlement.paid ∙ length-enumerate_from 0 (users H) in
      reply_has reply _ settlement.printed (next, record { few = omega (arith, listed); each = All-from_recursion HasText settlement.payments each })

  settling_has : (reply : Reply) → SettlingIs market H reply → IsReply reply
  settling_has reply (inl (few, listed)) = settlement_has reply few listed
  settling_has reply (inr (many, e)) = reply_has reply _ e (
    next,
    record { many = many; most = omega (arith, bounded.few_users, is_market.few_users) },
    payments_by_rule_fit network H market.points_per_bit bounded.within is_market.few_points,
  )

  answer_has : (command : Command) (reply : Reply) → IsCommand command → first_refusal market H command ≡ None → IsAnswer market H now.quotes command reply → IsReply reply
  answer_has (User u) reply text none (inl e) = reply_has reply _ e (text, next)
  answer_has (User u) reply text none (inr e) = reply_has reply _ e tt
  answer_has (Deposit u bits) reply text none h = reply_has reply _ h (text.0, omega (arith, text.1), next)
  answer_has (Withdraw u bits) reply text none h =
      let least = value_of _ (least_gain network H (user_number H u) always) h in
      withdrawal_has u bits least.0 reply text.0 text.1 least.2
  answer_has (Price q) reply text none h =
      let refused = none_applies (refusals market H (Price q)) none in
      let price = value_of _ (question_named network q) h in
      let exact = price_exists network H (sharpness market.max_trades) price.0
      (sharp_enough market.max_trades) is_market.network ready.stands.proper
      (can_be_asked network H q price.0 ready.stands.proper price.1 refused.1.0 refused.1.1.0 refused.1.1.1.0 refused.1.1.1.1.1.1.0) in
      reply_has reply _ price.2.printed (
        low_at_most_one (exact_price network H price.0) price.2.low
            exact.exact price.2.covers.below,
        price.2.covers.at_most_one,
      )
  answer_has (Limits u q) reply text none h =
      let limits = value_of _ (question_named network q) h in
      reply_has reply _ limits.2.printed (right_limits_have network H (user_number H u) limits.0 limits.2.limits limits.2.right, omega (arith, next))
  answer_has (Edit u q X seen) reply text none h =
      let judged = value_of _ (question_named network q) h in
      judged_has (user_number H u) judged.0 X reply (current_limits (last_quote now.quotes (user_number H u)) judged.0 (revision H)) refl judged.2
  answer_has (Bounds u v condition) reply text none h =
      let bounds = value_of _ (spread_named network v condition.items) h in
      let within = (spread_is network v condition.items bounds.0 bounds.1).variable in
      reply_has reply _ bounds.2.printed (right_bounds_have network H (user_number H u) bounds.0 (given_in bounds.2.box) is_market.network within bounds.2.right, omega (arith, next))
  answer_has (Spread u v condition to seen) reply text none h =
      let judged = value_of _ (spread_named network v condition.items) h in
      let within = (spread_is network v condition.items judged.0 judged.1).variable in
      spread_judged_has (user_number H u) judged.0 to.items reply within (current_bounds (last_quote now.quotes (user_number H u)) judged.0 (revision H)) refl judged.2
  answer_has (Worst u) reply text none h =
      let least = value_of _ (least_gain network H (user_number H u) always) h in
      let high = least_cash_fits (IsSmall network H) (HoldsNoTrade H (user_number H u)) network H
      market.max_trades
      (user_number H u) always least.0 market.points_per_bit least.2.low least.2.high
      bounded.within is_market.few_points least.1 least.2.covers in
      reply_has reply _ least.2.printed (omega (arith, high, least.2.covers.above, least.2.covers.below), high)
  answer_has (Paid u) reply text none h =
      let fits = payment_fits (payments H) (user_number H u) bounded.payments_fit in
      reply_has reply _ h (record { user = text; low = fits.low; high = fits.high; paid = refl })
  answer_has (Resolve p) reply text none h = reply_has reply _ h (text, next)
  answer_has Settle reply text none h = settling_has reply (settling_is market H reply h)
  answer_has Bound reply text none h =
      let least = value_of _ (least_weight network H) h.covers in
      let high = bound_fits network H market.points_per_bit least.0 h.low h.high is_market.network is_market.few_points least.1 least.2 in
      reply_has reply _ h.printed (omega (arith, high, least.2.above, least.2.below), high)
  answer_has (Prices v condition) reply text none h =
      let refused = none_applies (refusals market H (Prices v condition)) none in
      let prices = value_of _ (spread_named network v condition.items) h in
      let told = can_be_told network H v condition.items prices.0 ready.stands.proper prices.1
      refused.1.1.1.0 refused.1.1.1.1.0 refused.1.1.1.1.1.1.1.0 in
      let fit = prices_fit network H market.max_trades prices.0 prices.2.intervals.items
      is_market.network
      ready.stands.proper told prices.2.covers in
      reply_has reply _ prices.2.printed
      (record { two = fit.0.two; few = fit.0.few; each = fit.1 })
  answer_has (Position u v condition) reply text none h =
      let found = value_of _ (spread_named network v condition.items) h in
      let within = (spread_is network v condition.items found.0 found.1).variable in
      let fit = position_fits network H market.max_trades (user_number H u) market.points_per_bit
      found.0
      found.2.intervals.items is_market.network within bounded.within is_market.few_points
      found.2.covers in
      let each : All AreEnds found.2.intervals.items =
      λ k d inside. ends_have _ (fit.1 k d inside) in
      reply_has reply _ found.2.printed (record { two = fit.0.two; few = fit.0.few; each = each })
  answer_has Status reply text none h =
      let left = counted_at_most (λ v. not (is_resolved H v)) 0 (length network) in
      let many = is_market.network.few in
      reply_has reply _ h (
        omega (arith, next),
        omega (arith, bounded.few_users),
        omega (arith, bounded.few_trades, is_market.few_trades),
        omega (arith, is_market.few_trades),
        omega (arith, bounded.within.few_transfers),
        omega arith,
        omega (arith, left, many),
        omega (arith, many),
      )
  answer_has (Add add) reply text none (inl (words, e)) = reply_has reply _ e (words.variable, next)
  answer_has (Add add) reply text none (inr e) = reply_has reply _ e tt

  command_has : (command : Command) (reply : Reply) → IsCommand command → IsAllowed market H now.quotes command reply → IsReply reply
  command_has command reply text h = at (first_refusal market H command) refl h
    where
      at : (o : Option Refusal) → first_refusal market H command ≡ o → MatchOption o (IsAnswer market H now.quotes command reply) (λ why. reply ≡ Refused why) → IsReply reply
      at None none h = answer_has command reply text none h
      at (Some why) e h = reply_has reply _ h (refusal_has command why text e)

pub replies_have_texts : (market : Market) (now : Standing) (line : Line) (reply : Reply) → IsMarket market → IsReady market now → IsBounded market now.history → IsLine line
    → IsAllowedFor market now line reply → IsReply reply
replies_have_texts market now (OfCommand command) reply is_market ready bounded text h = command_has market now is_market ready bounded command reply text h
replies_have_texts market now NoCommand reply is_market ready bounded text h = reply_has reply _ h tt
replies_have_texts market now LongLine reply is_market ready bounded text h = reply_has reply _ h tt
