-- Judgements of bounds and of trades of a whole distribution, by bounds of each value.
use Rattle.std.proofs.Common.{◌≡◌, ℕ, ◌+◌, inl, inr, Bool, false, IsTrue, List, [], ◌∷◌, Option, Some, None, refl, sym, ap, subst, ◌∙◌, arith}
use Rattle.std.specs.List.{AllZip, slice_get}
use Rattle.arrayvec.specs.ArrayVec.{ArrayVec}
use Rattle.mk_net.specs.declared.words.PairText.{PairText}
use Rattle.mk_exact.specs.History.{Entry, revision}
use Rattle.mk_exact.specs.Limits.{Side}
use Rattle.mk_exact.specs.Market.{Market}
use Rattle.mk_exact.specs.Weight.{IsSmall}
use Rattle.mk_spread.specs.Spreads.{SpreadAsked}
use Rattle.mk_spread.specs.Bounds.{IsFairFor, AreFairUnits, Intervals, InsideEach, IsRightFor, AreRightBounds}
use Rattle.mk_spread.specs.Markets.{AreValueSides, AreRightBoundsOf, IsFairList}
use Rattle.mk_quote.specs.declared.values.SpreadBounds.{SpreadBounds}
use Rattle.mk_quote.specs.Values.{sides_in}
use Rattle.mk_reply.specs.declared.refusal.Refusal.TheVariants.{Outside}
use Rattle.mk_reply.specs.declared.reply.Reply.{Reply}
use Rattle.mk_reply.specs.declared.reply.Reply.TheVariants as reply
use Rattle.mk_reply.specs.Refusals.{given_in}
use Rattle.mk_rules.specs.Refusals.{user_number}
use Rattle.mk_rules.specs.Answers.{IsBounds, IsOutside, IsOutsideRight, IsSpreadTrade, IsSpreadJudged, IsSpreadJudgedAfresh}
use Rattle.mk_judge.specs.declared.judged.Judged.{Judged}
use Rattle.mk_judge.specs.declared.judged.Judged.TheVariants.{Allowed, Wrong, Unclear}
use Rattle.mk_judge.specs.Judged.{Judges}
use Rattle.mk_judge.specs.Distributions.{AreEachSideBounds, AreIntervalsNear, AreSomeUnitsNear}
use Rattle.mk_judge.proofs.Judging.{judges_as}
use Rattle.mk_judge_quotes.specs.Clear.{AreFactorsOpen, AreBoundsOpen}
use Rattle.mk_judge_quotes.specs.Spreading.{AreEachBounds, AreBoundsLeftOpen, IsSpreadLeftOpen}
use Rattle.mk_judge_quotes.specs.inner.Spreading.{IsSpreadTradeLeftOpen, IsSameBox, SaysIntervals}
use Rattle.mk_judge_quotes.specs.Told.{outside_told}
use Rattle.mk_judge_quotes.proofs.Verdicts.{judges_by, judges_inside, judges_beyond, judges_alone}
use Rattle.mk_judge_quotes.proofs.EditingJudged.{not_told, fair_for}
use Rattle.mk_judge_quotes.proofs.SpreadingNear.{each_side, wanted_open, intervals_open}
use Rattle.mk_judge_quotes.proofs.SpreadingNear.{factors_open}

-- ---- the small case, by the flag or by the history

interval_for : (small large : Type 0) → (large → small) → (side : Option Side) (interval : ℕ × ℕ) → IsRightFor small side interval → IsRightFor large side interval
interval_for small large to None interval h = h
interval_for small large to (Some side) interval h = record {
  in_range = h.in_range;
  sound = λ X inside. let found = h.sound X inside in (found.0, fair_for small large side X found.0 to found.1);
  near_complete = h.near_complete;
  exact = λ s. h.exact (to s);
}

each_for : (small large : Type 0) → (large → small) → (sides : List (Option Side)) (intervals : List (ℕ × ℕ)) → AllZip (IsRightFor small) sides intervals → AllZip (IsRightFor large) sides intervals
each_for small large to [] [] h = tt
each_for small large to [] (interval ∷ intervals) h = absurd h
each_for small large to (side ∷ sides) [] h = absurd h
each_for small large to (side ∷ sides) (interval ∷ intervals) h = (interval_for small large to side interval h.0, each_for small large to sides intervals h.1)

bounds_for : (small large : Type 0) → (large → small) → (sides : List (Option Side)) (intervals : Intervals) → AreRightBounds small sides intervals → AreRightBounds large sides intervals
bounds_for small large to sides None h = record { given = tt; none = h.none; exactly_none = λ s. h.exactly_none (to s) }
bounds_for small large to sides (Some intervals) h = record { given = each_for small large to sides intervals h.given; none = h.none; exactly_none = λ s. h.exactly_none (to s) }

units_for : (small large : Type 0) → (large → small) → (sides : List (Option Side)) (Xs Fs : List ℕ) → AreFairUnits small sides Xs Fs → AreFairUnits large sides Xs Fs
units_for small large to [] [] [] h = h
units_for small large to [] [] (F ∷ Fs) h = absurd h
units_for small large to [] (X ∷ Xs) Fs h = absurd h
units_for small large to (side ∷ sides) [] Fs h = absurd h
units_for small large to (side ∷ sides) (X ∷ Xs) [] h = absurd h
units_for small large to (side ∷ sides) (X ∷ Xs) (F ∷ Fs) h = (one side h.0, units_for small large to sides Xs Fs h.1)
  where
    one : (side : Option Side) → IsFairFor small side X F → IsFairFor large side X F
    one None h = h
    one (Some side) h = fair_for small large side X F to h

-- ---- what the judges say

pub record JudgesFactors (j : Judged) (bounds : SpreadBounds) (small : Bool) (Xs Fs : List ℕ) : Type 0 where
  pub allowed : j ≡ Allowed → (sides : List (Option Side)) → AreEachSideBounds (sides_in bounds) small sides → AreFairUnits (IsTrue small) sides Xs Fs
  pub wrong : j ≡ Wrong → (sides : List (Option Side)) → AreEachSideBounds (sides_in bounds) small sides → AreFairUnits (IsTrue small) sides Xs Fs → ⊥
  pub unclear : j ≡ Unclear → (sides : List (Option Side)) → AreEachSideBounds (sides_in bounds) small sides → AreSomeUnitsNear small (sides_in bounds) sides Xs Fs
  pub clear : j ≡ Unclear → (sides : List (Option Side)) → AreEachSideBounds (sides_in bounds) small sides → small ≡ false

-- the refusal that tells bounds
outside_is : (told : Reply) (box : Option (ArrayVec (ℕ × ℕ))) → outside_told told ≡ Some box → told ≡ reply.Refused (Outside box)
outside_is (reply.Refused (Outside other)) box h = let same : other ≡ box = cc in ap (λ (b : Option (ArrayVec (ℕ × ℕ))). reply.Refused (Outside b)) same
outside_is told box h = cc

-- a trade that is left open
pub spread_left : (market : Market) (H : List Entry) (u : ℕ) (spread : SpreadAsked) (Xs : List ℕ) (quoted : Option Intervals) (told : Reply)
    → IsSpreadTradeLeftOpen market H u spread Xs told → IsSpreadLeftOpen market H u spread Xs quoted told
spread_left market H u spread Xs quoted (reply.Spreaded factors at) o = o
spread_left market H u spread Xs quoted told o = absurd o

module _ (market : Market) (H : List Entry) (name v : List ℕ) (condition : ArrayVec PairText) (bounds : SpreadBounds) (small : Bool) (now : ℕ)
    (its : AreEachBounds market H name v condition bounds small now) where
  each : (sides : List (Option Side)) → AreValueSides market.network H (user_number H name) its.spread sides → AreEachSideBounds (sides_in bounds) small sides
  each sides are = each_side market H (user_number H name) small its.tells (sides_in bounds) sides (its.each sides are)

  -- ---- bounds

  near_open : (intervals : Intervals) → (¬ IsSmall market.network H) → AreIntervalsNear (sides_in bounds) its.sides intervals → AreBoundsOpen market H (user_number H name) its.spread intervals
  near_open None large near = wanted_open market H (user_number H name) its.spread large (sides_in bounds) its.sides 0 _ (its.each its.sides its.exist) its.exist near
  near_open (Some intervals) large near = intervals_open market H (user_number H name) its.spread large intervals (sides_in bounds) its.sides intervals 0 _ (its.each its.sides its.exist) its.exist
      (λ k. ap (slice_get intervals) (let e : 0 + k ≡ k = omega arith in e)) near

  pub bounds_judged : (intervals : Intervals) (j : Judged) → SaysIntervals j bounds small intervals
      → Judges j (AreRightBoundsOf market.network H (user_number H name) its.spread intervals) (AreBoundsOpen market H (user_number H name) its.spread intervals)
  bounds_judged intervals j says = judges_by j _ _
      (λ e. record { sides = its.sides; are_sides = its.exist; right = bounds_for (IsTrue small) _ its.tells.1 its.sides intervals (says.allowed e its.sides (each its.sides its.exist)) })
      (λ e h. says.wrong e h.sides (each h.sides h.are_sides) (bounds_for _ (IsTrue small) its.tells.0 h.sides intervals h.right))
      (λ e. near_open intervals (not_told small _ its.tells (says.clear e its.sides (each its.sides its.exist))) (says.unclear e its.sides (each its.sides its.exist)))

  -- bounds that are told
  pub told_bounds : (box : Option (ArrayVec (ℕ × ℕ))) (at : ℕ) (j : Judged) → at ≡ now → SaysIntervals j bounds small (given_in box)
      → Judges j (IsBounds market.network H (user_number H name) its.spread (reply.Bounded box at)) (AreBoundsLeftOpen market H (user_number H name) its.spread (reply.Bounded box at))
  told_bounds box at j same says = judges_as j _ _ _ _
      (λ right. record { box = box; printed = ap (λ (n : ℕ). reply.Bounded box n) (same ∙ its.present); right = right })
      (λ h. let e : h.box ≡ box = cc (h.printed) in
      subst (λ (b : Option (ArrayVec (ℕ × ℕ))). AreRightBoundsOf market.network H (user_number H name) its.spread (given_in b)) e h.right)
      (λ o. o)
      (bounds_judged (given_in box) j says)

  -- ---- trades

  pub factors_judged : (Xs Fs : List ℕ) (j : Judged) → JudgesFactors j bounds small Xs Fs
      → Judges j (IsFairList market.network H (user_number H name) its.spread Xs Fs) (AreFactorsOpen market H (user_number H name) its.spread Xs Fs)
  factors_judged Xs Fs j says = judges_by j _ _
      (λ e. record { sides = its.sides; are_sides = its.exist; units = units_for (IsTrue small) _ its.tells.1 its.sides Xs Fs (says.allowed e its.sides (each its.sides its.exist)) })
      (λ e h. says.wrong e h.sides (each h.sides h.are_sides) (units_for _ (IsTrue small) its.tells.0 h.sides Xs Fs h.units))
      (λ e. factors_open market H (user_number H name) its.spread (not_told small _ its.tells (says.clear e its.sides (each its.sides its.exist))) small Xs Fs (sides_in bounds) its.sides Xs Fs 0 _
      (its.each its.sides its.exist) its.exist (λ k. ap (slice_get Xs) (let e : 0 + k ≡ k = omega arith in e)) (λ k. ap (slice_get Fs) (let e : 0 + k ≡ k = omega arith in e))
      (says.unclear e its.sides (each its.sides its.exist)))

  pub told_spread : (Xs : List ℕ) (factors : ArrayVec ℕ) (at : ℕ) (j : Judged) → at ≡ now + 1 → JudgesFactors j bounds small Xs factors.items
      → Judges j (IsSpreadTrade market.network H (user_number H name) its.spread Xs (reply.Spreaded factors at))
      (IsSpreadTradeLeftOpen market H (user_number H name) its.spread Xs (reply.Spreaded factors at))
  told_spread Xs factors at j same says = judges_as j _ _ _ _
      (λ fair. record { factors = factors; printed = ap (λ (n : ℕ). reply.Spreaded factors n) (same ∙ ap (λ (n : ℕ). n + 1) its.present); fair = fair })
      (λ h. let e : h.factors ≡ factors = cc (h.printed) in
      subst (λ (f : ArrayVec ℕ). IsFairList market.network H (user_number H name) its.spread Xs f.items) e h.fair)
      (λ o. o)
      (factors_judged Xs factors.items j says)

  -- ---- spreads

  -- inside of quoted bounds
  pub within_judged : (Xs : List ℕ) (intervals : Intervals) (told : Reply) (j : Judged) → InsideEach intervals Xs
      → Judges j (IsSpreadTrade market.network H (user_number H name) its.spread Xs told) (IsSpreadTradeLeftOpen market H (user_number H name) its.spread Xs told)
      → Judges j (IsSpreadJudged market.network H (user_number H name) its.spread Xs intervals told) (IsSpreadTradeLeftOpen market H (user_number H name) its.spread Xs told)
  within_judged Xs intervals told j = judges_inside j (InsideEach intervals Xs)
      (IsSpreadTrade market.network H (user_number H name) its.spread Xs told)
      (IsOutside intervals Xs told)
      (IsSpreadTradeLeftOpen market H (user_number H name) its.spread Xs told)
      (λ outside. outside.outside)

  -- outside of them: a refusal by these bounds alone
  pub beyond_judged : (Xs : List ℕ) (intervals : Intervals) (told : Reply) (j : Judged) → (InsideEach intervals Xs → ⊥)
      → Judges j (IsSameBox intervals told) ⊥
      → Judges j (IsSpreadJudged market.network H (user_number H name) its.spread Xs intervals told) (IsSpreadTradeLeftOpen market H (user_number H name) its.spread Xs told)
  beyond_judged Xs intervals told j out = judges_beyond j (InsideEach intervals Xs)
      (IsSpreadTrade market.network H (user_number H name) its.spread Xs told)
      (IsOutside intervals Xs told)
      (IsSameBox intervals told) (IsSpreadTradeLeftOpen market H (user_number H name) its.spread Xs
      told) out
      (λ same. record { outside = out; box = same.0; given = same.1; printed = same.2 })
      (λ outside. (outside.box, outside.given, outside.printed))

  -- without bounds of the present revision: a reply that is no refusal by bounds
  pub anew_judged : (Xs : List ℕ) (told : Reply) (j : Judged) → outside_told told ≡ None
      → Judges j (IsSpreadTrade market.network H (user_number H name) its.spread Xs told) (IsSpreadTradeLeftOpen market H (user_number H name) its.spread Xs told)
      → Judges j (IsSpreadJudgedAfresh market.network H (user_number H name) its.spread Xs told) (IsSpreadTradeLeftOpen market H (user_number H name) its.spread Xs told)
  anew_judged Xs told j none = judges_alone j _
      (IsOutsideRight market.network H (user_number H name) its.spread Xs told) _
      (λ refused. let e : Some refused.outside.box ≡ None = sym
      (ap outside_told refused.outside.printed) ∙ none in cc)

  -- and one that is such a refusal
  pub outside_within : (Xs : List ℕ) (box : Option (ArrayVec (ℕ × ℕ))) (told : Reply) → told ≡ reply.Refused (Outside box) → InsideEach (given_in box) Xs
      → IsSpreadJudgedAfresh market.network H (user_number H name) its.spread Xs told → ⊥
  outside_within Xs box told e inside (inl trade) = let no : reply.Refused (Outside box) ≡ reply.Spreaded trade.factors (revision H + 1) = sym e ∙ trade.printed in cc
  outside_within Xs box told e inside (inr refused) =
      let no : reply.Refused (Outside box) ≡ reply.Refused (Outside refused.outside.box) = sym e ∙ refused.outside.printed in
      let same : box ≡ refused.outside.box = cc in
      refused.outside.outside (subst (λ (i : Intervals). InsideEach i Xs) (ap given_in same ∙ refused.outside.given) inside)

  pub outside_judged : (Xs : List ℕ) (box : Option (ArrayVec (ℕ × ℕ))) (told : Reply) (j : Judged) → told ≡ reply.Refused (Outside box) → (InsideEach (given_in box) Xs → ⊥)
      → SaysIntervals j bounds small (given_in box)
      → Judges j (IsSpreadJudgedAfresh market.network H (user_number H name) its.spread Xs told) (AreBoundsOpen market H (user_number H name) its.spread (given_in box))
  outside_judged Xs box told j e out says = judges_as j _ _ _ _
      (λ right. inr (record { intervals = given_in box; right = right; outside = record { outside = out; box = box; given = refl; printed = e } })) from (λ o. o) (bounds_judged (given_in box) j says)
    where
      from : IsSpreadJudgedAfresh market.network H (user_number H name) its.spread Xs told
          → AreRightBoundsOf market.network H (user_number H name) its.spread (given_in box)
      from (inl trade) = absurd (let no : reply.Refused (Outside box) ≡ reply.Spreaded trade.factors (revision H + 1) = sym e ∙ trade.printed in cc)
      from (inr refused) =
          let no : reply.Refused (Outside box) ≡ reply.Refused (Outside refused.outside.box) = sym e ∙ refused.outside.printed in
          let same : refused.outside.box ≡ box = cc in
          subst (AreRightBoundsOf market.network H (user_number H name) its.spread) (sym refused.outside.given ∙ ap given_in same) refused.right

  pub outside_spread : (Xs : List ℕ) (box : Option (ArrayVec (ℕ × ℕ))) (told : Reply) (j : Judged) → outside_told told ≡ Some box → (InsideEach (given_in box) Xs → ⊥)
      → SaysIntervals j bounds small (given_in box)
      → Judges j (IsSpreadJudgedAfresh market.network H (user_number H name) its.spread Xs told) (IsSpreadLeftOpen market H (user_number H name) its.spread Xs None told)
  outside_spread Xs box told j h out says = rw (outside_is told box h) (judges_as j _ _ _ _ (λ x. x) (λ x. x) (λ o. (refl, o))
      (outside_judged Xs box (reply.Refused (Outside box)) j refl out says))
