-- What mk_judge leaves open of the values of a variable is near by the steps that an auditor may leave open.
use Rattle.std.proofs.Common.{◌≡◌, ℕ, zero, suc, ◌+◌, inl, inr, Bool, List, [], ◌∷◌, Option, Some, None, ap, ◌∙◌, arith}
use Rattle.std.specs.List.{AllZip, range_with_len, slice_get}
use Rattle.mk_net.specs.Network.{Variable}
use Rattle.mk_exact.specs.History.{Entry}
use Rattle.mk_exact.specs.Factors.{HoldsNoTrade}
use Rattle.mk_exact.specs.Limits.{Side}
use Rattle.mk_exact.specs.Market.{Market}
use Rattle.mk_exact.specs.Weight.{IsSmall}
use Rattle.mk_spread.specs.Spreads.{SpreadAsked}
use Rattle.mk_spread.specs.Markets.{IsValueSide}
use Rattle.mk_quote.specs.declared.side.SideBounds.{SideBounds}
use Rattle.mk_judge.specs.Distributions.{AreEachSideBounds, HaveTradeRange, IsSomeWantedNear, IsSomeIntervalNear, AreSomeUnitsNear}
use Rattle.mk_answers.specs.Evidence.{IsBoundedValue}
use Rattle.mk_evidence.specs.Grades.{evidence_grade}
use Rattle.mk_judge_quotes.specs.Clear.{IsValueOpen, AreUnitsOpen, IsShareOpen, IsIntervalOpen}
use Rattle.mk_judge_quotes.specs.Clear.{near_steps}
use Rattle.mk_judge_quotes.specs.Small.{TellsSmall}
use Rattle.mk_judge_quotes.proofs.Nearer.{grade_room}
use Rattle.mk_judge_quotes.proofs.EditingNear.{units_open, share_open, interval_open}

-- ---- what the bounds give

-- each is in range for one trade more
pub in_range : (most : ℕ) (network : List Variable) (H : List Entry) (u : ℕ)
    (values : List (Option SideBounds)) (sides : List (Option Side))
    → AllZip (IsBoundedValue most network H u) values sides → HaveTradeRange values
in_range most network H u [] sides h = tt
in_range most network H u (value ∷ values) [] h = absurd h
in_range most network H u (None ∷ values) (side ∷ sides) h =
    (tt, in_range most network H u values sides h.1)
in_range most network H u (Some bounds ∷ values) (None ∷ sides) h = absurd h.0
in_range most network H u (Some bounds ∷ values) (Some side ∷ sides) h =
    (h.0.range, in_range most network H u values sides h.1)

-- and encloses what it is of, exactly so where the history is small
pub each_side : (market : Market) (H : List Entry) (u : ℕ) (small : Bool) → TellsSmall small market H → (values : List (Option SideBounds)) (sides : List (Option Side))
    → AllZip (IsBoundedValue (evidence_grade market H) market.network H u) values sides
    → AreEachSideBounds values small sides
each_side market H u small tells [] [] h = tt
each_side market H u small tells [] (side ∷ sides) h = absurd h
each_side market H u small tells (value ∷ values) [] h = absurd h
each_side market H u small tells (None ∷ values) (None ∷ sides) h = (tt, each_side market H u small tells values sides h.1)
each_side market H u small tells (None ∷ values) (Some side ∷ sides) h = absurd h.0
each_side market H u small tells (Some bounds ∷ values) (None ∷ sides) h = absurd h.0
each_side market H u small tells (Some bounds ∷ values) (Some side ∷ sides) h = (h.0.bounds_of small tells.0, each_side market H u small tells values sides h.1)

-- ---- a value that is left open

-- a list goes on behind its first items
next_place : {X : Type 0} (all rest : List X) (x : X) (a : ℕ) → ((k : ℕ) → slice_get all (a + k) ≡ slice_get (x ∷ rest) k)
    → (k : ℕ) → slice_get all (a + 1 + k) ≡ slice_get rest k
next_place all rest x a at k = ap (slice_get all) (let e : a + 1 + k ≡ a + suc k = omega arith in e) ∙ at (suc k)

first_place : {X : Type 0} (all rest : List X) (x : X) (a : ℕ) → ((k : ℕ) → slice_get all (a + k) ≡ slice_get (x ∷ rest) k) → slice_get all a ≡ Some x
first_place all rest x a at = ap (slice_get all) (let e : a ≡ a + 0 = omega arith in e) ∙ at 0

module _ (market : Market) (H : List Entry) (u : ℕ) (spread : SpreadAsked) (large : ¬ IsSmall market.network H) where
  -- by a share of some value
  pub wanted_open : (values : List (Option SideBounds)) (sides : List (Option Side)) (a n : ℕ)
      → AllZip (IsBoundedValue (evidence_grade market H) market.network H u) values sides
      → AllZip (IsValueSide market.network H u spread) (range_with_len a n) sides
      → IsSomeWantedNear values sides → IsValueOpen market H u spread (λ value side. IsShareOpen (near_steps market H) side)
  wanted_open [] sides a n its are near = absurd near
  wanted_open (value ∷ values) [] a n its are near = absurd near
  wanted_open (value ∷ values) (side ∷ sides) a zero its are near = absurd are
  wanted_open (value ∷ values) (side ∷ sides) a (suc n) its are (inr later) = wanted_open values sides (a + 1) n its.1 are.1 later
  wanted_open (None ∷ values) (side ∷ sides) a (suc n) its are (inl here) = absurd here
  wanted_open (Some bounds ∷ values) (None ∷ sides) a (suc n) its are (inl here) = absurd here
  wanted_open (Some bounds ∷ values) (Some side ∷ sides) a (suc n) its are (inl here) = record {
    value = a;
    side = side;
    is_side = are.0;
    large = large;
    is_open = share_open (evidence_grade market H) (grade_room market H)
        market.network H u bounds side its.0 here;
  }

  -- by the interval of some value
  pub intervals_open : (all : List (ℕ × ℕ)) (values : List (Option SideBounds)) (sides : List (Option Side)) (intervals : List (ℕ × ℕ)) (a n : ℕ)
      → AllZip (IsBoundedValue (evidence_grade market H) market.network H u) values sides
      → AllZip (IsValueSide market.network H u spread) (range_with_len a n) sides
      → ((k : ℕ) → slice_get all (a + k) ≡ slice_get intervals k) → IsSomeIntervalNear values sides intervals
      → IsValueOpen market H u spread
      (λ value side. (low : ℕ) × (high : ℕ) × (slice_get all value ≡ Some (low, high)) × IsIntervalOpen (near_steps market H) (HoldsNoTrade H u) side low high)
  intervals_open all [] sides intervals a n its are at near = absurd near
  intervals_open all (value ∷ values) [] intervals a n its are at near = absurd near
  intervals_open all (value ∷ values) (side ∷ sides) [] a n its are at near = absurd near
  intervals_open all (value ∷ values) (side ∷ sides) ((low, high) ∷ intervals) a zero its are at near = absurd are
  intervals_open all (value ∷ values) (side ∷ sides) ((low, high) ∷ intervals) a (suc n) its are at (inr later) =
      intervals_open all values sides intervals (a + 1) n its.1 are.1 (next_place all intervals (low, high) a at) later
  intervals_open all (None ∷ values) (side ∷ sides) ((low, high) ∷ intervals) a (suc n) its are at (inl here) = absurd here
  intervals_open all (Some bounds ∷ values) (None ∷ sides) ((low, high) ∷ intervals) a (suc n) its are at (inl here) = absurd here
  intervals_open all (Some bounds ∷ values) (Some side ∷ sides) ((low, high) ∷ intervals) a (suc n) its are at (inl here) = record {
    value = a;
    side = side;
    is_side = are.0;
    large = large;
    is_open = (
      low,
      high,
      first_place all intervals (low, high) a at,
      interval_open
          (evidence_grade market H) (grade_room market H)
          market.network H u bounds side its.0 low high here,
    );
  }

  -- by the units of some value
  pub factors_open : (small : Bool) (all_shares all_units : List ℕ) (values : List (Option SideBounds)) (sides : List (Option Side)) (Xs Fs : List ℕ) (a n : ℕ)
      → AllZip (IsBoundedValue (evidence_grade market H) market.network H u) values sides
      → AllZip (IsValueSide market.network H u spread) (range_with_len a n) sides
      → ((k : ℕ) → slice_get all_shares (a + k) ≡ slice_get Xs k) → ((k : ℕ) → slice_get all_units (a + k) ≡ slice_get Fs k) → AreSomeUnitsNear small values sides Xs Fs
      → IsValueOpen market H u spread
      (λ value side. (X : ℕ) × (F : ℕ) × (slice_get all_shares value ≡ Some X) × (slice_get all_units value ≡ Some F) × AreUnitsOpen (near_steps market H) (HoldsNoTrade H u) side X F)
  factors_open small all_shares all_units [] sides Xs Fs a n its are at of near = absurd near
  factors_open small all_shares all_units (value ∷ values) [] Xs Fs a n its are at of near = absurd near
  factors_open small all_shares all_units (value ∷ values) (side ∷ sides) [] Fs a n its are at of near = absurd near
  factors_open small all_shares all_units (value ∷ values) (side ∷ sides) (X ∷ Xs) [] a n its are at of near = absurd near
  factors_open small all_shares all_units (value ∷ values) (side ∷ sides) (X ∷ Xs) (F ∷ Fs) a zero its are at of near = absurd are
  factors_open small all_shares all_units (value ∷ values) (side ∷ sides) (X ∷ Xs) (F ∷ Fs) a (suc n) its are at of (inr later) =
      factors_open small all_shares all_units values sides Xs Fs (a + 1) n its.1 are.1 (next_place all_shares Xs X a at) (next_place all_units Fs F a of) later
  factors_open small all_shares all_units (None ∷ values) (side ∷ sides) (X ∷ Xs) (F ∷ Fs) a (suc n) its are at of (inl here) = absurd here
  factors_open small all_shares all_units (Some bounds ∷ values) (None ∷ sides) (X ∷ Xs) (F ∷ Fs) a (suc n) its are at of (inl here) = absurd here
  factors_open small all_shares all_units (Some bounds ∷ values) (Some side ∷ sides) (X ∷ Xs) (F ∷ Fs) a (suc n) its are at of (inl here) = record {
    value = a;
    side = side;
    is_side = are.0;
    large = large;
    is_open = (
      X,
      F,
      first_place all_shares Xs X a at,
      first_place all_units Fs F a of,
      units_open
          (evidence_grade market H) (grade_room market H)
          market.network H u bounds side its.0 small F X here,
    );
  }
