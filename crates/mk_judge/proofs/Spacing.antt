-- Right intervals of one value by what is judged of them.
use Rattle.std.proofs.Common.{◌≡◌, ℕ, ◌≤◌, ◌↔◌, Option, Some, None, arith, le_refl}
use Rattle.std.specs.Bool.{⊤}
use Rattle.mk_exact.specs.Limits.{Side, IsWanted, IsFloorSolvent, Inside, IsWithinRange}
use Rattle.mk_spread.specs.Bounds.{IsRightInterval, NoShare}
use Rattle.mk_quote.specs.declared.side.SideBounds.{SideBounds}
use Rattle.mk_quote.specs.Sides.{AreBoundsOf, AreExact, ratio_for, Serves}
use Rattle.mk_quote.proofs.Serving.{served_is_fair, wanted_serves, exactly_serves}
use Rattle.mk_quote.proofs.Rightness.{within}
use Rattle.mk_quote.proofs.Spanning.{same_interval}
use Rattle.mk_judge.specs.declared.wanted.Wanted.{Wanted}
use Rattle.mk_judge.specs.Limits.{CanBeTraded}
use Rattle.mk_judge.specs.Wanted.{LieInside, SomeShare, HasEnds}
use Rattle.mk_judge.specs.inner.Within.{SomeOutside}
use Rattle.mk_judge.proofs.Exactly.{side_graded}
use Rattle.mk_judge.proofs.Lying.{meant_within}
use Rattle.mk_judge.proofs.Righting.{traded_for}

-- the small case is the same as another where both hold or neither does
pub interval_for_case : (small other : Type 0) (side : Side) (interval : ℕ × ℕ) → (other → small)
    → IsRightInterval small side interval → IsRightInterval other side interval
interval_for_case small other side interval to right = record {
  in_range = right.in_range;
  sound = λ X inside. let at = right.sound X inside in (
    at.0,
    traded_for small other side X
        (at.0) to (at.1),
  );
  near_complete = right.near_complete;
  exact = λ is. right.exact (to is);
}

-- ---- outside of the small case

pub interval_right : (side : Side) (low high : ℕ) → IsWithinRange (Some (low, high))
    → CanBeTraded side low high → LieInside (IsWanted side) (Some (low, high))
    → IsRightInterval ⊥ side (low, high)
interval_right side low high range trade lie = record {
  in_range = range;
  sound = λ X inside. trade X (inside.0) (inside.1);
  near_complete = lie;
  exact = λ none. absurd none;
}

pub interval_traded : (side : Side) (low high : ℕ) → IsRightInterval ⊥ side (low, high)
    → CanBeTraded side low high
interval_traded side low high right X from to = right.sound X (from, to)

-- a share within the inner ends is wanted
pub wanted_within : (wanted : Wanted) (side : Side) (otherwise : Type 0)
    → HasEnds wanted (IsWanted side) otherwise → SomeOutside wanted.inner_low wanted.inner_high None
    → SomeShare IsWanted side
wanted_within wanted side otherwise ends outside =
    let X = outside.0 in
    let at = meant_within wanted (IsWanted side) otherwise ends X (outside.1) (outside.2) in
    (X, at.0, at.1, at.2)

-- ---- in the small case

abbrev pub HoldsServed : SideBounds → Option (ℕ × ℕ) → Type 0
HoldsServed bounds interval = (X : ℕ) → 1 ≤ X → X ≤ 999999 → Inside interval X ↔ Serves bounds X

pub served_right : (bounds : SideBounds) (side : Side) (low high : ℕ)
    → IsWithinRange (Some (low, high)) → HoldsServed bounds (Some (low, high))
    → AreBoundsOf bounds side → AreExact bounds
    → IsRightInterval ⊤ side (low, high)
served_right bounds side low high range serves of exact = record {
  in_range = range;
  sound = λ X inside.
      let w = within (Some (low, high)) range X inside in (
        ratio_for bounds X,
        traded_for (AreExact bounds) ⊤ side X (ratio_for bounds X) (λ _. exact)
            (served_is_fair bounds side of (side_graded bounds exact) X (w.0)
            ((serves X (w.0) (w.1)).0 inside)),
      );
  near_complete = λ X from to wanted. (serves X from to).1 (wanted_serves bounds side of
      (side_graded bounds exact) X from wanted);
  exact = λ _ X from to. (
    λ inside. (exactly_serves bounds side of exact X).0 ((serves X from to).0 inside),
    λ floor. (serves X from to).1 ((exactly_serves bounds side of exact X).1 floor),
  );
}

pub none_served : (bounds : SideBounds) (side : Side) → HoldsServed bounds None
    → AreBoundsOf bounds side → AreExact bounds → NoShare IsWanted (Some side)
    × NoShare IsFloorSolvent (Some side)
none_served bounds side serves of exact = (
  λ X from to wanted. (serves X from to).1 (wanted_serves bounds side of (side_graded bounds exact)
      X from wanted),
  λ X from to floor. (serves X from to).1 ((exactly_serves bounds side of exact X).1 floor),
)

pub some_served : (bounds : SideBounds) (side : Side) (low high : ℕ)
    → IsWithinRange (Some (low, high)) → HoldsServed bounds (Some (low, high))
    → AreBoundsOf bounds side → AreExact bounds
    → SomeShare IsFloorSolvent side
some_served bounds side low high range serves of exact =
    let from = range.0 in
    let order = range.1 in
    let to = range.2 in
    let share : low ≤ 999999 = omega (arith, order, to) in (
      low,
      from,
      share,
      (exactly_serves bounds side of exact low).0 ((serves low from share).0
          (le_refl low, order)),
    )

-- one interval alone is right: the one that holds the shares that serve
pub one_right : (bounds : SideBounds) (side : Side) (own : Option (ℕ × ℕ)) (low high : ℕ)
    → IsWithinRange own → HoldsServed bounds own → AreBoundsOf bounds side → AreExact bounds
    → IsRightInterval ⊤ side (low, high) → own ≡ Some (low, high)
one_right bounds side own low high range serves of exact right =
    same_interval own (Some (low, high)) range right.in_range
    (λ X from to.
    let served = serves X from to in
    let floor = exactly_serves bounds side of exact X in
    let is = right.exact tt X from to in
    (λ inside. is.1 (floor.0 (served.0 inside)), λ inside. served.1 (floor.1 (is.0 inside))))
