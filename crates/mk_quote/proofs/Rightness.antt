-- What the bounds allow is fair and solvent, and limits that hold exactly what they allow are right.
use Rattle.std.proofs.Common.{◌≡◌, ℕ, ◌-◌, ◌<◌, ◌≤◌, ◌↔◌, min, max, Option, Some, None, arith}
use Rattle.mk_net.specs.Bounds.{million}
use Rattle.mk_exact.specs.Limits.{Side, IsFairAndSolvent, IsFloorSolvent, Inside, IsWithinRange}
use Rattle.mk_quote.specs.declared.side.SideBounds.{SideBounds}
use Rattle.mk_quote.specs.declared.bounds.Bounds.{Bounds}
use Rattle.mk_quote.specs.Sides.{ratio_for, Serves}
use Rattle.mk_quote.specs.Bounds.{hit_side, miss_side, EncloseSides, AreAllGraded, AreAllExact, Allows, Limit, AreFairAndSolvent, AreRightFor}
use Rattle.mk_quote.proofs.Serving.{served_is_fair, wanted_serves, exactly_serves}

-- what asks for less of the small case is fair in it too
pub fair_in : (small less : Type 0) (side : Side) (X F : ℕ) → (less → small) → IsFairAndSolvent small side X F → IsFairAndSolvent less side X F
fair_in small less side X F within f = record {
  fair = record { positive = f.fair.positive; fits = f.fair.fits; not_above = f.fair.not_above; close = f.fair.close; floor = λ s. f.fair.floor (within s) };
  solvent = f.solvent;
}

pub allowed_is_fair : (bounds : Bounds) (X : ℕ) → 1 ≤ X → X ≤ 999999 → Allows bounds X
    → AreFairAndSolvent bounds X (ratio_for (hit_side bounds) X) (ratio_for (miss_side bounds) (million - X))
allowed_is_fair bounds X p q allows = λ hit miss enclose graded. (
  fair_in _ _ hit X _ (λ exact. exact.hit) (served_is_fair (hit_side bounds) hit enclose.of_hit graded.hit X p (allows.0)),
  fair_in _ _ miss (million - X) _ (λ exact. exact.miss) (served_is_fair (miss_side bounds) miss enclose.of_miss graded.miss (million - X) (omega arith) (allows.1)),
)

pub within : (limits : Option (ℕ × ℕ)) → IsWithinRange limits → (X : ℕ) → Inside limits X → (1 ≤ X) × (X ≤ 999999)
within None r X i = absurd i
within (Some (low, high)) r X i = (omega (arith, r.0, i.0), omega (arith, r.2, i.1))

pub limits_are_right : (bounds : Bounds) (limits : Option (ℕ × ℕ)) → IsWithinRange limits → Limit bounds limits → AreRightFor bounds limits
limits_are_right bounds limits range limit = λ hit miss enclose graded. record {
  in_range = range;
  sound = λ X i. pair hit miss enclose graded X (within limits range X i) i;
  near_complete = λ X p q h m. (limit X p q).1 (wanted_serves (hit_side bounds) hit enclose.of_hit graded.hit X p h, wanted_serves (miss_side bounds) miss enclose.of_miss graded.miss (million - X) (omega arith) m);
  exact = λ small X p q. exactly hit miss enclose small X p q;
}
  where
    pair : (hit miss : Side) → EncloseSides bounds hit miss → AreAllGraded bounds → (X : ℕ) → (1 ≤ X) × (X ≤ 999999) → Inside limits X
        → (F_t : ℕ) × (F_n : ℕ) × IsFairAndSolvent (AreAllExact bounds) hit X F_t × IsFairAndSolvent (AreAllExact bounds) miss (million - X) F_n
    pair hit miss enclose graded X w i =
        let f = allowed_is_fair bounds X (w.0) (w.1) ((limit X (w.0) (w.1)).0 i) hit miss enclose graded in
        (ratio_for (hit_side bounds) X, ratio_for (miss_side bounds) (million - X), f.0, f.1)

    exactly : (hit miss : Side) → EncloseSides bounds hit miss → AreAllExact bounds → (X : ℕ) → 1 ≤ X → X ≤ 999999
        → Inside limits X ↔ (IsFloorSolvent hit X × IsFloorSolvent miss (million - X))
    exactly hit miss enclose small X p q =
        let h = exactly_serves (hit_side bounds) hit enclose.of_hit small.hit X in
        let m = exactly_serves (miss_side bounds) miss enclose.of_miss small.miss (million - X) in
        let l = limit X p q in
        (λ i. (h.0 ((l.0 i).0), m.0 ((l.0 i).1)), λ f. l.1 (h.1 (f.0), m.1 (f.1)))

-- The intervals of both sides meet in what both allow: a share of the other side is what is left of a million.
pub allowed_by_both : (bounds : Bounds) (hit miss : SideBounds) (low high least greatest from to : ℕ) → hit ≡ hit_side bounds → miss ≡ miss_side bounds
    → ((X : ℕ) → 1 ≤ X → X ≤ 999999 → Inside (Some (low, high)) X ↔ Serves hit X)
    → ((X : ℕ) → 1 ≤ X → X ≤ 999999 → Inside (Some (least, greatest)) X ↔ Serves miss X)
    → IsWithinRange (Some (least, greatest)) → from ≡ max low (million - greatest) → to ≡ min high (million - least)
    → (X : ℕ) → 1 ≤ X → X ≤ 999999 → ((from ≤ X) × (X ≤ to)) ↔ Allows bounds X
allowed_by_both bounds hit miss low high least greatest from to e f h m range g k X p q = (
  λ i. (rw (← e) ((h X p q).0 (omega (arith, i.0), omega (arith, i.1))), rw (← f) ((m (million - X) (omega arith) (omega arith)).0 (omega (arith, i.0, i.1, range.2), omega (arith, i.0, i.1, range.2, range.1)))),
  λ allows.
      let a = (h X p q).1 (rw e (allows.0)) in
      let b = (m (million - X) (omega arith) (omega arith)).1 (rw f (allows.1)) in
      (omega (arith, a.0, b.1), omega (arith, a.1, b.0)),
)

-- intervals that do not meet leave nothing that both allow
pub none_allowed : (bounds : Bounds) (from to : ℕ) → ((X : ℕ) → 1 ≤ X → X ≤ 999999 → ((from ≤ X) × (X ≤ to)) ↔ Allows bounds X) → to < from → Limit bounds None
none_allowed bounds from to limit apart X p q = (λ i. absurd i, λ allows. crossed ((limit X p q).1 allows))
  where
    crossed : (from ≤ X) × (X ≤ to) → ⊥
    crossed i = omega (arith, i.0, i.1)

-- units that serve each side are fair and solvent together
pub judged_is_fair : (bounds : Bounds) (hit miss : SideBounds) (X F_t F_n : ℕ) → 1 ≤ X → X ≤ 999999 → hit ≡ hit_side bounds → miss ≡ miss_side bounds
    → Serves hit X → Serves miss (million - X) → F_t ≡ ratio_for hit X → F_n ≡ ratio_for miss (million - X) → AreFairAndSolvent bounds X F_t F_n
judged_is_fair bounds hit miss X F_t F_n p q e f h m s t = rw (s, t, e, f) (allowed_is_fair bounds X p q (rw e at h, rw f at m))
