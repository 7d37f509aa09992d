use Rattle.std.proofs.Common.{ℕ, ◌-◌, ◌*◌, ◌/◌, ◌^◌, ◌≤◌, Option, Some, None, refl, arith, subst}
use Rattle.mk_exact.specs.Weight.{IsSmall}
use Rattle.mk_exact.specs.Limits.{Side, IsFairAndSolvent, AreRight}
use Rattle.mk_exact.specs.Sides.{AreSides, AreRightLimits}
use Rattle.mk_exact.specs.Examples.{coin, heads, deposited_one, even}
use Rattle.mk_exact.proofs.examples.example_limits.Goals as goal

abbrev Small : Type 0
Small = IsSmall coin deposited_one

small : Small
small = omega arith

sides : AreSides coin deposited_one 0 heads even even
sides = record { hit_side = refl; miss_side = refl }

-- the floor of the units for X
units : (X : ℕ) → 250000 ≤ X → X ≤ 750000 → IsFairAndSolvent Small even X (X * 2 ^ 41 / 10 ^ 6)
units X p q = record { fair = record { positive = omega arith; fits = omega arith; not_above = omega arith; close = omega arith; floor = λ _. omega arith }; solvent = omega arith }

right : AreRight Small even even (Some (250000, 750000))
right = record {
  in_range = (omega arith, omega arith, omega arith);
  sound = λ X inside. let p : 250000 ≤ X = inside.0 in let q : X ≤ 750000 = inside.1 in
      (X * 2 ^ 41 / 10 ^ 6, (10 ^ 6 - X) * 2 ^ 41 / 10 ^ 6, units X p q, units (10 ^ 6 - X) (omega arith) (omega arith));
  near_complete = λ X p q hit miss. (omega arith, omega arith);
  exact = λ _ X p q. (
    λ inside. let r : 250000 ≤ X = inside.0 in let s : X ≤ 750000 = inside.1 in ((omega arith, omega arith), (omega arith, omega arith)),
    λ floors. let r = floors.0.1 in let s = floors.1.1 in (omega arith, omega arith),
  );
}

-- right limits are right for the sides that there are
for_even : (limits : Option (ℕ × ℕ)) → AreRightLimits coin deposited_one 0 heads limits → AreRight Small even even limits
for_even limits h = subst (λ (miss : Side). AreRight Small even miss limits) h.sides.miss_side (subst (λ (hit : Side). AreRight Small hit h.miss limits) h.sides.hit_side h.right)

too_wide : AreRight Small even even (Some (250000, 750001)) → ⊥
too_wide r = let floors = (r.exact small 750001 (omega arith) (omega arith)).0 (omega arith, omega arith) in omega (arith, floors.1.1)

too_narrow : AreRight Small even even (Some (250001, 750000)) → ⊥
too_narrow r = let inside = (r.exact small 250000 (omega arith) (omega arith)).1 ((omega arith, omega arith), (omega arith, omega arith)) in omega (arith, inside.0)

not_none : AreRight Small even even None → ⊥
not_none r = (r.exact small 500000 (omega arith) (omega arith)).1 ((omega arith, omega arith), (omega arith, omega arith))

pub returns : goal.returns
returns c = record {
  sides = sides;
  right = record { hit = even; miss = even; sides = sides; right = right };
  too_wide = λ h. too_wide (for_even (Some (250000, 750001)) h);
  too_narrow = λ h. too_narrow (for_even (Some (250001, 750000)) h);
  not_none = λ h. not_none (for_even None h);
}
