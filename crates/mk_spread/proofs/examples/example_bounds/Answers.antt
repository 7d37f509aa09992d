use Rattle.std.proofs.Common.{ℕ, ◌*◌, ◌/◌, ◌^◌, ◌≤◌, List, [], ◌∷◌, Option, Some, None, refl, arith, subst}
use Rattle.mk_exact.specs.Weight.{IsSmall}
use Rattle.mk_exact.specs.Limits.{Side, IsFairAndSolvent, IsFloorSolvent}
use Rattle.mk_exact.specs.Examples.{die, deposited_one, fraction}
use Rattle.mk_spread.specs.Bounds.{Intervals, IsRightInterval, AreRightBounds}
use Rattle.mk_spread.specs.Markets.{AreValueSides, AreRightBoundsOf}
use Rattle.mk_spread.specs.Examples.{every_face, faces}
use Rattle.mk_spread.proofs.Agree.{same_sides, IsFloorShare, no_share}
use Rattle.mk_spread.proofs.Exist.{given_right}
use Rattle.mk_spread.proofs.examples.example_bounds.Goals as goal

abbrev Small : Type 0
Small = IsSmall die deposited_one

small : Small
small = omega arith

sides : AreValueSides die deposited_one 0 every_face faces
sides = (refl, (refl, (refl, tt)))

-- the side of a value of this weight
abbrev side_of : ℕ → Side
side_of weight = record { price = fraction weight 1000000; least = fraction 2 1 }

-- the floor of the units for X
low_units : (X : ℕ) → 166667 ≤ X → X ≤ 999999 → IsFairAndSolvent Small (side_of 333333) X (X * 2 ^ 40 / 333333)
low_units X p q = record { fair = record { positive = omega arith; fits = omega arith; not_above = omega arith; close = omega arith; floor = λ _. omega arith }; solvent = omega arith }

high_units : (X : ℕ) → 166667 ≤ X → X ≤ 999999 → IsFairAndSolvent Small (side_of 333334) X (X * 2 ^ 40 / 333334)
high_units X p q = record { fair = record { positive = omega arith; fits = omega arith; not_above = omega arith; close = omega arith; floor = λ _. omega arith }; solvent = omega arith }

low_right : IsRightInterval Small (side_of 333333) (166667, 999999)
low_right = record {
  in_range = (omega arith, omega arith, omega arith);
  sound = λ X inside. let p : 166667 ≤ X = inside.0 in let q : X ≤ 999999 = inside.1 in (X * 2 ^ 40 / 333333, low_units X p q);
  near_complete = λ X p q wanted. (omega arith, omega arith);
  exact = λ _ X p q. (λ inside. let r : 166667 ≤ X = inside.0 in (omega arith, omega arith), λ floor. let r = floor.1 in (omega arith, omega arith));
}

high_right : IsRightInterval Small (side_of 333334) (166667, 999999)
high_right = record {
  in_range = (omega arith, omega arith, omega arith);
  sound = λ X inside. let p : 166667 ≤ X = inside.0 in let q : X ≤ 999999 = inside.1 in (X * 2 ^ 40 / 333334, high_units X p q);
  near_complete = λ X p q wanted. (omega arith, omega arith);
  exact = λ _ X p q. (λ inside. let r : 166667 ≤ X = inside.0 in (omega arith, omega arith), λ floor. let r = floor.1 in (omega arith, omega arith));
}

right : AreRightBounds Small faces (Some ((166667, 999999) ∷ (166667, 999999) ∷ (166667, 999999) ∷ []))
right = given_right Small faces ((166667, 999999) ∷ (166667, 999999) ∷ (166667, 999999) ∷ []) (low_right, (low_right, (high_right, tt)))

-- right bounds are right for the sides that there are
for_faces : (intervals : Intervals) → AreRightBoundsOf die deposited_one 0 every_face intervals → AreRightBounds Small faces intervals
for_faces intervals h = subst (λ (found : List (Option Side)). AreRightBounds Small found intervals) (same_sides die deposited_one 0 every_face h.sides faces h.are_sides sides) h.right

too_wide : AreRightBounds Small faces (Some ((166667, 999999) ∷ (166666, 999999) ∷ (166667, 999999) ∷ [])) → ⊥
too_wide r = let floor = (r.given.1.0.exact small 166666 (omega arith) (omega arith)).0 (omega arith, omega arith) in omega (arith, floor.1)

too_narrow : AreRightBounds Small faces (Some ((166667, 999999) ∷ (166667, 999999) ∷ (166667, 999998) ∷ [])) → ⊥
too_narrow r = let inside = (r.given.1.1.0.exact small 999999 (omega arith) (omega arith)).1 (omega arith, omega arith) in omega (arith, inside.1)

not_none : AreRightBounds Small faces None → ⊥
not_none r = no_share faces (500000 ∷ 500000 ∷ 500000 ∷ []) ((r.exactly_none small).0 refl) (share 333333 (omega arith, omega arith), (share 333333 (omega arith, omega arith), (share 333334 (omega arith, omega arith), tt)))
  where
    share : (weight : ℕ) → IsFloorSolvent (side_of weight) 500000 → IsFloorShare (side_of weight) 500000
    share weight floor = record { least = omega arith; most = omega arith; floor = floor }

-- the list for 200,000, 300,000 and 500,000
first : IsFairAndSolvent Small (side_of 333333) 200000 659707636373
first = record { fair = record { positive = omega arith; fits = omega arith; not_above = omega arith; close = omega arith; floor = λ _. omega arith }; solvent = omega arith }

second : IsFairAndSolvent Small (side_of 333333) 300000 989561454559
second = record { fair = record { positive = omega arith; fits = omega arith; not_above = omega arith; close = omega arith; floor = λ _. omega arith }; solvent = omega arith }

third : IsFairAndSolvent Small (side_of 333334) 500000 1649264143135
third = record { fair = record { positive = omega arith; fits = omega arith; not_above = omega arith; close = omega arith; floor = λ _. omega arith }; solvent = omega arith }

pub returns : goal.returns
returns c = record {
  sides = sides;
  right = record { sides = faces; are_sides = sides; right = right };
  fair = record { sides = faces; are_sides = sides; units = (first, (second, (third, tt))) };
  too_wide = λ h. too_wide (for_faces (Some ((166667, 999999) ∷ (166666, 999999) ∷ (166667, 999999) ∷ [])) h);
  too_narrow = λ h. too_narrow (for_faces (Some ((166667, 999999) ∷ (166667, 999999) ∷ (166667, 999998) ∷ [])) h);
  too_few = λ h. (for_faces (Some ((166667, 999999) ∷ (166667, 999999) ∷ [])) h).given.1.1;
  not_none = λ h. not_none (for_faces None h);
}
