use Rattle.std.proofs.Common.{◌≡◌, ℕ, ◌*◌, ◌/◌, ◌^◌, ◌≤◌, List, [], ◌∷◌, Option, Some, None, refl, ap, arith, subst}
use Rattle.mk_exact.specs.Weight.{IsSmall}
use Rattle.mk_exact.specs.Limits.{Side, IsFairAndSolvent, IsFloorSolvent}
use Rattle.mk_exact.specs.Examples.{deposited_one, fraction}
use Rattle.mk_spread.specs.Bounds.{Intervals, AreFairUnits, IsRightInterval, AreRightBounds}
use Rattle.mk_spread.specs.Markets.{AreValueSides, AreRightBoundsOf}
use Rattle.mk_spread.specs.Examples.{every_face, gate, gate_sides}
use Rattle.mk_spread.proofs.Agree.{same_sides, IsFloorShare, no_share}
use Rattle.mk_spread.proofs.Exist.{given_right}
use Rattle.mk_spread.proofs.examples.example_gate.Goals as goal

abbrev Small : Type 0
Small = IsSmall gate deposited_one

small : Small
small = omega arith

sides : AreValueSides gate deposited_one 0 every_face gate_sides
sides = (refl, (refl, (refl, tt)))

-- the side of a value of this weight
abbrev side_of : ℕ → Side
side_of weight = record { price = fraction weight 1000000; least = fraction 2 1 }

-- the floor of the units for X
open_units : (X : ℕ) → 125000 ≤ X → X ≤ 999999 → IsFairAndSolvent Small (side_of 250000) X (X * 2 ^ 40 / 250000)
open_units X p q = record { fair = record { positive = omega arith; fits = omega arith; not_above = omega arith; close = omega arith; floor = λ _. omega arith }; solvent = omega arith }

shut_units : (X : ℕ) → 375000 ≤ X → X ≤ 999999 → IsFairAndSolvent Small (side_of 750000) X (X * 2 ^ 40 / 750000)
shut_units X p q = record { fair = record { positive = omega arith; fits = omega arith; not_above = omega arith; close = omega arith; floor = λ _. omega arith }; solvent = omega arith }

open_right : IsRightInterval Small (side_of 250000) (125000, 999999)
open_right = record {
  in_range = (omega arith, omega arith, omega arith);
  sound = λ X inside. let p : 125000 ≤ X = inside.0 in let q : X ≤ 999999 = inside.1 in (X * 2 ^ 40 / 250000, open_units X p q);
  near_complete = λ X p q wanted. (omega arith, omega arith);
  exact = λ _ X p q. (λ inside. let r : 125000 ≤ X = inside.0 in (omega arith, omega arith), λ floor. let r = floor.1 in (omega arith, omega arith));
}

shut_right : IsRightInterval Small (side_of 750000) (375000, 999999)
shut_right = record {
  in_range = (omega arith, omega arith, omega arith);
  sound = λ X inside. let p : 375000 ≤ X = inside.0 in let q : X ≤ 999999 = inside.1 in (X * 2 ^ 40 / 750000, shut_units X p q);
  near_complete = λ X p q wanted. (omega arith, omega arith);
  exact = λ _ X p q. (λ inside. let r : 375000 ≤ X = inside.0 in (omega arith, omega arith), λ floor. let r = floor.1 in (omega arith, omega arith));
}

right : AreRightBounds Small gate_sides (Some ((125000, 999999) ∷ (375000, 999999) ∷ (0, 0) ∷ []))
right = given_right Small gate_sides ((125000, 999999) ∷ (375000, 999999) ∷ (0, 0) ∷ []) (open_right, (shut_right, (refl, tt)))

-- what is right or fair is so for the sides that there are
same : (found : List (Option Side)) → AreValueSides gate deposited_one 0 every_face found → found ≡ gate_sides
same found h = same_sides gate deposited_one 0 every_face found gate_sides h sides

for_gate : (intervals : Intervals) → AreRightBoundsOf gate deposited_one 0 every_face intervals → AreRightBounds Small gate_sides intervals
for_gate intervals h = subst (λ (found : List (Option Side)). AreRightBounds Small found intervals) (same h.sides h.are_sides) h.right

no_interval : AreRightBounds Small gate_sides (Some ((125000, 999999) ∷ (375000, 999999) ∷ (1, 999999) ∷ [])) → ⊥
no_interval r = omega (arith, ap (λ (n : ℕ × ℕ). n.0) r.given.1.1.0)

not_none : AreRightBounds Small gate_sides None → ⊥
not_none r = no_share gate_sides (500000 ∷ 500000 ∷ 0 ∷ []) ((r.exactly_none small).0 refl) (share 250000 (omega arith, omega arith), (share 750000 (omega arith, omega arith), (refl, tt)))
  where
    share : (weight : ℕ) → IsFloorSolvent (side_of weight) 500000 → IsFloorShare (side_of weight) 500000
    share weight floor = record { least = omega arith; most = omega arith; floor = floor }

-- the list for 500,000 and 500,000
first : IsFairAndSolvent Small (side_of 250000) 500000 2199023255552
first = record { fair = record { positive = omega arith; fits = omega arith; not_above = omega arith; close = omega arith; floor = λ _. omega arith }; solvent = omega arith }

second : IsFairAndSolvent Small (side_of 750000) 500000 733007751850
second = record { fair = record { positive = omega arith; fits = omega arith; not_above = omega arith; close = omega arith; floor = λ _. omega arith }; solvent = omega arith }

no_units : AreFairUnits Small gate_sides (500000 ∷ 500000 ∷ 0 ∷ []) (2199023255552 ∷ 733007751850 ∷ 1 ∷ []) → ⊥
no_units f = let e : 1 ≡ 2 ^ 40 = f.1.1.0.1 in omega arith

pub returns : goal.returns
returns c = record {
  sides = sides;
  left = refl;
  alone = refl;
  right = record { sides = gate_sides; are_sides = sides; right = right };
  suit = ((omega arith, omega arith), ((omega arith, omega arith), (refl, tt)));
  fair = record { sides = gate_sides; are_sides = sides; units = (first, (second, ((refl, refl), tt))) };
  no_share = λ h. let e : 100000 ≡ 0 = h.1.1.0 in omega arith;
  missing = λ h. let e : 1 ≤ 0 = h.0.0 in omega arith;
  no_interval = λ h. no_interval (for_gate (Some ((125000, 999999) ∷ (375000, 999999) ∷ (1, 999999) ∷ [])) h);
  no_units = λ h. no_units (subst (λ (found : List (Option Side)). AreFairUnits Small found (500000 ∷ 500000 ∷ 0 ∷ []) (2199023255552 ∷ 733007751850 ∷ 1 ∷ [])) (same h.sides h.are_sides) h.units);
  not_none = λ h. not_none (for_gate None h);
}
