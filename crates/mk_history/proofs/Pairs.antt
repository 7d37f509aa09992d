-- The pairs of an event, one after another.
use Rattle.std.specs.Prelude.{◌≡◌, ℕ, zero, suc, ◌<◌, List, [], ◌∷◌, length, take, get_or, ◌≤◌, ◌⊎◌}
use Rattle.std.specs.Prelude.{Bool, true, false, ◌||◌, ◌==◌}
use Rattle.std.proofs.Common.{refl, sym, ap, arith, inl, inr, length-take}
use Rattle.std.proofs.lemmas.Bool.{eqb-true, eq-eqb}
use Rattle.mk_net.specs.declared.words.Pair.{Pair}
use Rattle.mk_net.specs.Bounds.{max_condition, max_pairs}
use Rattle.mk_net.specs.Events.{speaks_of, AreApart}

same_place : (x y : ℕ) → (x == y) ≡ false → (y == x) ≡ false
same_place x y h = choose (y == x) refl
  where
    choose : (b : Bool) → (y == x) ≡ b → (y == x) ≡ false
    choose true e = absurd (let t : (x == y) ≡ true = eq-eqb x y (sym (eqb-true y x e)) in cc)
    choose false e = e

neither : (p q : Bool) → p || q ≡ false → (p ≡ false) × (q ≡ false)
neither true q h = cc
neither false q h = (refl, h)

-- a variable of which no pair speaks is none of theirs
other_than : (pairs : List Pair) (x k : ℕ) (d : Pair) → k < length pairs → speaks_of pairs x ≡ false
    → (x == (get_or pairs k d).variable) ≡ false
other_than [] x k d below none = absurd (omega (arith, below))
other_than (p ∷ ps) x zero d below none = (neither (x == p.variable) (speaks_of ps x) none).0
other_than (p ∷ ps) x (suc k) d below none =
    other_than ps x k d (omega (arith, below)) (neither (x == p.variable) (speaks_of ps x) none).1

-- no pair before one of the event speaks of its variable
pub none_before : (pairs : List Pair) (k : ℕ) (d : Pair) → k < length pairs → AreApart pairs
    → speaks_of (take k pairs) (get_or pairs k d).variable ≡ false
none_before [] k d below apart = absurd (omega (arith, below))
none_before (p ∷ ps) zero d below apart = refl
none_before (p ∷ ps) (suc k) d below apart =
    let there : k < length ps = omega (arith, below) in
    rw (same_place p.variable (get_or ps k d).variable (other_than ps p.variable k d there apart.0), none_before ps k d there apart.1) refl

-- one more pair of the event always fits
pub always_fits : (event pairs : List Pair) (k : ℕ) (d : Pair) → event ≡ take k pairs → k < length pairs → length pairs ≤ max_condition
    → AreApart pairs → (length event ≡ max_pairs) ⊎ (speaks_of event (get_or pairs k d).variable ≡ true) → ⊥
always_fits event pairs k d is below few apart (inl full) =
    omega (arith, length-take k pairs, ap length is, full, below, few)
always_fits event pairs k d is below few apart (inr spoken) =
    let none : speaks_of (take k pairs) (get_or pairs k d).variable ≡ false = none_before pairs k d below apart in
    let some : speaks_of (take k pairs) (get_or pairs k d).variable ≡ true = rw is at spoken in
    cc
