-- Where a list has no first fault, no item has one.
use Rattle.std.specs.Prelude.{◌≡◌, ℕ, zero, suc, ◌+◌, ◌<◌, List, [], ◌∷◌, map, length, Bool, true, false, not, Option, Some, None}
use Rattle.std.proofs.Common.{refl, sym, arith, get_or}
use Rattle.std.proofs.lemmas.List.{get_or-map, length-map}
use Rattle.mk_net.specs.Firsts.{fault_if, or_else, first_in}

pub neither : {F : Type 0} (a b : Option F) → or_else a b ≡ None → (a ≡ None) × (b ≡ None)
neither None b h = (refl, h)
neither (Some fault) b h = cc

pub untested : {F : Type 0} (test : Bool) (fault : F) → fault_if test fault ≡ None → test ≡ false
untested true fault h = cc
untested false fault h = refl

pub passed : {F : Type 0} (test : Bool) (fault : F) → fault_if (not test) fault ≡ None → test ≡ true
passed true fault h = refl
passed false fault h = cc

pub none_at : {X F : Type 0} (fault : ℕ → X → Option F) (place : ℕ) (xs : List X) (i : ℕ) (d : X) →
    first_in fault place xs ≡ None → i < length xs → fault (place + i) (get_or xs i d) ≡ None
none_at fault place [] i d h within = absurd (omega (arith, within))
none_at fault place (x ∷ xs) zero d h within =
    let here : place + 0 ≡ place = omega arith in
    rw here ((neither (fault place x) (first_in fault (place + 1) xs) h).0)
none_at fault place (x ∷ xs) (suc i) d h within =
    let later : place + suc i ≡ place + 1 + i = omega arith in
    rw later (none_at fault (place + 1) xs i d ((neither (fault place x) (first_in fault (place + 1) xs) h).1) (omega (arith, within)))

-- the same, where the items are read by a function
pub none_of_map : {X Y F : Type 0} (read : Y → X) (fault : ℕ → X → Option F) (place : ℕ) (ys : List Y) (i : ℕ) (d : Y) →
    first_in fault place (map read ys) ≡ None → i < length ys → fault (place + i) (read (get_or ys i d)) ≡ None
none_of_map read fault place ys i d h within =
    rw (sym (get_or-map read ys i d (read d) within)) (none_at fault place (map read ys) i (read d) h (omega (arith, within, length-map ys read)))
