-- The values that a cell gives the variables, one variable after the other.
use Rattle.std.proofs.Common.{◌≡◌, ℕ, suc, zero, ◌+◌, ◌*◌, ◌/◌, ◌%◌, ◌<◌, ◌≤◌, Bool, true, false, cond, ◌||◌, ◌⊎◌, inl, inr, eqb, List, [], ◌∷◌, length, get_or, take, drop, refl, sym, ap, ◌∙◌, arith, mul-zero, one-mul, mul_assoc, eq-eqb}
use Rattle.std.proofs.Math.Nat.{mod-lt, mod-eq_of_lt, mul-add-mod_self_right, one-le-mul}
use Rattle.std.proofs.lemmas.Nat.{div-add-mod', div_below}
use Rattle.std.proofs.lemmas.Bool.{cases_Bool, both_ways, or_parts, or_left, or_right, eqb-true}
use Rattle.mk_sums.specs.Sums.{upd, listed}
use Rattle.mk_sums.specs.Cells.{cells, place, Apart}

pub some_cells : (n k c : ℕ) → c < n * k → 0 < k
some_cells n zero c h = absurd (omega (arith, mul-zero n))
some_cells n (suc k) c h = omega arith

-- a variable that is not listed keeps its value
pub place_other : (size : ℕ → ℕ) (xs : List ℕ) (c : ℕ) (a : ℕ → ℕ) (y : ℕ) → listed xs y ≡ false → place size xs c a y ≡ a y
place_other size [] c a y h = refl
place_other size (x ∷ xs) c a y h =
    let p = or_parts (eqb y x) (listed xs y) h in
    place_other size xs (c % cells size xs) (upd a x (c / cells size xs)) y p.1 ∙ ap (λ b. cond b (c / cells size xs) (a y)) p.0

-- each value is one of its variable's
pub place_below : (size : ℕ → ℕ) (xs : List ℕ) (c : ℕ) (a : ℕ → ℕ) → c < cells size xs → (y : ℕ) → listed xs y ≡ true → place size xs c a y < size y
place_below size [] c a h y p = absurd (both_ways false refl p)
place_below size (x ∷ xs) c a h y p = at (cases_Bool (listed xs y)) (place_below size xs (c % cells size xs) (upd a x (c / cells size xs)) (mod-lt c some) y)
  where
    some : 0 < cells size xs
    some = some_cells (size x) (cells size xs) c h

    first : (b l : Bool) → (b || l) ≡ true → l ≡ false → b ≡ true
    first true l p q = refl
    first false l p q = absurd (both_ways l q p)

    at : ((listed xs y ≡ true) ⊎ (listed xs y ≡ false)) → (listed xs y ≡ true → place size xs (c % cells size xs) (upd a x (c / cells size xs)) y < size y)
        → place size xs (c % cells size xs) (upd a x (c / cells size xs)) y < size y
    at (inl q) ih = ih q
    at (inr q) ih =
        let e : eqb y x ≡ true = first (eqb y x) (listed xs y) p q in
        let f : y ≡ x = eqb-true y x e in
        let v : place size xs (c % cells size xs) (upd a x (c / cells size xs)) y ≡ c / cells size xs = place_other size xs (c % cells size xs) (upd a x (c / cells size xs)) y q ∙ ap (λ b. cond b (c / cells size xs) (a y)) e in
        let l : c / cells size xs < size x = div_below c (cells size xs) (size x) some h in
        omega (arith, v, l, ap size f)

-- the cells of the variables before a place, times those from there on
pub cells_split : (size : ℕ → ℕ) (xs : List ℕ) (i : ℕ) → cells size xs ≡ cells size (take i xs) * cells size (drop i xs)
cells_split size xs zero = sym (one-mul (cells size xs))
cells_split size [] (suc i) = refl
cells_split size (x ∷ xs) (suc i) = ap (λ n. size x * n) (cells_split size xs i) ∙ sym (mul_assoc (size x) (cells size (take i xs)) (cells size (drop i xs)))

mod_twice : (c m p : ℕ) → c % (m * p) % p ≡ c % p
mod_twice c m p =
    sym (mul-add-mod_self_right (c / (m * p) * m) p (c % (m * p)))
    ∙ ap (λ n. n % p) (ap (λ n. n + c % (m * p)) (mul_assoc (c / (m * p)) m p) ∙ div-add-mod' c (m * p))

-- the value of the variable at a place of the list
pub place_at : (size : ℕ → ℕ) (xs : List ℕ) → Apart xs → (i c : ℕ) (a : ℕ → ℕ) → i < length xs → c < cells size xs
    → place size xs c a (get_or xs i 0) ≡ c % cells size (drop i xs) / cells size (drop (suc i) xs)
place_at size [] d i c a h k = absurd (omega arith)
place_at size (x ∷ xs) d zero c a h k =
    place_other size xs (c % cells size xs) (upd a x (c / cells size xs)) x d.0
    ∙ ap (λ b. cond b (c / cells size xs) (a x)) (eq-eqb x x refl)
    ∙ ap (λ n. n / cells size xs) (sym (mod-eq_of_lt k))
place_at size (x ∷ xs) d (suc i) c a h k =
    place_at size xs d.1 i (c % cells size xs) (upd a x (c / cells size xs)) (omega arith) (mod-lt c (some_cells (size x) (cells size xs) c k))
    ∙ ap (λ n. n / cells size (drop (suc i) xs)) (ap (λ n. c % n % cells size (drop i xs)) (cells_split size xs i) ∙ mod_twice c (cells size (take i xs)) (cells size (drop i xs)))

-- two sizes that agree on the variables
pub cells_same : (f g : ℕ → ℕ) (xs : List ℕ) → ((x : ℕ) → listed xs x ≡ true → f x ≡ g x) → cells f xs ≡ cells g xs
cells_same f g [] h = refl
cells_same f g (x ∷ xs) h =
    ap (λ n. n * cells f xs) (h x (or_left (eqb x x) (listed xs x) (eq-eqb x x refl)))
    ∙ ap (λ n. g x * n) (cells_same f g xs (λ y p. h y (or_right (eqb y x) (listed xs y) p)))

pub place_same : (f g : ℕ → ℕ) (xs : List ℕ) → ((x : ℕ) → listed xs x ≡ true → f x ≡ g x) → (c : ℕ) (a : ℕ → ℕ) (y : ℕ) → place f xs c a y ≡ place g xs c a y
place_same f g [] h c a y = refl
place_same f g (x ∷ xs) h c a y =
    let rest : (y : ℕ) → listed xs y ≡ true → f y ≡ g y = λ y p. h y (or_right (eqb y x) (listed xs y) p) in
    place_same f g xs rest (c % cells f xs) (upd a x (c / cells f xs)) y
    ∙ ap (λ n. place g xs (c % n) (upd a x (c / n)) y) (cells_same f g xs rest)

-- there is a cell where each variable has a value
pub cells_pos : (size : ℕ → ℕ) (xs : List ℕ) → ((x : ℕ) → listed xs x ≡ true → 1 ≤ size x) → 1 ≤ cells size xs
cells_pos size [] h = omega arith
cells_pos size (x ∷ xs) h =
    one-le-mul (h x (or_left (eqb x x) (listed xs x) (eq-eqb x x refl))) (cells_pos size xs (λ y p. h y (or_right (eqb y x) (listed xs y) p)))

-- what a list has is listed
pub listed_at : (xs : List ℕ) (i d : ℕ) → i < length xs → listed xs (get_or xs i d) ≡ true
listed_at [] i d h = absurd (omega arith)
listed_at (x ∷ xs) zero d h = or_left (eqb x x) (listed xs x) (eq-eqb x x refl)
listed_at (x ∷ xs) (suc i) d h = or_right (eqb (get_or xs i d) x) (listed xs (get_or xs i d)) (listed_at xs i d (omega arith))

pub listed_take : (xs : List ℕ) (i x : ℕ) → listed (take i xs) x ≡ true → listed xs x ≡ true
listed_take xs zero x p = absurd (both_ways false refl p)
listed_take [] (suc i) x p = p
listed_take (y ∷ xs) (suc i) x p = at (eqb x y) p (listed_take xs i x)
  where
    at : (b : Bool) → (b || listed (take i xs) x) ≡ true → (listed (take i xs) x ≡ true → listed xs x ≡ true) → (b || listed xs x) ≡ true
    at true q ih = refl
    at false q ih = ih q

pub listed_drop : (xs : List ℕ) (i x : ℕ) → listed (drop i xs) x ≡ true → listed xs x ≡ true
listed_drop xs zero x p = p
listed_drop [] (suc i) x p = p
listed_drop (y ∷ xs) (suc i) x p = or_right (eqb x y) (listed xs x) (listed_drop xs i x p)
