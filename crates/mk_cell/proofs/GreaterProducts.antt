-- Each product of cells, rounded to a cell.
use Rattle.std.proofs.Common.{◌≡◌, ℕ, ◌+◌, ◌*◌, ◌^◌, ◌<◌, ◌≤◌, ◌∙◌, sym, ap, arith, ⊎_elim}
use Rattle.std.proofs.Common.{lt_of_lt_of_le}
use Rattle.std.proofs.lemmas.Bool.{cases_lt}
use Rattle.std.proofs.lemmas.Nat.{pow-add, pow_pos}
use Rattle.std.proofs.Math.Nat.{mul-le-mul_left, mul_assoc}
use Rattle.mk_scaled.specs.Range.{two_to-mono}
use Rattle.mk_cell.specs.Cell.{IsRounded, StandsAt}
use Rattle.mk_cell.specs.Products.{IsUnrounded, PairsStand}
use Rattle.mk_cell.proofs.Standing.{times_none, nothing_left, cut_product, size_of_product}
use Rattle.mk_cell.proofs.LeastProducts.{ArePlaces, present, places_lower}
use Rattle.mk_cell.proofs.SummedProducts.{pair_lower}

-- where a product has no places, one of the two cells has no digits
no_places : (l e r d m x : ℕ) → IsUnrounded l e r d m x → m ≤ 0 → l * r ≤ 0
no_places l e r d m x u z =
    ⊎_elim
    (λ (p : 0 < l * r). let w = present l e r d m x u p in let f = w.full in absurd (omega arith))
    (λ (p : l * r ≤ 0). p)
    (cases_lt 0 (l * r))

shifted : (v a k : ℕ) → v * 2 ^ (a + (64 + k)) ≡ (v * 2 ^ (a + 64)) * 2 ^ k
shifted v a k =
    let i : a + (64 + k) ≡ (a + 64) + k = omega arith in
    ap (λ y. v * 2 ^ y) i ∙ ap (λ y. v * y) (pow-add 2 (a + 64) k)
    ∙ sym (mul_assoc v (2 ^ (a + 64)) (2 ^ k))

some_number : (v a : ℕ) → v * 1 ≤ v * 2 ^ a
some_number v a = mul-le-mul_left v (pow_pos a)

-- the places of a product, rounded to full digits, stand for the product in three steps more
pub place_stands : (n : ℕ) (a e b d m x f g : ℕ → ℕ) (j k s t q y : ℕ) → ArePlaces n a e b d m x
    → PairsStand n a e b d j k f g s t → (c : ℕ) → c < n → IsRounded q y (m c * 2 ^ (x c + 64))
    → StandsAt (j + k) q y (f c * g c) (s + t + 3)
place_stands n a e b d m x f g j k s t q y p h c o r =
    let left = h.left c o in
    let right = h.right c o in
    ⊎_elim
    (λ (l : 0 < m c).
    let z = some_number (m c) (x c + 64) in
    let i : s + t + 3 ≡ s + t + 2 + 1 = omega arith in
    rw i (cut_product q y (j + k) (m c * 2 ^ (x c + (64 + (j + k)))) (m c * 2 ^ (x c + 64))
    (f c * g c)
    (s + t + 2) r.form (r.cut (omega arith)) (shifted (m c) (x c) (j + k))
    (places_lower (a c) (e c) (b c) (d c) (m c) (x c) (j + k) (f c * g c) (s + t) (p c o)
    (pair_lower n a e b d f g j k s t h c o))
    (lt_of_lt_of_le (size_of_product (f c) (g c) s t left.size right.size)
    (two_to-mono (64 * (s + t + 2)) (64 * (s + t + 2 + 2)) (omega arith)))))
    (λ (l : m c ≤ 0).
    let z : m c ≡ 0 = omega arith in
    let i : m c * 2 ^ (x c + 64) ≡ 0 = rw z (omega arith) in
    nothing_left q y (j + k) (f c * g c) (s + t + 3) r.form (r.none i)
    (times_none j k (a c) (e c) (b c) (d c) (f c) (g c) s t left right
    (no_places (a c) (e c) (b c) (d c) (m c) (x c) (p c o) l)))
    (cases_lt 0 (m c))
