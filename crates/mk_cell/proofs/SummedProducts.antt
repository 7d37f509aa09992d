-- The sum of products of cells.
use Rattle.std.proofs.Common.{◌≡◌, ℕ, ◌+◌, ◌-◌, ◌*◌, ◌/◌, ◌^◌, ◌<◌, ◌≤◌, ◌⊎◌, inl, inr, max, sym, ap, ◌∙◌, arith, ⊎_elim, lt_of_lt_of_le}
use Rattle.std.proofs.lemmas.Bool.{cases_lt}
use Rattle.std.proofs.lemmas.Nat.{pow-add, pow_pos}
use Rattle.std.proofs.Math.Nat.{mul-le-mul, mul-le-mul_left, mul_assoc, zero-div, div-div-eq-div-mul}
use Rattle.mk_scaled.specs.Range.{two_to, two_to-mono}
use Rattle.mk_cell.specs.Cell.{bias, IsCell, IsLowerEnd, IsRounded, StandsAt}
use Rattle.mk_cell.specs.inner.LowerEnd.{power_parts, lower-mul}
use Rattle.mk_cell.specs.Passes.{folded, plus_below, plus_below-folded}
use Rattle.mk_cell.proofs.Digits.{product_room, no_product, left_there, right_there}
use Rattle.mk_cell.proofs.Standing.{times_none, nothing_left, cut_product, product_is, size_of_product}
use Rattle.mk_cell.proofs.Added.{added, added_part, added_none, added_size}
use Rattle.mk_cell.specs.Products.{PairsStand}
use Rattle.mk_cell.proofs.Pairs.{ArePairs}
use Rattle.mk_cell.proofs.GreatestOf.{greatest_is, greatest_at, greatest_at_most, IsAt}
use Rattle.mk_cell.proofs.Floors.{IsFloor, lower_added, close_half_floors}
use Rattle.mk_cell.proofs.Summed.{floor_of, uncut}

abbrev pub pair_top : ℕ → (ℕ → ℕ) → (ℕ → ℕ) → ℕ
pair_top n e d = folded max 0 n (λ c. e c + d c)

pub pair_sum_at_most : (n : ℕ) (a e b d : ℕ → ℕ) → ArePairs n a e b d → (c : ℕ) → c < n → e c + d c ≤ 26 * 2 ^ 27
pair_sum_at_most n a e b d h c l = let i = h.left c l in let j = h.right c l in let x = i.high in let y = j.high in omega arith

pub pair_top_at_most : (n : ℕ) (a e b d : ℕ → ℕ) → ArePairs n a e b d → pair_top n e d ≤ 26 * 2 ^ 27
pair_top_at_most n a e b d h = greatest_at_most n (26 * 2 ^ 27) (λ c. e c + d c) (pair_sum_at_most n a e b d h)

-- a product of cells that are there has the greatest exponent, or none is there
record HasTop (n : ℕ) (a e b d : ℕ → ℕ) : Type 0 where
  place : ℕ
  within : place < n
  same : e place + d place ≡ pair_top n e d
  full : 2 ^ 126 ≤ a place * b place
  low : 14 * 2 ^ 27 ≤ pair_top n e d

pub full_product : (m e n d : ℕ) → IsCell m e → IsCell n d → 0 < m * n → 2 ^ 126 ≤ m * n
full_product m e n d a b p =
    let x : 2 ^ 63 ≤ m = a.form.full (left_there m n p) in
    let y : 2 ^ 63 ≤ n = b.form.full (right_there m n p) in
    let z : 2 ^ 63 * 2 ^ 63 ≤ m * n = mul-le-mul x y in
    omega arith

pub there_at : (m e n d : ℕ) → IsCell m e → IsCell n d → 14 * 2 ^ 27 ≤ e + d → 0 < m * n
there_at m e n d a b h =
    ⊎_elim (λ (p : 0 < m * n). p) (λ (p : m * n ≤ 0). let z = no_product m e n d a b (omega arith) in absurd (omega arith)) (cases_lt 0 (m * n))

top_there : (n : ℕ) (a e b d : ℕ → ℕ) → ArePairs n a e b d → 14 * 2 ^ 27 ≤ pair_top n e d → HasTop n a e b d
top_there n a e b d h p =
    let w : IsAt n (λ c. e c + d c) (pair_top n e d) = greatest_at n (λ c. e c + d c) (omega arith) in
    let x = h.left w.place w.within in
    let y = h.right w.place w.within in
    let i : e w.place + d w.place ≡ pair_top n e d = w.same in
    let j : 0 < a w.place * b w.place = there_at (a w.place) (e w.place) (b w.place) (d w.place) x y (omega arith) in
    record { place = w.place; within = w.within; same = i; full = full_product (a w.place) (e w.place) (b w.place) (d w.place) x y j; low = p }

below_top : (n : ℕ) (a e b d : ℕ → ℕ) → ArePairs n a e b d → pair_top n e d < 14 * 2 ^ 27 → (c : ℕ) → c < n → a c * b c ≡ 0
below_top n a e b d h p c l =
    ⊎_elim
    (λ (q : 0 < a c * b c).
    let r = product_room (a c) (e c) (b c) (d c) (h.left c l) (h.right c l) q in
    let k = greatest_is n c (λ i. e i + d i) l in
    absurd (omega arith))
    (λ (q : a c * b c ≤ 0). let z : a c * b c ≡ 0 = omega arith in z)
    (cases_lt 0 (a c * b c))

product_top : (n : ℕ) (a e b d : ℕ → ℕ) → ArePairs n a e b d → ((c : ℕ) → c < n → a c * b c ≡ 0) ⊎ HasTop n a e b d
product_top n a e b d h =
    ⊎_elim
    (λ (p : pair_top n e d < 14 * 2 ^ 27). inl (below_top n a e b d h p))
    (λ (p : 14 * 2 ^ 27 ≤ pair_top n e d). inr (top_there n a e b d h p))
    (cases_lt (pair_top n e d) (14 * 2 ^ 27))

abbrev pub pair_terms : ℕ → (ℕ → ℕ) → (ℕ → ℕ) → (ℕ → ℕ) → (ℕ → ℕ) → ℕ → ℕ
pair_terms n a e b d c = a c * b c / 2 ^ 64 / 2 ^ (pair_top n e d - (e c + d c))

no_term_at : (p x y : ℕ) → p ≡ 0 → p / x / y ≡ 0
no_term_at p x y z = ap (λ w. w / x / y) z ∙ ap (λ w. w / y) (zero-div x) ∙ zero-div y

no_term : (n : ℕ) (a e b d : ℕ → ℕ) → ((c : ℕ) → c < n → a c * b c ≡ 0) → added n (pair_terms n a e b d) ≡ 0
no_term n a e b d h = added_none n (pair_terms n a e b d) (λ c l. no_term_at (a c * b c) (2 ^ 64) (2 ^ (pair_top n e d - (e c + d c))) (h c l))

full_total : (n : ℕ) (a e b d : ℕ → ℕ) → HasTop n a e b d → 2 ^ 62 ≤ added n (pair_terms n a e b d)
full_total n a e b d t =
    let i = t.same in
    let j : pair_terms n a e b d t.place ≡ a t.place * b t.place / 2 ^ 64 = uncut (a t.place * b t.place / 2 ^ 64) (pair_top n e d - (e t.place + d t.place)) (omega arith) in
    let p = added_part n t.place (pair_terms n a e b d) t.within in
    let f = t.full in
    omega arith

pub total_full : (n : ℕ) (a e b d : ℕ → ℕ) → ArePairs n a e b d → 0 < added n (pair_terms n a e b d) → (2 ^ 62 ≤ added n (pair_terms n a e b d)) × (14 * 2 ^ 27 ≤ pair_top n e d)
total_full n a e b d h p =
    ⊎_elim
    (λ (z : (c : ℕ) → c < n → a c * b c ≡ 0). let y = no_term n a e b d z in absurd (omega arith))
    (λ (t : HasTop n a e b d). (full_total n a e b d t, t.low))
    (product_top n a e b d h)

none_sum : (n : ℕ) (a e b d f g : ℕ → ℕ) (j k s t r q x y : ℕ) → PairsStand n a e b d j k f g s t → ((c : ℕ) → c < n → a c * b c ≡ 0) → IsRounded q x (added n (pair_terms n a e b d) * 2 ^ y) → StandsAt (j + k) q x (added n (λ c. f c * g c)) r
none_sum n a e b d f g j k s t r q x y h z w =
    let i : added n (pair_terms n a e b d) * 2 ^ y ≡ 0 = let o = no_term n a e b d z in rw o (omega arith) in
    nothing_left q x (j + k) (added n (λ c. f c * g c)) r w.form (w.none i)
    (added_none n (λ c. f c * g c) (λ c l. let o = z c l in times_none j k (a c) (e c) (b c) (d c) (f c) (g c) s t (h.left c l) (h.right c l) (omega arith)))

-- each product of lower ends
pub pair_lower : (n : ℕ) (a e b d f g : ℕ → ℕ) (j k s t : ℕ) → PairsStand n a e b d j k f g s t → (c : ℕ) → c < n → IsLowerEnd ((a c * b c) * 2 ^ (e c + d c + (j + k))) ((f c * g c) * (2 ^ bias * 2 ^ bias)) (2 ^ bias * 2 ^ bias) (s + t)
pair_lower n a e b d f g j k s t h c l =
    let x = h.left c l in
    let y = h.right c l in
    let m = lower-mul (a c * 2 ^ (e c + j)) (b c * 2 ^ (d c + k)) (f c) (g c) (2 ^ bias) (2 ^ bias) s t x.lower y.lower in
    let i : (a c * 2 ^ (e c + j)) * (b c * 2 ^ (d c + k)) ≡ (a c * b c) * 2 ^ (e c + d c + (j + k)) =
    product_is (a c) (b c) (e c) (d c) j k ∙ mul_assoc (a c * b c) (2 ^ (e c + d c)) (2 ^ (j + k)) ∙ ap (λ y. (a c * b c) * y) (sym (pow-add 2 (e c + d c) (j + k))) in
    rw i at m

pair_floor : (n : ℕ) (a e b d : ℕ → ℕ) (k c : ℕ) → c < n → IsFloor (pair_terms n a e b d c) (2 ^ (pair_top n e d + 64 + k)) ((a c * b c) * 2 ^ (e c + d c + k))
pair_floor n a e b d k c l =
    let i = greatest_is n c (λ i. e i + d i) l in
    let r : a c * b c / 2 ^ 64 / 2 ^ (pair_top n e d - (e c + d c)) ≡ a c * b c / 2 ^ (64 + (pair_top n e d - (e c + d c))) =
    div-div-eq-div-mul (a c * b c) (2 ^ 64) (2 ^ (pair_top n e d - (e c + d c))) ∙ ap (λ y. a c * b c / y) (sym (pow-add 2 64 (pair_top n e d - (e c + d c)))) in
    rw r (floor_of (a c * b c) (64 + (pair_top n e d - (e c + d c))) (e c + d c + k) (pair_top n e d + 64 + k) (omega arith))

pair_size : (n : ℕ) (a e b d f g : ℕ → ℕ) (j k s t : ℕ) → PairsStand n a e b d j k f g s t → added n (λ c. f c * g c) < two_to (64 * (2 * n + (s + t) + 2))
pair_size n a e b d f g j k s t h =
    let each : (c : ℕ) → c < n → f c * g c < two_to (64 * (s + t + 1 + 1)) =
    λ c l. let x = h.left c l in let y = h.right c l in let z = size_of_product (f c) (g c) s t x.size y.size in let i : s + t + 2 ≡ s + t + 1 + 1 = omega arith in rw i at z in
    let a' = added_size n (s + t + 1) (λ c. f c * g c) each in
    lt_of_lt_of_le a' (two_to-mono (64 * (s + t + 1 + n + 1)) (64 * (2 * n + (s + t) + 2)) (omega arith))

some_sum : (n : ℕ) (a e b d f g : ℕ → ℕ) (j k s t q x : ℕ) → HasTop n a e b d → PairsStand n a e b d j k f g s t → IsRounded q x (added n (pair_terms n a e b d) * 2 ^ (pair_top n e d + 64)) → StandsAt (j + k) q x (added n (λ c. f c * g c)) (s + t + 2 * n + 1)
some_sum n a e b d f g j k s t q x y h r =
    let full : 2 ^ 62 ≤ added n (pair_terms n a e b d) = full_total n a e b d y in
    let floors = pair_floor n a e b d (j + k) in
    let w : 2 ^ (bias + bias) ≡ 2 ^ bias * 2 ^ bias = pow-add 2 bias bias in
    let low = lower_added n (2 ^ (pair_top n e d + 64 + (j + k))) (2 ^ bias * 2 ^ bias) (s + t) (2 * n) (λ c. (a c * b c) * 2 ^ (e c + d c + (j + k))) (λ c. f c * g c) (pair_terms n a e b d)
    (pow_pos (pair_top n e d + 64 + (j + k))) (mul-le-mul (pow_pos bias) (pow_pos bias)) full (rw (← w) (power_parts (pair_top n e d + 64 + (j + k)) (bias + bias))) floors
    (pair_lower n a e b d f g j k s t h)
    (close_half_floors n (2 ^ (pair_top n e d + 64 + (j + k))) (λ c. (a c * b c) * 2 ^ (e c + d c + (j + k))) (pair_terms n a e b d) full floors) in
    let o : added n (pair_terms n a e b d) * 1 ≤ added n (pair_terms n a e b d) * 2 ^ (pair_top n e d + 64) = mul-le-mul_left (added n (pair_terms n a e b d)) (pow_pos (pair_top n e d + 64)) in
    let m : added n (pair_terms n a e b d) * 2 ^ (pair_top n e d + 64 + (j + k)) ≡ (added n (pair_terms n a e b d) * 2 ^ (pair_top n e d + 64)) * 2 ^ (j + k) =
    ap (λ y. added n (pair_terms n a e b d) * y) (pow-add 2 (pair_top n e d + 64) (j + k)) ∙ sym (mul_assoc (added n (pair_terms n a e b d)) (2 ^ (pair_top n e d + 64)) (2 ^ (j + k))) in
    let i : s + t + 2 * n + 1 ≡ 2 * n + (s + t) + 1 = omega arith in
    rw i (cut_product q x (j + k) (added n (pair_terms n a e b d) * 2 ^ (pair_top n e d + 64 + (j + k))) (added n (pair_terms n a e b d) * 2 ^ (pair_top n e d + 64)) (added n (λ c. f c * g c)) (2 * n + (s + t)) r.form (r.cut (omega arith)) m low (pair_size n a e b d f g j k s t h))

pub products_stand : (n : ℕ) (a e b d f g : ℕ → ℕ) (j k s t q x : ℕ) → ArePairs n a e b d → PairsStand n a e b d j k f g s t → IsRounded q x (added n (pair_terms n a e b d) * 2 ^ (pair_top n e d + 64)) → StandsAt (j + k) q x (plus_below ◌+◌ n (λ c. f c * g c)) (s + t + 2 * n + 1)
products_stand n a e b d f g j k s t q x p h r =
    rw (plus_below-folded ◌+◌ n (λ c. f c * g c))
    (⊎_elim
    (λ (z : (c : ℕ) → c < n → a c * b c ≡ 0). none_sum n a e b d f g j k s t (s + t + 2 * n + 1) q x (pair_top n e d + 64) h z r)
    (λ (y : HasTop n a e b d). some_sum n a e b d f g j k s t q x y h r)
    (product_top n a e b d p))
