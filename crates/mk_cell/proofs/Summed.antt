-- The sum of cells.
use Rattle.std.proofs.Common.{◌≡◌, ℕ, zero, suc, ◌+◌, ◌-◌, ◌*◌, ◌/◌, ◌^◌, ◌<◌, ◌≤◌, ◌⊎◌, inl, inr, max, sym, ap, ◌∙◌, arith, ⊎_elim}
use Rattle.std.proofs.lemmas.Bool.{cases_lt}
use Rattle.std.proofs.lemmas.Nat.{pow-add, pow_pos}
use Rattle.std.proofs.Math.Nat.{mul-le-mul_left, mul-le-mul_right, mul-lt-mul_of_pos_right, mul_assoc, zero-div, div-mul-le_self, lt-div-mul-add, div-one}
use Rattle.mk_scaled.specs.Range.{two_to}
use Rattle.mk_cell.specs.Cell.{bias, IsCell, IsLowerEnd, IsRounded, StandsAt}
use Rattle.mk_cell.specs.inner.LowerEnd.{power_parts, lower_finer}
use Rattle.mk_cell.specs.Passes.{folded, plus_below, plus_below-folded}
use Rattle.mk_cell.proofs.Standing.{no_digits, nothing_left, cut_product}
use Rattle.mk_cell.proofs.Added.{added, added_part, added_none, added_size}
use Rattle.mk_cell.proofs.GreatestOf.{greatest_is, greatest_at, greatest_at_most, IsAt}
use Rattle.mk_cell.proofs.Floors.{IsFloor, lower_added, close_floors}

-- digits without their last places are so many parts
pub floor_of : (m d a b : ℕ) → b ≡ d + a → IsFloor (m / 2 ^ d) (2 ^ b) (m * 2 ^ a)
floor_of m d a b e =
    let r : 2 ^ b ≡ 2 ^ d * 2 ^ a = ap (λ x. 2 ^ x) e ∙ pow-add 2 d a in
    let u : m < m / 2 ^ d * 2 ^ d + 2 ^ d = lt-div-mul-add (pow_pos d) in
    let v : m < (m / 2 ^ d + 1) * 2 ^ d = omega arith in
    record {
      lower = rw (r, ← mul_assoc (m / 2 ^ d) (2 ^ d) (2 ^ a)) (mul-le-mul_right (2 ^ a) (div-mul-le_self m (2 ^ d)));
      upper = rw (r, ← mul_assoc (m / 2 ^ d + 1) (2 ^ d) (2 ^ a)) (mul-lt-mul_of_pos_right v (pow_pos a));
    }

pub uncut : (m d : ℕ) → d ≡ 0 → m / 2 ^ d ≡ m
uncut m d z = rw z (div-one m)

-- the greatest exponent of cells
abbrev pub top_of : ℕ → (ℕ → ℕ) → ℕ
top_of n e = folded max 0 n e

pub top_at_most : (n : ℕ) (m e : ℕ → ℕ) → ((c : ℕ) → c < n → IsCell (m c) (e c)) → top_of n e ≤ 13 * 2 ^ 27
top_at_most n m e h = greatest_at_most n (13 * 2 ^ 27) e (λ c l. let k = h c l in k.high)

-- a cell that is there has the greatest exponent, or none is there
record HasTop (n : ℕ) (m e : ℕ → ℕ) : Type 0 where
  place : ℕ
  within : place < n
  same : e place ≡ top_of n e
  full : 2 ^ 63 ≤ m place
  low : 7 * 2 ^ 27 ≤ top_of n e

absent_digits : (m e : ℕ) → IsCell m e → e ≤ 0 → m ≡ 0
absent_digits m e h l =
    ⊎_elim (λ (p : 0 < m). let k = h.low p in absurd (omega arith)) (λ (p : m ≤ 0). let z : m ≡ 0 = omega arith in z) (cases_lt 0 m)

present_digits : (m e : ℕ) → IsCell m e → 0 < e → 0 < m
present_digits m e h l =
    ⊎_elim (λ (p : 0 < m). p) (λ (p : m ≤ 0). let z = h.form.absent (omega arith) in absurd (omega arith)) (cases_lt 0 m)

top_there : (n : ℕ) (m e : ℕ → ℕ) → ((c : ℕ) → c < n → IsCell (m c) (e c)) → 0 < top_of n e → HasTop n m e
top_there n m e h p =
    let a : IsAt n e (top_of n e) = greatest_at n e p in
    let k = h a.place a.within in
    let i = a.same in
    let j : 0 < m a.place = present_digits (m a.place) (e a.place) k (omega arith) in
    let l = k.low j in
    record { place = a.place; within = a.within; same = i; full = k.form.full j; low = omega arith }

sum_top : (n : ℕ) (m e : ℕ → ℕ) → ((c : ℕ) → c < n → IsCell (m c) (e c)) → ((c : ℕ) → c < n → m c ≡ 0) ⊎ HasTop n m e
sum_top n m e h =
    ⊎_elim
    (λ (p : 0 < top_of n e). inr (top_there n m e h p))
    (λ (p : top_of n e ≤ 0). inl (λ c l. let k = greatest_is n c e l in absent_digits (m c) (e c) (h c l) (omega arith)))
    (cases_lt 0 (top_of n e))

abbrev pub terms : ℕ → (ℕ → ℕ) → (ℕ → ℕ) → ℕ → ℕ
terms n m e c = m c / 2 ^ (top_of n e - e c)

no_term : (n : ℕ) (m e : ℕ → ℕ) → ((c : ℕ) → c < n → m c ≡ 0) → added n (terms n m e) ≡ 0
no_term n m e h = added_none n (terms n m e) (λ c l. ap (λ y. y / 2 ^ (top_of n e - e c)) (h c l) ∙ zero-div (2 ^ (top_of n e - e c)))

top_term : (n : ℕ) (m e : ℕ → ℕ) (t : HasTop n m e) → terms n m e t.place ≡ m t.place
top_term n m e t = let i = t.same in uncut (m t.place) (top_of n e - e t.place) (omega arith)

full_total : (n : ℕ) (m e : ℕ → ℕ) → HasTop n m e → 2 ^ 63 ≤ added n (terms n m e)
full_total n m e t =
    let i = top_term n m e t in
    let p = added_part n t.place (terms n m e) t.within in
    let f = t.full in
    omega arith

-- what the rounding of a total requires
pub total_full : (n : ℕ) (m e : ℕ → ℕ) → ((c : ℕ) → c < n → IsCell (m c) (e c)) → 0 < added n (terms n m e) → (2 ^ 63 ≤ added n (terms n m e)) × (7 * 2 ^ 27 ≤ top_of n e)
total_full n m e h p =
    ⊎_elim
    (λ (z : (c : ℕ) → c < n → m c ≡ 0). let y = no_term n m e z in absurd (omega arith))
    (λ (t : HasTop n m e). (full_total n m e t, t.low))
    (sum_top n m e h)

none_sum : (n : ℕ) (m e f : ℕ → ℕ) (k s q x a : ℕ) → ((c : ℕ) → c < n → StandsAt k (m c) (e c) (f c) s) → ((c : ℕ) → c < n → m c ≡ 0) → IsRounded q x (added n (terms n m e) * 2 ^ a) → StandsAt k q x (added n f) (s + n)
none_sum n m e f k s q x a h z r =
    let t : added n (terms n m e) * 2 ^ a ≡ 0 = let y = no_term n m e z in rw y (omega arith) in
    nothing_left q x k (added n f) (s + n) r.form (r.none t) (added_none n f (λ c l. no_digits k (m c) (e c) (f c) s (h c l) (z c l)))

in_parts : (t a k b : ℕ) → (t * 2 ^ (a + k)) * 2 ^ b ≡ (t * 2 ^ (a + b)) * 2 ^ k
in_parts t a k b =
    let i : (a + k) + b ≡ (a + b) + k = omega arith in
    mul_assoc t (2 ^ (a + k)) (2 ^ b) ∙ ap (λ y. t * y) (sym (pow-add 2 (a + k) b) ∙ ap (λ y. 2 ^ y) i ∙ pow-add 2 (a + b) k) ∙ sym (mul_assoc t (2 ^ (a + b)) (2 ^ k))

-- a total of parts that is a lower end, and what it is rounded to
pub rounded_lower : (t a k v n q x : ℕ) → 0 < t → IsRounded q x (t * 2 ^ (a + bias)) → IsLowerEnd (t * 2 ^ (a + k)) (v * 2 ^ bias) (2 ^ bias) n → v < two_to (64 * (n + 2)) → StandsAt k q x v (n + 1)
rounded_lower t a k v n q x p r h s =
    let u : (v * 2 ^ bias) * 2 ^ bias ≡ v * (2 ^ bias * 2 ^ bias) = mul_assoc v (2 ^ bias) (2 ^ bias) in
    let l = lower_finer (t * 2 ^ (a + k)) (v * 2 ^ bias) (2 ^ bias) (2 ^ bias) n (pow_pos bias) h in
    let o : t * 1 ≤ t * 2 ^ (a + bias) = mul-le-mul_left t (pow_pos (a + bias)) in
    cut_product q x k ((t * 2 ^ (a + k)) * 2 ^ bias) (t * 2 ^ (a + bias)) v n r.form (r.cut (omega arith)) (in_parts t a k bias) (rw u at l) s

some_sum : (n : ℕ) (m e f : ℕ → ℕ) (k s q x : ℕ) → HasTop (suc n) m e → ((c : ℕ) → c < suc n → StandsAt k (m c) (e c) (f c) s) → IsRounded q x (added (suc n) (terms (suc n) m e) * 2 ^ (top_of (suc n) e + bias)) → StandsAt k q x (added (suc n) f) (s + suc n)
some_sum n m e f k s q x t h r =
    let full : 2 ^ 63 ≤ added (suc n) (terms (suc n) m e) = full_total (suc n) m e t in
    let g : ℕ = 2 ^ (top_of (suc n) e + k) in
    let floors : (c : ℕ) → c < suc n → IsFloor (terms (suc n) m e c) (2 ^ (top_of (suc n) e + k)) (m c * 2 ^ (e c + k)) =
    λ c l. let i = greatest_is (suc n) c e l in floor_of (m c) (top_of (suc n) e - e c) (e c + k) (top_of (suc n) e + k) (omega arith) in
    let exact : m t.place * 2 ^ (e t.place + k) ≤ terms (suc n) m e t.place * 2 ^ (top_of (suc n) e + k) =
    rw (top_term (suc n) m e t, t.same) (same _) in
    let low = lower_added (suc n) (2 ^ (top_of (suc n) e + k)) (2 ^ bias) s n (λ c. m c * 2 ^ (e c + k)) f (terms (suc n) m e)
    (pow_pos (top_of (suc n) e + k)) (pow_pos bias) (omega arith) (power_parts (top_of (suc n) e + k) bias) floors
    (λ c l. let i = h c l in i.lower)
    (close_floors n (2 ^ (top_of (suc n) e + k)) t.place (λ c. m c * 2 ^ (e c + k)) (terms (suc n) m e) t.within exact full floors) in
    let size : added (suc n) f < two_to (64 * (n + s + 2)) =
    let a = added_size (suc n) s f (λ c l. let i = h c l in i.size) in let i : s + suc n + 1 ≡ n + s + 2 = omega arith in rw i at a in
    let i : s + suc n ≡ n + s + 1 = omega arith in
    rw i (rounded_lower (added (suc n) (terms (suc n) m e)) (top_of (suc n) e) k (added (suc n) f) (n + s) q x (omega arith) r low size)
  where
    same : (a : ℕ) → a ≤ a
    same a = omega arith

some_place : (n : ℕ) (m e f : ℕ → ℕ) (k s q x : ℕ) → HasTop n m e → ((c : ℕ) → c < n → StandsAt k (m c) (e c) (f c) s) → IsRounded q x (added n (terms n m e) * 2 ^ (top_of n e + bias)) → StandsAt k q x (added n f) (s + n)
some_place zero m e f k s q x t h r = let w = t.within in absurd (omega arith)
some_place (suc n) m e f k s q x t h r = some_sum n m e f k s q x t h r

pub sum_stands : (n : ℕ) (m e f : ℕ → ℕ) (k s q x : ℕ) → ((c : ℕ) → c < n → IsCell (m c) (e c)) → ((c : ℕ) → c < n → StandsAt k (m c) (e c) (f c) s) → IsRounded q x (added n (terms n m e) * 2 ^ (top_of n e + bias)) → StandsAt k q x (plus_below ◌+◌ n f) (s + n)
sum_stands n m e f k s q x g h r =
    rw (plus_below-folded ◌+◌ n f)
    (⊎_elim
    (λ (z : (c : ℕ) → c < n → m c ≡ 0). none_sum n m e f k s q x (top_of n e + bias) h z r)
    (λ (t : HasTop n m e). some_place n m e f k s q x t h r)
    (sum_top n m e g))
