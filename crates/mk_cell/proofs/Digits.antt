-- The digits of a number and their places.
use Rattle.std.proofs.Common.{◌≡◌, ℕ, zero, suc, ◌+◌, ◌-◌, ◌*◌, ◌/◌, ◌%◌, ◌^◌, ◌<◌, ◌≤◌, sym, ap, ◌∙◌, ⊎_elim, refl, arith, lt_of_le_of_lt, lt_of_lt_of_le}
use Rattle.std.specs.Int.Count.{count_leading_zeros}
use Rattle.std.specs.Int.Bits.{bit_and}
use Rattle.std.proofs.lemmas.Nat.{pow-add, pow_pos, leading_top, shl_whole}
use Rattle.std.proofs.lemmas.Bool.{cases_lt}
use Rattle.std.proofs.lemmas.Grind.{and_numeral}
use Rattle.std.proofs.Math.Nat.{zero-div, div-eq_of_lt, mul_comm, mod-eq_of_lt, mul-le-mul_left, mul-le-mul_right, mul_assoc, div-mul-le_self, lt-div-mul-add, mul-lt-mul_of_pos_right}
use Rattle.mk_scaled.specs.Range.{pow-lt_reflects, pow_le}
use Rattle.mk_cell.specs.Cell.{bias, bias-is, IsCell, IsCut, IsRounded}

-- the first digit of a number moves to the first of 64 places
pub moved_up : (n : ℕ) → 0 < n → n < 2 ^ 64 → (n * 2 ^ count_leading_zeros 64 n % 2 ^ 64 ≡ n * 2 ^ count_leading_zeros 64 n) × (2 ^ 63 ≤ n * 2 ^ count_leading_zeros 64 n) × (count_leading_zeros 64 n < 64)
moved_up n p h =
    let t = leading_top 64 n p h in
    let j : ℕ = t.0 in
    let r : ℕ = count_leading_zeros 64 n in
    let s : count_leading_zeros 64 n + suc t.0 ≡ 64 = t.1 in
    let e : n * 2 ^ count_leading_zeros 64 n % 2 ^ 64 ≡ n * 2 ^ count_leading_zeros 64 n = shl_whole n (suc t.0) (count_leading_zeros 64 n) 64 t.3 (omega arith) in
    let i : t.0 + count_leading_zeros 64 n ≡ 63 = omega arith in
    let m : 2 ^ t.0 * 2 ^ count_leading_zeros 64 n ≤ n * 2 ^ count_leading_zeros 64 n = mul-le-mul_right (2 ^ count_leading_zeros 64 n) t.2 in
    let q : 2 ^ t.0 * 2 ^ count_leading_zeros 64 n ≡ 2 ^ 63 = sym (pow-add 2 t.0 (count_leading_zeros 64 n)) ∙ ap (λ x. 2 ^ x) i in
    (e, omega arith, omega arith)

-- a number of n parts that are moved up
pub moved_value : (n r e shift : ℕ) → e + shift + r ≡ 1342177280 → (n * 2 ^ r) * 2 ^ (e + shift) ≡ n * 2 ^ bias
moved_value n r e shift h =
    let i : r + (e + shift) ≡ bias = let b = bias-is in omega arith in
    mul_assoc n (2 ^ r) (2 ^ (e + shift)) ∙ ap (λ x. n * x) (sym (pow-add 2 r (e + shift)) ∙ ap (λ x. 2 ^ x) i)

-- what is left of digits without their last places
pub cut_of : (p s a q x : ℕ) → q ≡ p / 2 ^ s → x ≡ a + s → 2 ^ 63 ≤ q → q < 2 ^ 64 → IsCut q x (p * 2 ^ a)
cut_of p s a q x h e f l =
    let r : 2 ^ x ≡ 2 ^ s * 2 ^ a = ap (λ k. 2 ^ k) e ∙ pow-add 2 a s ∙ omega arith in
    let d : q * 2 ^ s ≤ p = rw h (div-mul-le_self p (2 ^ s)) in
    let u : p < q * 2 ^ s + 2 ^ s = rw h (lt-div-mul-add (pow_pos s)) in
    let v : p < (q + 1) * 2 ^ s = omega arith in
    let low : (q * 2 ^ s) * 2 ^ a ≤ p * 2 ^ a = mul-le-mul_right (2 ^ a) d in
    let high : p * 2 ^ a < ((q + 1) * 2 ^ s) * 2 ^ a = mul-lt-mul_of_pos_right v (pow_pos a) in
    record {
      full = f;
      fits = l;
      lower = rw (r, ← mul_assoc q (2 ^ s) (2 ^ a)) low;
      upper = rw (r, ← mul_assoc (q + 1) (2 ^ s) (2 ^ a)) high;
    }

-- a mask of ones leaves a number as it is
pub and_most_32 : (n m : ℕ) → n < 4294967296 → m ≡ 4294967295 → bit_and n m ≡ n
and_most_32 n m h e = rw e (and_numeral n 4294967294 refl ∙ mod-eq_of_lt h)

pub and_most_64 : (n m : ℕ) → n < 18446744073709551616 → m ≡ 18446744073709551615 → bit_and n m ≡ n
and_most_64 n m h e = rw e (and_numeral n 18446744073709551614 refl ∙ mod-eq_of_lt h)

-- a mask of 64 ones leaves 64 digits
pub and_digits : (n : ℕ) → bit_and n 18446744073709551615 ≡ n % 18446744073709551616
and_digits n = and_numeral n 18446744073709551614 refl

-- ---- products

pub left_there : (m n : ℕ) → 0 < m * n → 0 < m
left_there zero n h = absurd (omega arith)
left_there (suc m) n h = omega arith

pub right_there : (m n : ℕ) → 0 < m * n → 0 < n
right_there m n h = left_there n m (rw (mul_comm n m) h)

-- the exponents of a product that is there leave room for the bias
pub product_room : (m e n d : ℕ) → IsCell m e → IsCell n d → 0 < m * n → (14 * 2 ^ 27 ≤ e + d) × (e + d ≤ 26 * 2 ^ 27)
product_room m e n d a b p =
    let i = a.low (left_there m n p) in
    let j = b.low (right_there m n p) in
    let k = a.high in
    let l = b.high in
    (omega arith, omega arith)

pub no_product : (m e n d : ℕ) → IsCell m e → IsCell n d → m * n ≡ 0 → e + d ≤ 13 * 2 ^ 27
no_product m e n d a b z =
    ⊎_elim
    (λ (p : 0 < m).
    let l : 1 * n ≤ m * n = mul-le-mul_right n p in
    let y : d ≡ 0 = b.form.absent (omega arith) in
    let k = a.high in
    omega arith)
    (λ (p : m ≤ 0). let y : e ≡ 0 = a.form.absent (omega arith) in let k = b.high in omega arith)
    (cases_lt 0 m)

there : (p a : ℕ) → 0 < p * 2 ^ a → 0 < p
there p a h = left_there p (2 ^ a) h

nothing_there : (p a : ℕ) → p * 2 ^ a ≡ 0 → p ≡ 0
nothing_there p a h = let l : p * 1 ≤ p * 2 ^ a = mul-le-mul_left p (pow_pos a) in omega arith

pub no_digits_left : (p r q : ℕ) → q ≡ p / 2 ^ r → p ≡ 0 → q ≡ 0
no_digits_left p r q h z = h ∙ ap (λ y. y / 2 ^ r) z ∙ zero-div (2 ^ r)

pub rounded_product : (m e n d q u x : ℕ) → q ≡ m * n / 2 ^ (64 - u) → u ≤ 1 → (0 < m * n → 2 ^ 63 ≤ q) → q < 2 ^ 64 → (0 < m * n → x + 1342177280 + u ≡ e + d + 64) → (m * n ≡ 0 → x ≡ 0) → IsRounded q x ((m * n) * 2 ^ (e + d))
rounded_product m e n d q u x h k f l s t =
    record {
      form = record {
        absent = λ (z : q ≡ 0). ⊎_elim (λ (p : 0 < m * n). let g = f p in absurd (omega arith)) (λ (p : m * n ≤ 0). t (omega arith)) (cases_lt 0 (m * n));
        full = λ z. ⊎_elim (λ (p : 0 < m * n). f p) (λ (p : m * n ≤ 0). let y = gone p in absurd (omega arith)) (cases_lt 0 (m * n));
        fits = l;
      };
      none = λ z. gone (let y = nothing_there (m * n) (e + d) z in omega arith);
      cut = λ p.
          let i : x + bias ≡ (e + d) + (64 - u) = let b = bias-is in let r = s (there (m * n) (e + d) p) in omega arith in
          cut_of (m * n) (64 - u) (e + d) q (x + bias) h i (f (there (m * n) (e + d) p)) l;
    }
  where
    gone : m * n ≤ 0 → q ≡ 0
    gone z = no_digits_left (m * n) (64 - u) q h (omega arith)

-- ---- totals

pub few_unused : (k n : ℕ) → 2 ^ k ≤ n → n < 2 ^ 128 → 0 < n → count_leading_zeros 128 n + k < 128
few_unused k n h l p =
    let t = leading_top 128 n p l in
    let i : k < suc t.0 = pow-lt_reflects k (suc t.0) (lt_of_le_of_lt h t.3) in
    let s : count_leading_zeros 128 n + suc t.0 ≡ 128 = t.1 in
    omega arith

moved_total : (n : ℕ) → 0 < n → n < 2 ^ 128 → (n * 2 ^ count_leading_zeros 128 n % 2 ^ 128 ≡ n * 2 ^ count_leading_zeros 128 n) × (2 ^ 127 ≤ n * 2 ^ count_leading_zeros 128 n)
moved_total n p h =
    let t = leading_top 128 n p h in
    let s : count_leading_zeros 128 n + suc t.0 ≡ 128 = t.1 in
    let e : n * 2 ^ count_leading_zeros 128 n % 2 ^ 128 ≡ n * 2 ^ count_leading_zeros 128 n = shl_whole n (suc t.0) (count_leading_zeros 128 n) 128 t.3 (omega arith) in
    let i : t.0 + count_leading_zeros 128 n ≡ 127 = omega arith in
    let m : 2 ^ t.0 * 2 ^ count_leading_zeros 128 n ≤ n * 2 ^ count_leading_zeros 128 n = mul-le-mul_right (2 ^ count_leading_zeros 128 n) t.2 in
    let q : 2 ^ t.0 * 2 ^ count_leading_zeros 128 n ≡ 2 ^ 127 = sym (pow-add 2 t.0 (count_leading_zeros 128 n)) ∙ ap (λ x. 2 ^ x) i in
    (e, omega arith)

moved_back : (n r e : ℕ) → r ≤ e → (n * 2 ^ r) * 2 ^ (e - r) ≡ n * 2 ^ e
moved_back n r e h =
    let i : r + (e - r) ≡ e = omega arith in
    mul_assoc n (2 ^ r) (2 ^ (e - r)) ∙ ap (λ x. n * x) (sym (pow-add 2 r (e - r)) ∙ ap (λ x. 2 ^ x) i)

full_total : (n q x e : ℕ) → 0 < n → 2 ^ 63 ≤ q → q < 2 ^ 64 → IsCut q (x + bias) (n * 2 ^ e) → IsRounded q x (n * 2 ^ e)
full_total n q x e p f l c =
    record {
      form = record { absent = λ z. absurd (omega arith); full = λ z. f; fits = l };
      none = λ z. let y = nothing_there n e z in absurd (omega arith);
      cut = λ z. c;
    }

pub rounded_total : (n e : ℕ) → 2 ^ 62 ≤ n → n < 2 ^ 128 → 10 * 2 ^ 27 + 1 ≤ e → IsRounded (n * 2 ^ count_leading_zeros 128 n % 2 ^ 128 / 2 ^ 64) (e + 64 - count_leading_zeros 128 n - 1342177280) (n * 2 ^ e)
rounded_total n e h l k =
    let p : 0 < n = omega arith in
    let r : ℕ = count_leading_zeros 128 n in
    let m = moved_total n p l in
    let u = few_unused 62 n h l p in
    let b : n * 2 ^ count_leading_zeros 128 n % 2 ^ 128 < 2 ^ 128 = omega arith in
    let f : 2 ^ 63 ≤ n * 2 ^ count_leading_zeros 128 n / 2 ^ 64 = let y = m.1 in omega arith in
    let g : n * 2 ^ count_leading_zeros 128 n / 2 ^ 64 < 2 ^ 64 = let y = m.0 in omega arith in
    let i : (e + 64 - count_leading_zeros 128 n - 1342177280) + bias ≡ (e - count_leading_zeros 128 n) + 64 = let y = bias-is in omega arith in
    let c = cut_of (n * 2 ^ count_leading_zeros 128 n) 64 (e - count_leading_zeros 128 n) (n * 2 ^ count_leading_zeros 128 n / 2 ^ 64) ((e + 64 - count_leading_zeros 128 n - 1342177280) + bias) (same _) i f g in
    rw m.0 (full_total n _ _ e p f g (rw (moved_back n (count_leading_zeros 128 n) e (omega arith)) at c))
  where
    same : (a : ℕ) → a ≡ a
    same a = refl

-- digits beyond the last place
pub gone_by : (n k : ℕ) → n < 2 ^ 64 → 64 ≤ k → 0 ≡ n / 2 ^ k
gone_by n k h l = sym (div-eq_of_lt (lt_of_lt_of_le h (pow_le 64 k l)))
