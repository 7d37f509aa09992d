-- The form of a number is unique, and gives the number back.
use Rattle.std.proofs.Common.{◌≡◌, ℕ, zero, suc, ◌+◌, ◌*◌, ◌/◌, ◌^◌, ◌<◌, ◌≤◌, refl, sym, ap, ◌∙◌, ⊎_elim, arith, lt_of_lt_of_le, le_trans}
use Rattle.std.proofs.lemmas.Nat.{pow-add, pow_pos, shl-shr, shl_below}
use Rattle.std.proofs.lemmas.Bool.{cases_order}
use Rattle.std.proofs.Math.Nat.{pow-suc, pow-le-pow_right, mul-le-mul, mul-one}
use Rattle.mk_scaled.specs.Form.{digits, bit_length, exponent_of, mantissa_of, IsForm, IsStored}
use Rattle.mk_scaled.specs.Range.{pow-lt_reflects}

pub two_pow-suc : (j : ℕ) → 2 ^ suc j ≡ 2 * 2 ^ j
two_pow-suc j = let e : 2 ^ suc j ≡ 2 ^ j * 2 = pow-suc 2 j in omega arith

digits-zero : (f : ℕ) → digits f 0 ≡ 0
unfolding digits
digits-zero zero = refl
digits-zero (suc f) = refl

below_pow : (n : ℕ) → n < 2 ^ n
below_pow zero = omega arith
below_pow (suc n) = let h = below_pow n in let e = two_pow-suc n in omega arith

-- The number of digits of the half, one step on.
step_up : (n m d : ℕ) → m ≡ suc n / 2 → m < 2 ^ d → 2 ^ d ≤ 2 * m → (suc n < 2 ^ suc d) × (2 ^ suc d ≤ 2 * suc n)
step_up n m d e h l = let t = two_pow-suc d in (omega arith, omega arith)

first_step : (n d : ℕ) → suc n / 2 ≡ 0 → d ≡ 0 → (suc n < 2 ^ suc d) × (2 ^ suc d ≤ 2 * suc n)
first_step n d e z = rw z (omega arith, omega arith)

digits_bounds : (f n : ℕ) → n < 2 ^ f → 0 < n → (n < 2 ^ digits f n) × (2 ^ digits f n ≤ 2 * n)
unfolding digits
digits_bounds zero n h l = absurd (omega arith)
digits_bounds (suc f) zero h l = absurd (omega arith)
digits_bounds (suc f) (suc n) h l =
    let t = two_pow-suc f in
    ⊎_elim
    (λ z. first_step n _ z (ap (digits f) z ∙ digits-zero f))
    (⊎_elim
    (λ z. absurd (omega arith))
    (λ p. let b = digits_bounds f (suc n / 2) (omega arith) p in step_up n (suc n / 2) _ refl b.0 b.1))
    (cases_order (suc n / 2) 0)

pub bit_length_is : (n j : ℕ) → 2 ^ j ≤ n → n < 2 ^ suc j → bit_length n ≡ suc j
unfolding bit_length
bit_length_is n j h l =
    let p = pow_pos j in
    let b = digits_bounds n n (below_pow n) (omega arith) in
    let e = two_pow-suc (suc j) in
    let lo = pow-lt_reflects j (digits n n) (omega arith) in
    let hi = pow-lt_reflects (digits n n) (suc (suc j)) (omega arith) in
    omega arith

-- what the number of digits bounds
pub bit_length_bounds : (n : ℕ) → 0 < n → (n < 2 ^ bit_length n) × (2 ^ bit_length n ≤ 2 * n)
unfolding bit_length
bit_length_bounds n p = digits_bounds n n (below_pow n) p

bit_length_small : (n : ℕ) → 0 < n → n < 2 ^ 64 → bit_length n ≤ 64
bit_length_small n p h =
    let b = bit_length_bounds n p in
    let l = pow-lt_reflects (bit_length n) 65 (omega arith) in
    omega arith

filled : (m e : ℕ) → 2 ^ 63 ≤ m → m < 2 ^ 64 → (2 ^ (63 + e) ≤ m * 2 ^ e) × (m * 2 ^ e < 2 ^ suc (63 + e))
filled m e h l =
    (rw (pow-add 2 63 e) (mul-le-mul h (omega arith)), let s : suc (63 + e) ≡ 64 + e = omega arith in rw s (shl_below m 64 e l))

exponent_full : (m e : ℕ) → 2 ^ 63 ≤ m → m < 2 ^ 64 → exponent_of (m * 2 ^ e) ≡ e
unfolding exponent_of
exponent_full m e h l =
    let f = filled m e h l in
    let b = bit_length_is (m * 2 ^ e) (63 + e) f.0 f.1 in
    omega arith

exponent_plain : (m : ℕ) → 1 ≤ m → m < 2 ^ 64 → exponent_of m ≡ 0
unfolding exponent_of
exponent_plain m h l = let b = bit_length_small m h l in omega arith

pub exponent-form : (m e : ℕ) → IsForm m e → exponent_of (m * 2 ^ e) ≡ e
exponent-form m zero f = rw (mul-one m) (exponent_plain m f.positive f.below)
exponent-form m (suc e) f = exponent_full m (suc e) (f.full (omega arith)) f.below

pub mantissa-form : (m e : ℕ) → IsForm m e → mantissa_of (m * 2 ^ e) ≡ m
unfolding mantissa_of
mantissa-form m e f = rw (exponent-form m e f) (shl-shr m e)

-- two forms of one number are the same
pub same_form : (m e n d : ℕ) → IsForm m e → IsForm n d → m * 2 ^ e ≡ n * 2 ^ d → (m ≡ n) × (e ≡ d)
same_form m e n d f g h =
    (sym (mantissa-form m e f) ∙ ap mantissa_of h ∙ mantissa-form n d g, sym (exponent-form m e f) ∙ ap exponent_of h ∙ exponent-form n d g)

-- The greater exponent has the greater number, and with the same exponent the greater mantissa.
pub less_by_exponent : (m e n d : ℕ) → IsForm m e → IsForm n d → e < d → m * 2 ^ e < n * 2 ^ d
less_by_exponent m e n d f g h =
    let u = g.full (omega arith) in
    let p : 2 ^ suc (63 + e) ≤ 2 ^ (63 + d) = pow-le-pow_right (omega arith) (omega arith) in
    let s : suc (63 + e) ≡ 64 + e = omega arith in
    let l : m * 2 ^ e < 2 ^ suc (63 + e) = rw s (shl_below m 64 e f.below) in
    let r : 2 ^ (63 + d) ≤ n * 2 ^ d = rw (pow-add 2 63 d) (mul-le-mul u (omega arith)) in
    lt_of_lt_of_le l (le_trans p r)

pub stored_form : (m e n : ℕ) → IsForm m e → m * 2 ^ e ≡ n → IsStored n
stored_form m e n f h =
    let i : mantissa_of n ≡ m = ap mantissa_of (sym h) ∙ mantissa-form m e f in
    let j : exponent_of n ≡ e = ap exponent_of (sym h) ∙ exponent-form m e f in
    record { form = rw (i, j) f; written = rw (i, j) (sym h) }

pub stored_mantissa : (m e n : ℕ) → IsForm m e → m * 2 ^ e ≡ n → m ≡ mantissa_of n
stored_mantissa m e n f h = sym (mantissa-form m e f) ∙ ap mantissa_of h

pub stored_exponent : (m e n : ℕ) → IsForm m e → m * 2 ^ e ≡ n → e ≡ exponent_of n
stored_exponent m e n f h = sym (exponent-form m e f) ∙ ap exponent_of h
