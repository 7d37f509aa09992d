-- Directed rounding and the rules of `ByRule.antt` give the same numbers.
use Rattle.std.proofs.Common.{◌≡◌, ◌≢◌, ℕ, zero, suc, ◌+◌, ◌-◌, ◌*◌, ◌/◌, ◌%◌, ◌^◌, ◌<◌, ◌≤◌, refl, sym, ap, ◌∙◌, ⊎_elim, arith, lt_of_lt_of_le, lt_of_le_of_lt, le_trans, le_refl}
use Rattle.std.proofs.lemmas.Nat.{pow-add, pow_pos, shl_below, shr_below, le-div}
use Rattle.std.proofs.lemmas.Bool.{cases_lt, le-leb, lt-leb, eq-eqb, ne_eqb}
use Rattle.std.proofs.Math.Nat.{pow-le-pow_right, mul-le-mul, mul-le-mul_right, mul_assoc, lt_of_mul-lt-mul_right, div-mul-le_self, lt-div-mul-add, div-eq_of_lt-le}
use Rattle.mk_scaled.specs.Form.{bit_length, exponent_of, mantissa_of}
use Rattle.mk_scaled.specs.Range.{pow-lt_reflects}
use Rattle.mk_scaled.specs.Rounding.{IsRepresentable, IsGreatestBelow, IsLeastAbove}
use Rattle.mk_scaled.specs.ByRule.{rounded_down, rounded_up, power_within, power_by, whole_log}
use Rattle.mk_scaled.specs.inner.UniqueForm.{bit_length_bounds, bit_length_is, two_pow-suc}

-- a power of two, with a smaller one taken out
pow_split : (a e b : ℕ) → e ≤ b → a * 2 ^ b ≡ (a * 2 ^ (b - e)) * 2 ^ e
pow_split a e b h =
    let s : b ≡ (b - e) + e = omega arith in
    ap (λ k. a * 2 ^ k) s ∙ ap (λ y. a * y) (pow-add 2 (b - e) e) ∙ sym (mul_assoc a (2 ^ (b - e)) (2 ^ e))

-- a mantissa with a smaller exponent stays below a full one
below_full : (a b m e : ℕ) → a < 2 ^ 64 → b < e → 2 ^ 63 ≤ m → a * 2 ^ b < m * 2 ^ e
below_full a b m e h l f =
    let u : a * 2 ^ b < 2 ^ (64 + b) = shl_below a 64 b h in
    let v : 2 ^ (64 + b) ≤ 2 ^ (63 + e) = pow-le-pow_right (omega arith) (omega arith) in
    let w : 2 ^ (63 + e) ≤ m * 2 ^ e = rw (pow-add 2 63 e) (mul-le-mul f (omega arith)) in
    lt_of_lt_of_le u (le_trans v w)

pub fits_below : (a b m e x : ℕ) → a < 2 ^ 64 → (0 < e → 2 ^ 63 ≤ m) → x < (m + 1) * 2 ^ e → a * 2 ^ b ≤ x → a * 2 ^ b ≤ m * 2 ^ e
fits_below a b m e x h f u l =
    ⊎_elim
    (λ c. let t = below_full a b m e h c (f (omega arith)) in omega arith)
    (λ c.
    let s = pow_split a e b c in
    let p : (a * 2 ^ (b - e)) * 2 ^ e < (m + 1) * 2 ^ e = rw (sym s) (lt_of_le_of_lt l u) in
    let q : a * 2 ^ (b - e) < m + 1 = lt_of_mul-lt-mul_right (2 ^ e) p in
    let r : (a * 2 ^ (b - e)) * 2 ^ e ≤ m * 2 ^ e = mul-le-mul_right (2 ^ e) (omega arith) in
    rw s r)
    (cases_lt b e)

pub fits_above : (a b m e x : ℕ) → a < 2 ^ 64 → (0 < e → 2 ^ 63 ≤ m) → m * 2 ^ e < x → x ≤ a * 2 ^ b → (m + 1) * 2 ^ e ≤ a * 2 ^ b
fits_above a b m e x h f u l =
    ⊎_elim
    (λ c. let t = below_full a b m e h c (f (omega arith)) in absurd (omega arith))
    (λ c.
    let s = pow_split a e b c in
    let p : m * 2 ^ e < (a * 2 ^ (b - e)) * 2 ^ e = rw (sym s) (lt_of_lt_of_le u l) in
    let q : m < a * 2 ^ (b - e) = lt_of_mul-lt-mul_right (2 ^ e) p in
    let r : (m + 1) * 2 ^ e ≤ (a * 2 ^ (b - e)) * 2 ^ e = mul-le-mul_right (2 ^ e) (omega arith) in
    rw s r)
    (cases_lt b e)

-- a number between two neighbours, the lower one of which is a mantissa with an exponent
record IsCut (x m e : ℕ) : Type 0 where
  positive : 1 ≤ m
  below : m < 2 ^ 64
  full : 0 < e → 2 ^ 63 ≤ m
  low : m * 2 ^ e ≤ x
  high : x < (m + 1) * 2 ^ e

cut_whole : (x m e : ℕ) → e ≡ 0 → m ≡ x / 2 ^ e → 1 ≤ x → x < 2 ^ 64 → IsCut x m e
cut_whole x m e z w p h =
    let i : m ≡ x = w ∙ rw z (omega arith) in
    rw (i, z) (record { positive = p; below = h; full = λ l. absurd (omega arith); low = omega arith; high = omega arith })

cut_long : (x m e : ℕ) → m ≡ x / 2 ^ e → 2 ^ (63 + e) ≤ x → x < 2 ^ (64 + e) → IsCut x m e
cut_long x m e w h l =
    let f : 2 ^ 63 ≤ x / 2 ^ e = le-div (2 ^ 63) x (2 ^ e) (pow_pos e) (rw (← pow-add 2 63 e) h) in
    let b : x / 2 ^ e < 2 ^ 64 = shr_below x 64 e l in
    let u : x < x / 2 ^ e * 2 ^ e + 2 ^ e = lt-div-mul-add (pow_pos e) in
    rw w (record { positive = omega arith; below = b; full = λ q. f; low = div-mul-le_self x (2 ^ e); high = omega arith })

cut : (x : ℕ) → 1 ≤ x → IsCut x (mantissa_of x) (exponent_of x)
unfolding exponent_of mantissa_of
cut x p =
    let b = bit_length_bounds x p in
    let u = b.0 in
    let v = b.1 in
    ⊎_elim
    (λ l.
    let k : bit_length x < 65 = pow-lt_reflects (bit_length x) 65 (omega arith) in
    cut_whole x _ (bit_length x - 64) (omega arith) refl p l)
    (λ l.
    let k : 64 < bit_length x = pow-lt_reflects 64 (bit_length x) (omega arith) in
    let s : bit_length x ≡ suc (63 + (bit_length x - 64)) = omega arith in
    let i : bit_length x ≡ 64 + (bit_length x - 64) = omega arith in
    let t : 2 ^ bit_length x ≡ 2 * 2 ^ (63 + (bit_length x - 64)) = ap (λ k. 2 ^ k) s ∙ two_pow-suc (63 + (bit_length x - 64)) in
    let q : 2 ^ bit_length x ≡ 2 ^ (64 + (bit_length x - 64)) = ap (λ k. 2 ^ k) i in
    cut_long x _ (bit_length x - 64) refl (omega arith) (omega arith))
    (cases_lt x (2 ^ 64))

represents : (m e : ℕ) → 1 ≤ m → m < 2 ^ 64 → IsRepresentable (m * 2 ^ e)
represents m e p h = record { mantissa = m; exponent = e; positive = p; below = h; written = refl }

-- ---- down

greatest_at : (x m e : ℕ) → IsCut x m e → IsGreatestBelow (m * 2 ^ e) x
greatest_at x m e c = record {
  representable = represents m e c.positive c.below;
  below = c.low;
  greatest = λ k r h. rw r.written (fits_below r.mantissa r.exponent m e x r.below c.full c.high (rw (sym r.written) h));
}

pub rounded_down_is : (x : ℕ) → 1 ≤ x → IsGreatestBelow (rounded_down x) x
rounded_down_is x p = greatest_at x (mantissa_of x) (exponent_of x) (cut x p)

pub greatest_is : (n x : ℕ) → 1 ≤ x → IsGreatestBelow n x → n ≡ rounded_down x
greatest_is n x p h =
    let r = rounded_down_is x p in
    let a = h.greatest _ r.representable r.below in
    let b = r.greatest n h.representable h.below in
    omega arith

-- ---- up

next_represents : (m e : ℕ) → 1 ≤ m → m < 2 ^ 64 → IsRepresentable ((m + 1) * 2 ^ e)
next_represents m e p h =
    ⊎_elim
    (λ l. represents (m + 1) e (omega arith) l)
    (λ l.
    let s : 2 ^ suc e ≡ 2 * 2 ^ e = two_pow-suc e in
    let i : m + 1 ≡ 2 ^ 64 = omega arith in
    record { mantissa = 2 ^ 63; exponent = suc e; positive = omega arith; below = omega arith; written = rw (s, i) (omega arith) })
    (cases_lt (m + 1) (2 ^ 64))

-- the number with almost one unit more, cut
raised : (x m e : ℕ) → IsCut x m e → m * 2 ^ e < x → (x + (2 ^ e - 1)) / 2 ^ e ≡ m + 1
raised x m e c l =
    let p = pow_pos e in
    let h = c.high in
    div-eq_of_lt-le {k = m + 1} (2 ^ e) (omega arith) (omega arith)

exact : (x m e : ℕ) → x ≡ m * 2 ^ e → (x + (2 ^ e - 1)) / 2 ^ e ≡ m
exact x m e h = let p = pow_pos e in div-eq_of_lt-le {k = m} (2 ^ e) (omega arith) (omega arith)

least_at : (x m e : ℕ) → IsCut x m e → IsLeastAbove ((x + (2 ^ e - 1)) / 2 ^ e * 2 ^ e) x
least_at x m e c =
    ⊎_elim
    (λ l. rw (raised x m e c l) (record {
      representable = next_represents m e c.positive c.below;
      above = let h = c.high in omega arith;
      least = λ k r h. rw r.written (fits_above r.mantissa r.exponent m e x r.below c.full l (rw (sym r.written) h));
    }))
    (λ l.
    let low = c.low in
    let i : x ≡ m * 2 ^ e = omega arith in
    rw (exact x m e i) (record {
      representable = represents m e c.positive c.below;
      above = l;
      least = λ k r h. let s = low in omega arith;
    }))
    (cases_lt (m * 2 ^ e) x)

pub rounded_up_is : (x : ℕ) → 1 ≤ x → IsLeastAbove (rounded_up x) x
rounded_up_is x p = least_at x (mantissa_of x) (exponent_of x) (cut x p)

pub least_is : (n x : ℕ) → 1 ≤ x → IsLeastAbove n x → n ≡ rounded_up x
least_is n x p h =
    let r = rounded_up_is x p in
    let a = h.least _ r.representable r.above in
    let b = r.least n h.representable h.above in
    omega arith

-- ---- powers

-- how many halvings are reckoned with does not matter, where there are enough
pub power_within-enough : (f g : ℕ) (round : ℕ → ℕ) (x n : ℕ) → n ≤ f → n ≤ g → power_within f round x n ≡ power_within g round x n
unfolding power_within
power_within-enough zero zero round x n h l = refl
power_within-enough zero (suc g) round x n h l = rw (le-leb n 1 (omega arith)) refl
power_within-enough (suc f) zero round x n h l = rw (le-leb n 1 (omega arith)) refl
power_within-enough (suc f) (suc g) round x n h l =
    ⊎_elim
    (λ m. rw (lt-leb n 1 m) (rw (power_within-enough f g round x (n / 2) (omega arith) (omega arith)) refl))
    (λ m. rw (le-leb n 1 m) refl)
    (cases_lt 1 n)

pub power_by-one : (round : ℕ → ℕ) (x n : ℕ) → n ≤ 1 → power_by round x n ≡ x
unfolding power_within
power_by-one round x zero h = refl
power_by-one round x (suc n) h = rw (le-leb (suc n) 1 h) refl

pub power_by-even : (round : ℕ → ℕ) (x n : ℕ) → 1 < n → n % 2 ≢ 1 → power_by round x n ≡ round (power_by round x (n / 2) * power_by round x (n / 2))
unfolding power_within
power_by-even round x zero h e = absurd (omega arith)
power_by-even round x (suc n) h e =
    rw (lt-leb (suc n) 1 h, ne_eqb (suc n % 2) 1 e, power_within-enough n (suc n / 2) round x (suc n / 2) (omega arith) (le_refl _)) refl

pub power_by-odd : (round : ℕ → ℕ) (x n : ℕ) → 1 < n → n % 2 ≡ 1 → power_by round x n ≡ round (round (power_by round x (n / 2) * power_by round x (n / 2)) * x)
unfolding power_within
power_by-odd round x zero h e = absurd (omega arith)
power_by-odd round x (suc n) h e =
    rw (lt-leb (suc n) 1 h, eq-eqb (suc n % 2) 1 e, power_within-enough n (suc n / 2) round x (suc n / 2) (omega arith) (le_refl _)) refl

-- ---- logarithms

-- the whole logarithm is the greatest number whose power of two is not above
pub whole_log_is : (k x : ℕ) → 2 ^ k ≤ x → x < 2 ^ (k + 1) → k ≡ whole_log x
whole_log_is k x h l =
    let s : k + 1 ≡ suc k = omega arith in
    let e = bit_length_is x k h (rw s at l) in
    omega arith

pub whole_log_bounds : (x : ℕ) → 1 ≤ x → (2 ^ whole_log x ≤ x) × (x < 2 ^ (whole_log x + 1))
whole_log_bounds x p =
    let b = bit_length_bounds x p in
    let u = b.0 in
    let v = b.1 in
    let some : 0 < bit_length x = pow-lt_reflects 0 (bit_length x) (omega arith) in
    let s : bit_length x ≡ suc (whole_log x) = omega arith in
    let i : bit_length x ≡ whole_log x + 1 = omega arith in
    let t : 2 ^ bit_length x ≡ 2 * 2 ^ whole_log x = ap (λ k. 2 ^ k) s ∙ two_pow-suc (whole_log x) in
    let q : 2 ^ bit_length x ≡ 2 ^ (whole_log x + 1) = ap (λ k. 2 ^ k) i in
    (omega arith, omega arith)
