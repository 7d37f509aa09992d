-- Quotients of digits times powers of two.
use Rattle.std.proofs.Common.{◌≡◌, ℕ, ◌+◌, ◌-◌, ◌*◌, ◌/◌, ◌%◌, ◌^◌, ◌<◌, ◌≤◌, Bool, true, false, not, eqb, Option, Some, None, refl, sym, ap, ◌∙◌, ⊎_elim, arith, le_trans, true≢false}
use Rattle.std.specs.Option.{MatchOption}
use Rattle.std.specs.Int.{div_ceil}
use Rattle.std.proofs.lemmas.Nat.{pow-add, pow_pos, le-div}
use Rattle.std.proofs.lemmas.Bool.{cases_order, false≢true, eqb-true, eqb-false}
use Rattle.std.proofs.Math.Nat.{mul-le-mul_left, mul-le-mul_right, mul_assoc, mul_comm, mul_right_comm, div-mul-le_self, lt-div-mul-add, div-eq_of_lt-le, mul-lt-mul_of_pos_right, mod-eq_of_lt}
use Rattle.mk_scaled.specs.declared.scaled.quotient.Whole.{Whole}
use Rattle.mk_scaled.specs.inner.Quotient.{IsQuotient}
use Rattle.mk_scaled.specs.Range.{pow_le}

-- what the code computes for the rest: whether the whole part, multiplied back, is the number
rest_at : (w p x b : ℕ) (t : Bool) → p ≡ w * b → p ≤ x → x < (w + 1) * b → eqb p x ≡ t → IsQuotient w (not t) x b
rest_at w p x b true i l u h =
    record { even = λ q. sym (eqb-true p x h) ∙ i; above = λ q. absurd (false≢true q); below = u }
rest_at w p x b false i l u h = record {
  even = λ q. absurd (true≢false q);
  above = λ q. ⊎_elim (λ e. absurd (eqb-false p x h e)) (⊎_elim (λ k. rw i at k) (λ k. absurd (omega arith))) (cases_order p x);
  below = u;
}

pub rest_of : (w p x b : ℕ) → p ≡ w * b → p ≤ x → x < (w + 1) * b → IsQuotient w (not (eqb p x)) x b
rest_of w p x b i l u = rest_at w p x b (eqb p x) i l u refl

left_at : (w r x b : ℕ) (t : Bool) → w * b + r ≡ x → r < b → eqb r 0 ≡ t → IsQuotient w (not t) x b
left_at w r x b true i l h =
    let z = eqb-true r 0 h in record { even = λ q. omega arith; above = λ q. absurd (false≢true q); below = omega arith }
left_at w r x b false i l h =
    let z = eqb-false r 0 h in
    let p : 0 < r = ⊎_elim (λ e. absurd (z e)) (⊎_elim (λ k. absurd (omega arith)) (λ k. k)) (cases_order r 0) in
    record { even = λ q. absurd (true≢false q); above = λ q. omega arith; below = omega arith }

pub left_of : (w r x b : ℕ) → w * b + r ≡ x → r < b → IsQuotient w (not (eqb r 0)) x b
left_of w r x b i l = left_at w r x b (eqb r 0) i l refl

-- ---- the denominator with a power of two

pub far_quotient : (n b k : ℕ) → n < 2 ^ 124 → 1 ≤ b → 128 ≤ k → IsQuotient 0 (not (eqb n 0)) n (b * 2 ^ k)
far_quotient n b k h p l =
    let u = pow_le 124 k (omega arith) in
    let v : 1 * 2 ^ k ≤ b * 2 ^ k = mul-le-mul_right (2 ^ k) p in
    left_of 0 n n (b * 2 ^ k) (omega arith) (omega arith)

back : (w b k : ℕ) → (w * 2 ^ k) * b ≡ w * (b * 2 ^ k)
back w b k = mul_assoc w (2 ^ k) b ∙ ap (λ y. w * y) (mul_comm (2 ^ k) b)

pub back_below : (n b k : ℕ) → (n / b / 2 ^ k * 2 ^ k) * b ≤ n
back_below n b k =
    le_trans (mul-le-mul_right b (div-mul-le_self (n / b) (2 ^ k))) (div-mul-le_self n b)

pub back_above : (n b k : ℕ) → 1 ≤ b → n < (n / b / 2 ^ k + 1) * (b * 2 ^ k)
back_above n b k p =
    let q : n / b < n / b / 2 ^ k * 2 ^ k + 2 ^ k = lt-div-mul-add (pow_pos k) in
    let r : n < n / b * b + b = lt-div-mul-add p in
    let s : n / b + 1 ≤ (n / b / 2 ^ k + 1) * 2 ^ k = omega arith in
    let t : (n / b + 1) * b ≤ ((n / b / 2 ^ k + 1) * 2 ^ k) * b = mul-le-mul_right b s in
    rw (← back (n / b / 2 ^ k + 1) b k) (omega arith)

pub lowered_quotient : (n b k : ℕ) → n < 2 ^ 124 → 1 ≤ b → IsQuotient (n / b / 2 ^ k) (not (eqb (n / b / 2 ^ k * 2 ^ k % 2 ^ 128 * b) n)) n (b * 2 ^ k)
lowered_quotient n b k h p =
    let l : n / b / 2 ^ k * 2 ^ k ≤ n / b = div-mul-le_self (n / b) (2 ^ k) in
    let m : n / b * b ≤ n = div-mul-le_self n b in
    let o : n / b * 1 ≤ n / b * b = mul-le-mul_left (n / b) p in
    let w : n / b / 2 ^ k * 2 ^ k % 2 ^ 128 ≡ n / b / 2 ^ k * 2 ^ k = mod-eq_of_lt (omega arith) in
    rest_of (n / b / 2 ^ k) (n / b / 2 ^ k * 2 ^ k % 2 ^ 128 * b) n (b * 2 ^ k)
    (ap (λ y. y * b) w ∙ back (n / b / 2 ^ k) b k)
    (rw w (back_below n b k))
    (back_above n b k p)

pub lowered_great : (n b k : ℕ) → 2 ^ 63 ≤ n / b / 2 ^ k → 2 ^ 63 * (b * 2 ^ k) ≤ n
lowered_great n b k h =
    le_trans (mul-le-mul_right (b * 2 ^ k) h) (rw (← back (n / b / 2 ^ k) b k) (back_below n b k))

-- ---- a common power of two

pub quotient_scaled : (w : ℕ) (r : Bool) (n b p : ℕ) → 0 < p → IsQuotient w r n b → IsQuotient w r (n * p) (b * p)
quotient_scaled w r n b p h q = record {
  even = λ e. ap (λ y. y * p) (q.even e) ∙ mul_assoc w b p;
  above = λ e. rw (← mul_assoc w b p) (mul-lt-mul_of_pos_right (q.above e) h);
  below = rw (← mul_assoc (w + 1) b p) (mul-lt-mul_of_pos_right q.below h);
}

abbrev pub Answers : Option Whole → ℕ → ℕ → Type 0
Answers o n b = MatchOption o (2 ^ 63 * b ≤ n) (λ q. (q.whole < 2 ^ 63) × IsQuotient q.whole q.rest n b)

answers_scaled : (o : Option Whole) (n b p : ℕ) → 0 < p → Answers o n b → Answers o (n * p) (b * p)
answers_scaled None n b p h l = rw (← mul_assoc (2 ^ 63) b p) (mul-le-mul_right p l)
answers_scaled (Some q) n b p h l = (l.0, quotient_scaled q.whole q.rest n b p h l.1)

power_apart : (b i j : ℕ) → i ≤ j → (b * 2 ^ (j - i)) * 2 ^ i ≡ b * 2 ^ j
power_apart b i j h =
    let s : (j - i) + i ≡ j = omega arith in
    mul_assoc b (2 ^ (j - i)) (2 ^ i) ∙ ap (λ y. b * y) (sym (pow-add 2 (j - i) i) ∙ ap (λ k. 2 ^ k) s)

pub answers_lowered : (o : Option Whole) (n b i j : ℕ) → i ≤ j → Answers o n (b * 2 ^ (j - i)) → Answers o (n * 2 ^ i) (b * 2 ^ j)
answers_lowered o n b i j h l = rw (← power_apart b i j h) (answers_scaled o n (b * 2 ^ (j - i)) (2 ^ i) (pow_pos i) l)

pub answers_raised : (o : Option Whole) (n b i j : ℕ) → j ≤ i → Answers o (n * 2 ^ (i - j)) b → Answers o (n * 2 ^ i) (b * 2 ^ j)
answers_raised o n b i j h l = rw (← power_apart n j i h) (answers_scaled o (n * 2 ^ (i - j)) b (2 ^ j) (pow_pos j) l)

-- ---- what the whole part is

pub whole_is : (w : ℕ) (r : Bool) (n b : ℕ) → IsQuotient w r n b → n / b ≡ w
whole_is w true n b q = let l = q.above refl in div-eq_of_lt-le b (omega arith) q.below
whole_is w false n b q = let l = q.even refl in div-eq_of_lt-le b (omega arith) q.below

pub floor_great : (n b : ℕ) → 1 ≤ b → 2 ^ 63 * b ≤ n → 2 ^ 63 ≤ n / b
floor_great n b p h = le-div (2 ^ 63) n b p h

-- ---- the loop

pub still_great : (w r n b i k : ℕ) → w * b + r ≡ n * 2 ^ i → i ≤ k → 2 ^ 63 ≤ w → 2 ^ 63 * b ≤ n * 2 ^ k
still_great w r n b i k h l g =
    let s : 2 ^ 63 * b ≤ w * b = mul-le-mul_right b g in
    let t : n * 2 ^ i ≤ n * 2 ^ k = mul-le-mul_left n (pow_le i k l) in
    omega arith

pub doubled_once : (x y n i : ℕ) → y ≡ n * 2 ^ i → x ≡ 2 * y → x ≡ n * 2 ^ (i + 1)
doubled_once x y n i h l =
    let s : 2 ^ (i + 1) ≡ 2 ^ i * 2 = pow-add 2 i 1 in
    rw s (omega arith)

-- ---- for the ceiling

pub ceiling_great : (n b : ℕ) → 1 ≤ b → 2 ^ 63 * b ≤ n → 2 ^ 63 ≤ div_ceil n b
ceiling_great n b p h = let l = floor_great n b p h in omega arith

-- a factor goes into the digits
pub times_inside : (m e t : ℕ) → (m * t) * 2 ^ e ≡ (m * 2 ^ e) * t
times_inside m e t = mul_right_comm m t (2 ^ e)
