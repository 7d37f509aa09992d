-- Powers by squaring: each product adds one step of rounding.
use Rattle.std.proofs.Common.{◌≡◌, ◌≢◌, ℕ, ◌+◌, ◌-◌, ◌*◌, ◌/◌, ◌%◌, ◌^◌, ◌<◌, ◌≤◌, sym, ap, ◌∙◌, arith, le_trans, lt_of_le_of_lt}
use Rattle.std.proofs.lemmas.Nat.{pow-add}
use Rattle.std.proofs.Math.Nat.{pow-suc, pow-zero, pow-le-pow_right, mul-le-mul, mul-le-mul_left, mul-le-mul_right, one-le-mul}
use Rattle.mk_scaled.specs.Range.{two_to, two_to-mono, two_to-suc, IsInRange}
use Rattle.mk_scaled.specs.Near.{IsNear, near-mul, near_trans, near_same, near_more, near_width}
use Rattle.mk_scaled.specs.Rounding.{IsGreatestBelow, IsLeastAbove}
use Rattle.mk_scaled.specs.ByRule.{power_by}
use Rattle.mk_scaled.specs.Rules.{power_by-even, power_by-odd}
use Rattle.mk_scaled.specs.inner.Closeness.{near_below, near_above}
use Rattle.mk_scaled.specs.inner.Wide.{IsNearRange}

pow-one : (x : ℕ) → x ^ 1 ≡ x
pow-one x = pow-suc x 0 ∙ ap (λ y. y * x) (pow-zero x) ∙ omega arith

pub pow-at_one : (x n : ℕ) → n ≡ 1 → x ^ n ≡ x
pow-at_one x n h = ap (λ k. x ^ k) h ∙ pow-one x

pub even_power : (x n : ℕ) → n % 2 ≢ 1 → x ^ (n / 2) * x ^ (n / 2) ≡ x ^ n
even_power x n h =
    let s : n / 2 + n / 2 ≡ n = omega arith in sym (pow-add x (n / 2) (n / 2)) ∙ ap (λ k. x ^ k) s

pub odd_power : (x n : ℕ) → n % 2 ≡ 1 → (x ^ (n / 2) * x ^ (n / 2)) * x ≡ x ^ n
odd_power x n h =
    let s : n / 2 + n / 2 + 1 ≡ n = omega arith in
    ap (λ y. (x ^ (n / 2) * x ^ (n / 2)) * y) (sym (pow-one x))
    ∙ ap (λ y. y * x ^ 1) (sym (pow-add x (n / 2) (n / 2)))
    ∙ sym (pow-add x (n / 2 + n / 2) 1)
    ∙ ap (λ k. x ^ k) s

pub half_below : (x n : ℕ) → 1 ≤ x → x ^ (n / 2) ≤ x ^ n
half_below x n p = pow-le-pow_right p (omega arith)

pub square_below : (x n : ℕ) → 1 ≤ x → x ^ (n / 2) * x ^ (n / 2) ≤ x ^ n
square_below x n p = rw (← pow-add x (n / 2) (n / 2)) (pow-le-pow_right p (omega arith))

-- ---- down

pub squared_below : (x n r s : ℕ) → 1 ≤ x → r ≤ x ^ (n / 2) → s ≤ r * r → s ≤ x ^ n
squared_below x n r s p h l = le_trans l (le_trans (mul-le-mul h h) (square_below x n p))

pub odd_below : (x n r s : ℕ) → n % 2 ≡ 1 → r ≤ x ^ (n / 2) → s ≤ r * r → s * x ≤ x ^ n
odd_below x n r s o h l = rw (← odd_power x n o) (mul-le-mul_right x (le_trans l (mul-le-mul h h)))

near_square_down : (y r s g : ℕ) → 1 ≤ r → IsNear r y g → IsGreatestBelow s (r * r) → IsNear s (y * y) (1 + (g + g))
near_square_down y r s g p h l =
    near_trans s (r * r) (y * y) 1 (g + g) (near_below s (r * r) (one-le-mul p p) l) (near-mul r y r y g g h h)

pub near_even_down : (x n r s : ℕ) → n % 2 ≢ 1 → n ≢ 1 → 1 ≤ n → 1 ≤ r → IsNear r (x ^ (n / 2)) (n / 2 - 1) → IsGreatestBelow s (r * r) → IsNear s (x ^ n) (n - 1)
near_even_down x n r s o w q p h l =
    rw (← even_power x n o) (near_more _ _ _ (n - 1) (omega arith) (near_square_down (x ^ (n / 2)) r s (n / 2 - 1) p h l))

pub near_odd_down : (x n r s t : ℕ) → n % 2 ≡ 1 → n ≢ 1 → 1 ≤ r → 1 ≤ s → 1 ≤ x → IsNear r (x ^ (n / 2)) (n / 2 - 1) → IsGreatestBelow s (r * r) → IsGreatestBelow t (s * x) → IsNear t (x ^ n) (n - 1)
near_odd_down x n r s t o w p q z h l k =
    let a = near_square_down (x ^ (n / 2)) r s (n / 2 - 1) p h l in
    let b = near-mul s (x ^ (n / 2) * x ^ (n / 2)) x x _ 0 a (near_same x) in
    let c = near_trans t (s * x) ((x ^ (n / 2) * x ^ (n / 2)) * x) 1 _ (near_below t (s * x) (one-le-mul q z) k) b in
    rw (← odd_power x n o) (near_more _ _ _ (n - 1) (omega arith) c)

-- ---- up

near_square_up : (y r s g : ℕ) → 1 ≤ r → IsNear y r g → IsLeastAbove s (r * r) → IsNear (y * y) s ((g + g) + 1)
near_square_up y r s g p h l =
    near_trans (y * y) (r * r) s (g + g) 1 (near-mul y r y r g g h h) (near_above s (r * r) (one-le-mul p p) l)

pub near_even_up : (x n r s : ℕ) → n % 2 ≢ 1 → n ≢ 1 → 1 ≤ n → 1 ≤ r → IsNear (x ^ (n / 2)) r (n / 2 - 1) → IsLeastAbove s (r * r) → IsNear (x ^ n) s (n - 1)
near_even_up x n r s o w q p h l =
    rw (← even_power x n o) (near_more _ _ _ (n - 1) (omega arith) (near_square_up (x ^ (n / 2)) r s (n / 2 - 1) p h l))

near_times_up : (x n r s : ℕ) → 1 ≤ r → IsNear (x ^ (n / 2)) r (n / 2 - 1) → IsLeastAbove s (r * r) → IsNear ((x ^ (n / 2) * x ^ (n / 2)) * x) (s * x) (((n / 2 - 1 + (n / 2 - 1)) + 1) + 0)
near_times_up x n r s p h l =
    near-mul (x ^ (n / 2) * x ^ (n / 2)) s x x _ 0 (near_square_up (x ^ (n / 2)) r s (n / 2 - 1) p h l) (near_same x)

pub near_odd_up : (x n r s t : ℕ) → n % 2 ≡ 1 → n ≢ 1 → 1 ≤ r → 1 ≤ s → 1 ≤ x → IsNear (x ^ (n / 2)) r (n / 2 - 1) → IsLeastAbove s (r * r) → IsLeastAbove t (s * x) → IsNear (x ^ n) t (n - 1)
near_odd_up x n r s t o w p q z h l k =
    let b = near_times_up x n r s p h l in
    let c = near_trans ((x ^ (n / 2) * x ^ (n / 2)) * x) (s * x) t _ 1 b (near_above t (s * x) (one-le-mul q z) k) in
    rw (← odd_power x n o) (near_more _ _ _ (n - 1) (omega arith) c)

double_of : (low high c : ℕ) → 2 ^ 59 ≤ c → high * c ≤ low * 2 ^ 60 → high ≤ 2 * low
double_of low high c h l = let m : high * 2 ^ 59 ≤ high * c = mul-le-mul_left high h in omega arith

-- What is a few steps above a number in range is in the wider range.
pub near_in_range : (low high g : ℕ) → g ≤ 2 ^ 34 → IsNear low high g → IsInRange low → IsNearRange high
near_in_range low high g h l r =
    let d = double_of low high (2 ^ 60 - g) (omega arith) (near_width low high g l) in
    let t = two_to-mono (2 ^ 50 + 1) (2 ^ 50 + 2) (omega arith) in
    let u : two_to (2 ^ 50 + 1) ≡ two_to (2 ^ 50) + two_to (2 ^ 50) = two_to-suc (2 ^ 50) in
    omega arith

pub square_in_range : (x n r : ℕ) → n < 2 ^ 32 → 1 ≤ x → IsInRange (x ^ n) → IsNear (x ^ (n / 2)) r (n / 2 - 1) → IsNearRange (r * r)
square_in_range x n r b p h l =
    near_in_range (x ^ (n / 2) * x ^ (n / 2)) (r * r) _ (omega arith)
    (near-mul _ _ _ _ (n / 2 - 1) (n / 2 - 1) l l) (lt_of_le_of_lt (square_below x n p) h)

pub odd_in_range : (x n r s : ℕ) → n % 2 ≡ 1 → n < 2 ^ 32 → 1 ≤ r → IsInRange (x ^ n) → IsNear (x ^ (n / 2)) r (n / 2 - 1) → IsLeastAbove s (r * r) → IsNearRange (s * x)
odd_in_range x n r s o b p h l k =
    near_in_range ((x ^ (n / 2) * x ^ (n / 2)) * x) (s * x) _ (omega arith) (near_times_up x n r s p l k) (rw (odd_power x n o) h)

pub squared_above : (x n r s : ℕ) → n % 2 ≢ 1 → x ^ (n / 2) ≤ r → r * r ≤ s → x ^ n ≤ s
squared_above x n r s o h l = rw (← even_power x n o) (le_trans (mul-le-mul h h) l)

pub odd_above : (x n r s t : ℕ) → n % 2 ≡ 1 → x ^ (n / 2) ≤ r → r * r ≤ s → s * x ≤ t → x ^ n ≤ t
odd_above x n r s t o h l k =
    rw (← odd_power x n o) (le_trans (mul-le-mul_right x (le_trans (mul-le-mul h h) l)) k)

-- ---- the same by a rule

pub by_rule_even : (round : ℕ → ℕ) (x n r s : ℕ) → n % 2 ≢ 1 → n ≢ 1 → 1 ≤ n → r ≡ power_by round x (n / 2) → s ≡ round (r * r) → s ≡ power_by round x n
by_rule_even round x n r s o w p h l =
    l ∙ ap (λ y. round (y * y)) h ∙ sym (power_by-even round x n (omega arith) o)

pub by_rule_odd : (round : ℕ → ℕ) (x n r s t : ℕ) → n % 2 ≡ 1 → n ≢ 1 → 1 ≤ n → r ≡ power_by round x (n / 2) → s ≡ round (r * r) → t ≡ round (s * x) → t ≡ power_by round x n
by_rule_odd round x n r s t o w p h l k =
    k ∙ ap (λ y. round (y * x)) l ∙ ap (λ y. round (round (y * y) * x)) h ∙ sym (power_by-odd round x n (omega arith) o)
