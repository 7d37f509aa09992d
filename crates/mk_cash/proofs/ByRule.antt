-- Powers and products that are rounded by a rule, beside the exact ones.
use Rattle.std.proofs.Common.{◌≡◌, ◌≢◌, ℕ, zero, suc, ◌+◌, ◌-◌, ◌*◌, ◌/◌, ◌%◌, ◌^◌, ◌<◌, ◌≤◌, List}
use Rattle.std.proofs.Common.{[], ◌∷◌, length, sym, ap, ◌∙◌, subst, inl, inr, arith, le_refl}
use Rattle.std.proofs.Common.{le_trans, le_of_lt, lt_of_le_of_lt}
use Rattle.std.specs.List.{AllByRecursion}
use Rattle.std.proofs.Math.Nat.{mul-le-mul, mul-le-mul_left, mul-le-mul_right, one-le-mul}
use Rattle.std.proofs.Math.Nat.{mul_assoc}
use Rattle.std.proofs.lemmas.Bool.{cases_lt, cases_eq}
use Rattle.std.proofs.lemmas.Nat.{pow-add}
use Rattle.mk_scaled.specs.ByRule.{rounded_down, rounded_up, power_by, whole_log}
use Rattle.mk_scaled.specs.Form.{digits, bit_length, exponent_of, mantissa_of}
use Rattle.mk_scaled.specs.Near.{IsNear, near_self, near_more, near-mul, near_trans, near_same}
use Rattle.mk_scaled.specs.Rules.{rounded_down_is, rounded_up_is, power_by-one, power_by-even}
use Rattle.mk_scaled.specs.Rules.{power_by-odd, whole_log_bounds}
use Rattle.mk_scaled.specs.inner.Closeness.{greatest_positive, least_positive, near_below}
use Rattle.mk_scaled.specs.inner.Closeness.{near_above, greatest_exact, least_exact}
use Rattle.mk_scaled.specs.inner.Closeness.{least_below_power, representable_whole}
use Rattle.mk_scaled.proofs.Powers.{pow-at_one, squared_below, odd_below, near_even_down}
use Rattle.mk_scaled.proofs.Powers.{near_odd_down, squared_above, odd_above, near_even_up}
use Rattle.mk_scaled.proofs.Powers.{near_odd_up}
use Rattle.mk_net.specs.Bounds.{number_limit}
use Rattle.mk_exact.proofs.ExistNumbers.{exponent_at_most}
use Rattle.mk_states.specs.States.{product_by}
use Rattle.mk_states.specs.Ratios.{ratio_at}
use Rattle.mk_exact.specs.History.{UserTrade}
use Rattle.mk_exact.specs.ByRule.{times_by}
use Rattle.mk_cash.proofs.Covering.{ArePowerBits, low_bits, high_bits}
use Rattle.mk_cash.proofs.Nearness.{IsBetween}

-- ---- powers

-- r is a power that was rounded down
record IsPowerDown (x n r : ℕ) : Type 0 where
  positive : 1 ≤ r
  below : r ≤ x ^ n
  near : IsNear r (x ^ n) (n - 1)

down_one : (x n : ℕ) → 1 ≤ x → n ≡ 1 → IsPowerDown x n x
down_one x n p e = let i = pow-at_one x n e in record {
  positive = p;
  below = omega arith;
  near =
      rw i (near_self x (n - 1));
}

down_even : (x n r : ℕ) → 1 ≤ x → 1 < n → n % 2 ≢ 1 → IsPowerDown x (n / 2) r
    → IsPowerDown x n (rounded_down (r * r))
down_even x n r p l o h =
    let is = rounded_down_is (r * r) (one-le-mul h.positive h.positive) in
    record {
      positive = greatest_positive _ _ is;
      below = squared_below x n r _ p h.below is.below;
      near = near_even_down x n r _ o (λ e. omega arith) (omega arith) h.positive h.near is;
    }

down_odd : (x n r : ℕ) → 1 ≤ x → 1 < n → n % 2 ≡ 1 → IsPowerDown x (n / 2) r
    → IsPowerDown x n (rounded_down (rounded_down (r * r) * x))
down_odd x n r p l o h =
    let square = rounded_down_is (r * r) (one-le-mul h.positive h.positive) in
    let some = greatest_positive _ _ square in
    let is = rounded_down_is (rounded_down (r * r) * x) (one-le-mul some p) in
    record {
      positive = greatest_positive _ _ is;
      below = le_trans is.below (odd_below x n r _ o h.below square.below);
      near = near_odd_down x n r _ _ o (λ e. omega arith) h.positive some p h.near square is;
    }

down_within : (f x n : ℕ) → n ≤ f → 1 ≤ x → 1 ≤ n → IsPowerDown x n (power_by rounded_down x n)
down_within zero x n h p q = absurd (omega arith)
down_within (suc f) x n h p q = elim (cases_lt 1 n) [
  | inl l ↦ elim (cases_eq (n % 2) 1) [
    | inl o ↦ subst (IsPowerDown x n) (sym (power_by-odd rounded_down x n l o))
        (down_odd x n (power_by rounded_down x (n / 2)) p l o (down_within f x (n / 2) (omega arith)
        p (omega arith)))
    | inr o ↦ subst (IsPowerDown x n) (sym (power_by-even rounded_down x n l o))
        (down_even x n (power_by rounded_down x (n / 2)) p l o
        (down_within f x (n / 2) (omega arith) p (omega arith)))
  ]
  | inr l ↦ subst (IsPowerDown x n) (sym (power_by-one rounded_down x n l))
      (down_one x n p (omega arith))
]

-- and one that was rounded up
record IsPowerUp (x n r : ℕ) : Type 0 where
  positive : 1 ≤ r
  above : x ^ n ≤ r
  near : IsNear (x ^ n) r (n - 1)

up_one : (x n : ℕ) → 1 ≤ x → n ≡ 1 → IsPowerUp x n x
up_one x n p e = let i = pow-at_one x n e in record {
  positive = p;
  above = omega arith;
  near =
      rw i (near_self x (n - 1));
}

up_even : (x n r : ℕ) → 1 ≤ x → 1 < n → n % 2 ≢ 1 → IsPowerUp x (n / 2) r
    → IsPowerUp x n (rounded_up (r * r))
up_even x n r p l o h =
    let is = rounded_up_is (r * r) (one-le-mul h.positive h.positive) in
    record {
      positive = least_positive _ _ is;
      above = squared_above x n r _ o h.above is.above;
      near = near_even_up x n r _ o (λ e. omega arith) (omega arith) h.positive h.near is;
    }

up_odd : (x n r : ℕ) → 1 ≤ x → 1 < n → n % 2 ≡ 1 → IsPowerUp x (n / 2) r
    → IsPowerUp x n (rounded_up (rounded_up (r * r) * x))
up_odd x n r p l o h =
    let square = rounded_up_is (r * r) (one-le-mul h.positive h.positive) in
    let some = least_positive _ _ square in
    let is = rounded_up_is (rounded_up (r * r) * x) (one-le-mul some p) in
    record {
      positive = least_positive _ _ is;
      above = odd_above x n r _ _ o h.above square.above is.above;
      near = near_odd_up x n r _ _ o (λ e. omega arith) h.positive some p h.near square is;
    }

up_within : (f x n : ℕ) → n ≤ f → 1 ≤ x → 1 ≤ n → IsPowerUp x n (power_by rounded_up x n)
up_within zero x n h p q = absurd (omega arith)
up_within (suc f) x n h p q = elim (cases_lt 1 n) [
  | inl l ↦ elim (cases_eq (n % 2) 1) [
    | inl o ↦ subst (IsPowerUp x n) (sym (power_by-odd rounded_up x n l o))
        (up_odd x n (power_by rounded_up x (n / 2)) p l o (up_within f x (n / 2) (omega arith) p
        (omega arith)))
    | inr o ↦ subst (IsPowerUp x n) (sym (power_by-even rounded_up x n l o))
        (up_even x n (power_by rounded_up x (n / 2)) p l o (up_within f x (n / 2) (omega arith) p
        (omega arith)))
  ]
  | inr l ↦ subst (IsPowerUp x n) (sym (power_by-one rounded_up x n l)) (up_one x n p (omega arith))
]

bits_of : (lo hi b down up l h : ℕ) → IsPowerDown lo b down → IsPowerUp hi b up
    → (2 ^ l ≤ down) × (down < 2 ^ (l + 1)) → (2 ^ h ≤ up) × (up < 2 ^ (h + 1))
    → ArePowerBits lo hi b l h
bits_of lo hi b down up l h d u m n = record {
  below = le_trans m.0 d.below;
  above = lt_of_le_of_lt u.above n.1;
  low_near = low_bits lo b l down (near_more _ _ (b - 1) (2 * b) (omega arith) d.near) m.1;
  high_near = high_bits hi b h up (near_more _ _ (b - 1) (2 * b) (omega arith) u.near) n.0;
}

-- the whole bits of both powers
pub bits_by_rule : (lo hi b : ℕ) → 1 ≤ lo → 1 ≤ hi → 1 ≤ b
    → ArePowerBits lo hi b (whole_log (power_by rounded_down lo b))
    (whole_log (power_by rounded_up hi b))
bits_by_rule lo hi b p q some =
    let d = down_within b lo b (le_refl b) p some in
    let u = up_within b hi b (le_refl b) q some in
    bits_of lo hi b (power_by rounded_down lo b) (power_by rounded_up hi b) _ _ d u
    (whole_log_bounds (power_by rounded_down lo b) d.positive)
    (whole_log_bounds (power_by rounded_up hi b) u.positive)

-- ---- gains

-- a gain, rounded down and rounded up in so many steps
pub record AreGains (g lo hi steps : ℕ) : Type 0 where
  pub positive : 1 ≤ lo
  pub between : IsBetween g lo hi steps

gains_step : (g lo hi steps r : ℕ) → 1 ≤ r → AreGains g lo hi steps
    → AreGains (g * r) (rounded_down (lo * r)) (rounded_up (hi * r)) (steps + 2)
gains_step g lo hi steps r some h =
    let lower = h.between.lower in
    let upper = h.between.upper in
    let low_some : 1 ≤ lo * r = one-le-mul h.positive some in
    let high_some : 1 ≤ hi * r = one-le-mul (le_trans h.positive (le_trans lower upper)) some in
    let down = rounded_down_is (lo * r) low_some in
    let up = rounded_up_is (hi * r) high_some in
    let a = near_below _ (lo * r) low_some down in
    let b = near-mul lo hi r r steps 0 h.between.near (near_same r) in
    let c = near_above _ (hi * r) high_some up in
    record {
      positive = greatest_positive _ _ down;
      between = record {
        lower = le_trans down.below (mul-le-mul_right r lower);
        upper = le_trans (mul-le-mul_right r upper) up.above;
        near = near_more _ _ (1 + (steps + 0) + 1) (steps + 2) (omega arith)
            (near_trans _ (hi * r) _ (1 + (steps + 0)) 1 (near_trans _ (lo * r) (hi * r) 1
            (steps + 0) a b) c);
      };
    }

gains_all : (ts : List UserTrade) (s : List ℕ) (g lo hi steps : ℕ)
    → AllByRecursion (λ (t : UserTrade). 1 ≤ ratio_at t.ratio s) ts → AreGains g lo hi steps
    → AreGains (g * product_by (λ (t : UserTrade). ratio_at t.ratio s) ts)
    (times_by rounded_down lo ts s) (times_by rounded_up hi ts s) (steps + 2 * length ts)
gains_all [] s g lo hi steps some h =
    let e : g * 1 ≡ g = omega arith in
    let i : steps + 2 * 0 ≡ steps = omega arith in
    rw (e, i) h
gains_all (t ∷ ts) s g lo hi steps some h =
    let e : g * (ratio_at t.ratio s * product_by (λ (t : UserTrade). ratio_at t.ratio s) ts) ≡ g
    * ratio_at t.ratio s * product_by (λ (t : UserTrade). ratio_at t.ratio s) ts =
    sym (mul_assoc g (ratio_at t.ratio s) _) in
    let i : steps + 2 * suc (length ts) ≡ steps + 2 + 2 * length ts = omega arith in
    rw (e, i) (gains_all ts s (g * ratio_at t.ratio s) _ _ (steps + 2) some.1
    (gains_step g lo hi steps (ratio_at t.ratio s) some.0 h))

-- the gain of some trades, with two steps for each
pub gains_by_rule : (ts : List UserTrade) (s : List ℕ)
    → AllByRecursion (λ (t : UserTrade). 1 ≤ ratio_at t.ratio s) ts
    → AreGains (product_by (λ (t : UserTrade). ratio_at t.ratio s) ts)
    (times_by rounded_down 1 ts s) (times_by rounded_up 1 ts s) (2 * length ts)
gains_by_rule ts s some =
    let one : AreGains 1 1 1 0 = record {
      positive = le_refl 1;
      between =
          record { lower = le_refl 1; upper = le_refl 1; near = near_same 1 };
    } in
    let e : 1 * product_by (λ (t : UserTrade). ratio_at t.ratio s) ts ≡ product_by
    (λ (t : UserTrade). ratio_at t.ratio s) ts = omega arith in
    let i : 0 + 2 * length ts ≡ 2 * length ts = omega arith in
    rw (e, i) at (gains_all ts s 1 1 1 0 some one)

-- numbers below 2 ^ 64 are rounded to themselves
abbrev pub IsExactBelow : (ℕ → ℕ) → Type 0
IsExactBelow round = (x : ℕ) → 1 ≤ x → x < 2 ^ 64 → round x ≡ x

pub down_exact : IsExactBelow rounded_down
down_exact x p h = greatest_exact _ x (rounded_down_is x p) (representable_whole x p h)

pub up_exact : IsExactBelow rounded_up
up_exact x p h = least_exact _ x (rounded_up_is x p) (representable_whole x p h)

product_some : (ts : List UserTrade) (s : List ℕ)
    → AllByRecursion (λ (t : UserTrade). 1 ≤ ratio_at t.ratio s) ts
    → 1 ≤ product_by (λ (t : UserTrade). ratio_at t.ratio s) ts
product_some [] s some = le_refl 1
product_some (t ∷ ts) s some = one-le-mul some.0 (product_some ts s some.1)

pub times_exact : (round : ℕ → ℕ) → IsExactBelow round → (ts : List UserTrade) (s : List ℕ) (g : ℕ)
    → 1 ≤ g → AllByRecursion (λ (t : UserTrade). 1 ≤ ratio_at t.ratio s) ts
    → g * product_by (λ (t : UserTrade). ratio_at t.ratio s) ts < 2 ^ 64
    → times_by round g ts s ≡ g * product_by (λ (t : UserTrade). ratio_at t.ratio s) ts
times_exact round exact [] s g p some h = omega arith
times_exact round exact (t ∷ ts) s g p some h =
    let e : g * (ratio_at t.ratio s * product_by (λ (t : UserTrade). ratio_at t.ratio s) ts) ≡ g
    * ratio_at t.ratio s * product_by (λ (t : UserTrade). ratio_at t.ratio s) ts =
    sym (mul_assoc g (ratio_at t.ratio s) _) in
    let q : 1 ≤ g * ratio_at t.ratio s = one-le-mul p some.0 in
    let m : g * ratio_at t.ratio s * 1 ≤ g * ratio_at t.ratio s * product_by
    (λ (t : UserTrade). ratio_at t.ratio s) ts = mul-le-mul_left (g * ratio_at t.ratio s)
    (product_some ts s some.1) in
    let l : g * ratio_at t.ratio s * product_by (λ (t : UserTrade). ratio_at t.ratio s)
    ts < 2 ^ 64 = rw e at h in
    ap (λ x. times_by round x ts s) (exact (g * ratio_at t.ratio s) q (omega arith))
    ∙ times_exact round exact ts s (g * ratio_at t.ratio s) q some.1 l
    ∙ sym e

-- nothing is rounded where there is no trade
pub times_none : (round : ℕ → ℕ) (ts : List UserTrade) (s : List ℕ) → length ts ≡ 0
    → times_by round 1 ts s ≤ 1
times_none round [] s e = le_refl 1
times_none round (t ∷ ts) s e = absurd (omega arith)

-- ---- sizes

-- a power of two bounds what is rounded where it bounds the number
abbrev pub IsBoundedBy : (ℕ → ℕ) → Type 0
IsBoundedBy round = (x k : ℕ) → x ≤ 2 ^ k → round x ≤ 2 ^ k

pub down_bounded : IsBoundedBy rounded_down
unfolding exponent_of mantissa_of bit_length digits
down_bounded zero k h = omega arith
down_bounded (suc x) k h = le_trans (rounded_down_is (suc x) (omega arith)).below h

pub up_bounded : IsBoundedBy rounded_up
unfolding exponent_of bit_length digits
up_bounded zero k h = omega arith
up_bounded (suc x) k h = least_below_power _ (suc x) k (rounded_up_is (suc x) (omega arith)) h

whole_log_most : (x k : ℕ) → x ≤ 2 ^ k → whole_log x ≤ k
unfolding bit_length digits
whole_log_most zero k h = omega arith
whole_log_most (suc x) k h = exponent_at_most (whole_log (suc x)) k
    (le_trans (whole_log_bounds (suc x) (omega arith)).0 h)

halves : (n h k : ℕ) → h + h ≡ n → h * k + h * k ≡ n * k
halves n h k e = rw (← e) (omega arith)

halves_more : (n h k : ℕ) → h + h + 1 ≡ n → h * k + h * k + k ≡ n * k
halves_more n h k e = rw (← e) (omega arith)

module _ (round : ℕ → ℕ) (bounded : IsBoundedBy round) where
  square_most : (x n k : ℕ) → x ≤ 2 ^ n → x * x ≤ 2 ^ (n + n)
  square_most x n k h = rw (pow-add 2 n n) (mul-le-mul h h)

  power_most : (f x n k : ℕ) → n ≤ f → 1 ≤ n → x ≤ 2 ^ k → power_by round x n ≤ 2 ^ (n * k)
  power_most zero x n k h q l = absurd (omega arith)
  power_most (suc f) x n k h q l = elim (cases_lt 1 n) [
    | inl more ↦ by_half more (power_most f x (n / 2) k (omega arith) (omega arith) l)
    | inr less ↦
        let i : n ≡ 1 = omega arith in
        let e : n * k ≡ k = rw i (omega arith) in
        rw (power_by-one round x n less, e) l
  ]
    where
      by_half : 1 < n → power_by round x (n / 2) ≤ 2 ^ (n / 2 * k)
          → power_by round x n ≤ 2 ^ (n * k)
      by_half more half =
          let square = bounded _ _ (square_most _ (n / 2 * k) k half) in
          elim (cases_eq (n % 2) 1) [
            | inl o ↦
                let e = halves_more n (n / 2) k (omega arith) in
                rw (power_by-odd round x n more o, ← e)
                (bounded _ _ (rw (pow-add 2 (n / 2 * k + n / 2 * k) k) (mul-le-mul square l)))
            | inr o ↦
                let e = halves n (n / 2) k (omega arith) in
                rw (power_by-even round x n more o, ← e) square
          ]

  pub bits_most : (x b k : ℕ) → x ≤ 2 ^ k → whole_log (power_by round x b) ≤ (b + 1) * k
  bits_most x zero k h =
      let l = whole_log_most (power_by round x 0) k (rw (power_by-one round x 0 (omega arith)) h) in
      omega arith
  bits_most x (suc b) k h =
      let l = whole_log_most (power_by round x (suc b)) (suc b * k) (power_most (suc b) x (suc b) k
      (le_refl _) (omega arith) h) in omega arith

  pub times_most : (ts : List UserTrade) (s : List ℕ) (g k : ℕ) → g ≤ 2 ^ k
      → AllByRecursion (λ (t : UserTrade). ratio_at t.ratio s < number_limit) ts
      → times_by round g ts s ≤ 2 ^ (k + 63 * length ts)
  times_most [] s g k h fit = let e : k + 63 * 0 ≡ k = omega arith in rw e h
  times_most (t ∷ ts) s g k h fit =
      let e : k + 63 * suc (length ts) ≡ k + 63 + 63 * length ts = omega arith in
      rw e (times_most ts s (round (g * ratio_at t.ratio s)) (k + 63)
      (bounded _ _ (rw (pow-add 2 k 63) (mul-le-mul h (le_of_lt fit.0)))) fit.1)
