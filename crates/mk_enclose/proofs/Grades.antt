-- Grades of sums, products and the lesser and the greater number.
use Rattle.std.proofs.Common.{◌≡◌, ℕ, suc, ◌+◌, ◌*◌, ◌^◌, ◌<◌, ◌≤◌, min, max, inl, inr, ◌⊎◌}
use Rattle.std.proofs.Common.{sym, ◌∙◌, ⊎_elim, arith}
use Rattle.std.proofs.lemmas.Bool.{cases_lt}
use Rattle.std.proofs.Math.Nat.{mul-le-mul_right, pow-suc}
use Rattle.mk_scaled.specs.Near.{IsNear, near_more, near_between}
use Rattle.mk_scaled.specs.Rounding.{IsGreatestBelow, IsLeastAbove}
use Rattle.mk_scaled.specs.inner.Closeness.{close_below, close_above, greatest_exact, least_exact, representable_whole}

-- Both ends are rounded to within one part in 2 ^ 62, which together is less than one step of the grade.
both_rounded : (a b x y p q : ℕ) → b * p ≤ a * q → a * 2 ^ 62 ≤ x * (2 ^ 62 + 1) → y * 2 ^ 62 ≤ b * (2 ^ 62 + 1) → y * (p * 2 ^ 60) ≤ x * (q * (2 ^ 60 + 1))
both_rounded a b x y p q h l k =
    let s : (y * 2 ^ 62) * p ≤ (b * (2 ^ 62 + 1)) * p = mul-le-mul_right p k in
    let t : (a * 2 ^ 62) * q ≤ (x * (2 ^ 62 + 1)) * q = mul-le-mul_right q l in
    omega arith

pub near_rounded : (a b x y g : ℕ) → 1 ≤ a → 1 ≤ b → IsNear a b g → IsGreatestBelow x a → IsLeastAbove y b → IsNear x y (g + 1)
near_rounded a b x y g p q h l k =
    let i : g + 1 ≡ suc g = omega arith in
    rw i (record {
      near = rw (pow-suc (2 ^ 60) g, pow-suc (2 ^ 60 + 1) g)
          (both_rounded a b x y ((2 ^ 60) ^ g) ((2 ^ 60 + 1) ^ g) h.near (close_below x a p l) (close_above y b q k));
    })

added : (a b c d p q : ℕ) → b * p ≤ a * q → d * p ≤ c * q → (b + d) * p ≤ (a + c) * q
added a b c d p q h l = omega arith

pub near_sum : (a b c d g h : ℕ) → IsNear a b g → IsNear c d h → IsNear (a + c) (b + d) (max g h)
near_sum a b c d g h l k =
    let i = near_more a b g (max g h) (omega arith) l in
    let j = near_more c d h (max g h) (omega arith) k in
    record { near = added a b c d ((2 ^ 60) ^ max g h) ((2 ^ 60 + 1) ^ max g h) i.near j.near }

-- what lies between the ends of one of two pairs is as near as both are
near_either : (a b c d x y g h : ℕ) → IsNear a b g → IsNear c d h
    → (a ≤ x) × (y ≤ b) ⊎ (c ≤ x) × (y ≤ d) → IsNear x y (max g h)
near_either a b c d x y g h l k =
    ⊎_elim
    (λ s. near_between a x y b (max g h) s.0 s.1 (near_more a b g (max g h) (omega arith) l))
    (λ s. near_between c x y d (max g h) s.0 s.1 (near_more c d h (max g h) (omega arith) k))

pub near_min : (a b c d g h : ℕ) → IsNear a b g → IsNear c d h
    → IsNear (min a c) (min b d) (max g h)
near_min a b c d g h l k = near_either a b c d (min a c) (min b d) g h l k
    (⊎_elim (λ s. inl (omega arith, omega arith)) (λ s. inr (omega arith, omega arith))
    (cases_lt a c))

pub near_max : (a b c d g h : ℕ) → IsNear a b g → IsNear c d h
    → IsNear (max a c) (max b d) (max g h)
near_max a b c d g h l k = near_either a b c d (max a c) (max b d) g h l k
    (⊎_elim (λ s. inr (omega arith, omega arith)) (λ s. inl (omega arith, omega arith))
    (cases_lt b d))

-- a whole number below 2 ^ 63 is not rounded at either end
pub both_exact : (a b x y : ℕ) → 1 ≤ a → a ≡ b → b < 2 ^ 63 → IsGreatestBelow x a → IsLeastAbove y b → x ≡ y
both_exact a b x y p e h l k =
    greatest_exact x a l (representable_whole a p (omega arith)) ∙ e ∙ sym (least_exact y b k (representable_whole b (omega arith) (omega arith)))
