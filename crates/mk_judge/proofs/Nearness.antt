-- Two numbers whose enclosures overlap are near.
use Rattle.std.proofs.Common.{◌≡◌, ℕ, ◌+◌, ◌*◌, ◌^◌, ◌<◌, ◌≤◌, arith, le_refl}
use Rattle.std.proofs.Math.Nat.{mul-le-mul_left, mul-le-mul_right, mul_comm, le_of_mul-le-mul_right}
use Rattle.mk_scaled.specs.Near.{IsNear, near_trans, near_between, near_more}
use Rattle.mk_judge.specs.Compared.{AreNear}

-- one below, in a range whose upper end is not below the lower end of the other's
reaches : (lo hi lo' hi' a b g h : ℕ) → lo ≤ a → b ≤ hi' → lo' ≤ hi → IsNear lo hi g → IsNear lo' hi' h → IsNear a b (g + h)
reaches lo hi lo' hi' a b g h below above meet near near' =
    near_trans a hi b g h (near_between lo a hi hi g below (le_refl hi) near) (near_between lo' hi b hi' h meet above near')

pub overlap : (lo hi lo' hi' a b g h : ℕ) → lo ≤ a → a ≤ hi → lo' ≤ b → b ≤ hi' → IsNear lo hi g → IsNear lo' hi' h → lo' ≤ hi → lo ≤ hi' → AreNear a b (g + h)
overlap lo hi lo' hi' a b g h a_low a_high b_low b_high near near' up down =
    let turned : g + h ≡ h + g = omega arith in
    record {
      upward = reaches lo hi lo' hi' a b g h a_low b_high up near near';
      downward = rw turned (reaches lo' hi' lo hi b a h g b_low a_high down near' near);
    }

-- both multiplied
pub times_near : (k lo hi g : ℕ) → IsNear lo hi g → IsNear (lo * k) (hi * k) g
times_near k lo hi g near = record {
  near =
      let all : hi * (2 ^ 60) ^ g * k ≤ lo * (2 ^ 60 + 1) ^ g * k = mul-le-mul_right k near.near in
      omega (arith, all);
}

pub near_times : (k lo hi g : ℕ) → IsNear lo hi g → IsNear (k * lo) (k * hi) g
near_times k lo hi g near = rw (mul_comm k lo, mul_comm k hi) (times_near k lo hi g near)

-- what is near stays so where a common factor is taken away
pub near_cancel : (a b k n : ℕ) → 1 ≤ k → IsNear (a * k) (b * k) n → IsNear a b n
near_cancel a b k n some h = record {
  near = le_of_mul-le-mul_right {k = k} (let l = h.near in omega (arith, l)) some;
}

pub near_cancelled : (x y p q w k n : ℕ) → 1 ≤ k → p * k ≡ x * w → q * k ≡ y * w → IsNear x y n → IsNear p q n
near_cancelled x y p q w k n some p_is q_is h = near_cancel p q k n some (rw (p_is, q_is) (times_near w x y n h))

-- by more steps
pub more_steps : (a b i j : ℕ) → i ≤ j → AreNear a b i → AreNear a b j
more_steps a b i j le near = record { upward = near_more a b i j le near.upward; downward = near_more b a i j le near.downward }

-- so many units of an enclosed denominator, and an enclosed numerator in units
units_overlap : (lo hi lo' hi' num den units over k g h : ℕ) → lo ≤ num → num ≤ hi → lo' ≤ den → den ≤ hi' → IsNear lo hi g → IsNear lo' hi' h
    → lo * k ≤ units * (hi' * over) → units * (lo' * over) ≤ hi * k → AreNear (num * k) (units * (den * over)) (g + h)
units_overlap lo hi lo' hi' num den units over k g h ln nh ld dh near near' down up =
    overlap (lo * k) (hi * k) (units * (lo' * over)) (units * (hi' * over)) (num * k) (units * (den * over)) g h
    (mul-le-mul_right k ln) (mul-le-mul_right k nh) (mul-le-mul_left units (mul-le-mul_right over ld)) (mul-le-mul_left units (mul-le-mul_right over dh))
    (times_near k lo hi g near) (near_times units (lo' * over) (hi' * over) h (times_near over lo' hi' h near')) up down

pub near_above : (lo hi lo' hi' num den units over k g h : ℕ) → lo ≤ num → num ≤ hi → lo' ≤ den → den ≤ hi' → IsNear lo hi g → IsNear lo' hi' h
    → lo * k ≤ units * (hi' * over) → units * (lo' * over) < hi * k → AreNear (num * k) (units * (den * over)) (g + h)
near_above lo hi lo' hi' num den units over k g h ln nh ld dh near near' down up =
    units_overlap lo hi lo' hi' num den units over k g h ln nh ld dh near near' down (omega (arith, up))

pub near_below : (lo hi lo' hi' num den units over k g h : ℕ) → lo ≤ num → num ≤ hi → lo' ≤ den → den ≤ hi' → IsNear lo hi g → IsNear lo' hi' h
    → lo * k < units * (hi' * over) → units * (lo' * over) ≤ hi * k → AreNear (units * (den * over)) (num * k) (g + h)
near_below lo hi lo' hi' num den units over k g h ln nh ld dh near near' down up =
    let it = units_overlap lo hi lo' hi' num den units over k g h ln nh ld dh near near' (omega (arith, down)) up in
    record { upward = it.downward; downward = it.upward }

-- where both enclosures are exact, the ends do not disagree
pub not_both : (units over k lo hi lo' hi' : ℕ) → lo ≡ hi → lo' ≡ hi' → lo * k < units * (hi' * over) → units * (lo' * over) ≤ hi * k → ⊥
not_both units over k lo hi lo' hi' same same' past within =
    let a : units * (lo' * over) ≤ lo * k = rw same within in
    let b : lo * k < units * (lo' * over) = rw same' past in
    omega (arith, a, b)

pub not_either : (units over k lo hi lo' hi' : ℕ) → lo ≡ hi → lo' ≡ hi' → units * (lo' * over) < hi * k → lo * k ≤ units * (hi' * over) → ⊥
not_either units over k lo hi lo' hi' same same' past within =
    let a : units * (lo' * over) < lo * k = rw same past in
    let b : lo * k ≤ units * (lo' * over) = rw same' within in
    omega (arith, a, b)

-- the same numbers, written otherwise
pub near_same_as : (a b steps a' b' steps' : ℕ) → a ≡ a' → b ≡ b' → steps ≡ steps' → AreNear a b steps → AreNear a' b' steps'
near_same_as a b steps a' b' steps' same same' equal near = rw (← same, ← same', ← equal) near
