-- A number of units against a floor and a ceiling.
use Rattle.std.proofs.Common.{◌≡◌, ℕ, ◌+◌, ◌*◌, ◌/◌, ◌^◌, ◌<◌, ◌≤◌, Bool, true, false, leb, MatchBool, refl, inl, inr, arith, le_trans, lt_of_lt_of_le}
use Rattle.std.specs.Int.{div_ceil}
use Rattle.std.proofs.lemmas.Bool.{leb-true, leb-false, cases_lt}
use Rattle.std.proofs.lemmas.Grind.{div_ceil_times}
use Rattle.std.proofs.Math.Nat.{mul-le-mul_right, lt_of_mul-lt-mul_right, div-mul-le_self, lt-div-mul-add}

-- what a test of an order says
pub test_says : (a b : ℕ) (P Q : Type 0) → (a ≤ b → P) → (b < a → Q) → MatchBool (leb a b) P Q
test_says a b P Q within past = at (leb a b) refl
  where
    at : (test : Bool) → leb a b ≡ test → MatchBool test P Q
    at true e = within (leb-true a b e)
    at false e = past (let more = leb-false a b e in omega (arith, more))

pub floor_reaches : (units n d floor : ℕ) → 1 ≤ d → n / d ≡ floor → MatchBool (leb units floor) (units * d ≤ n) (n < units * d)
floor_reaches units n d floor some is = test_says units floor _ _
    (λ within. le_trans (mul-le-mul_right d within) (rw (← is) (div-mul-le_self n d)))
    (λ past.
    let next : n < n / d * d + d = lt-div-mul-add some in
    let whole : (floor + 1) * d ≤ units * d = mul-le-mul_right d (omega (arith, past)) in
    lt_of_lt_of_le (rw (← is) (let s : (n / d + 1) * d ≡ n / d * d + d = omega arith in rw s next)) whole)

pub ceiling_covers : (units n d ceiling : ℕ) → 1 ≤ d → div_ceil n d ≡ ceiling → MatchBool (leb ceiling units) (n ≤ units * d) (units * d < n)
ceiling_covers units n d ceiling some is = test_says ceiling units _ _
    (λ within. le_trans (rw is at (div_ceil_times n d some).0) (mul-le-mul_right d within))
    (λ past.
    let near : ceiling * d < n + d = rw is at (div_ceil_times n d some).1 in
    let more : (units + 1) * d ≤ ceiling * d = mul-le-mul_right d (omega (arith, past)) in
    omega (arith, near, more))

-- a ceiling of 2 ^ 63 or more is above all units
pub past_ceiling : (units n d : ℕ) → 1 ≤ d → units < 2 ^ 63 → (div_ceil n d < 2 ^ 63 → ⊥) → units * d < n
past_ceiling units n d some few many = elim (cases_lt (units * d) n) [
  | inl less ↦ less
  | inr more ↦ absurd (many (within (div_ceil n d) (div_ceil_times n d some).1 more))
]
  where
    within : (ceiling : ℕ) → ceiling * d < n + d → n ≤ units * d → ceiling < 2 ^ 63
    within ceiling near more =
        let l : ceiling < units + 1 = lt_of_mul-lt-mul_right d (omega arith) in
        omega arith
