-- Judgements of bits by their comparisons.
use Rattle.std.proofs.Common.{ℕ, ◌≡◌, ◌*◌, ◌^◌, ◌<◌, ◌≤◌, ◌⊎◌, inl, inr, arith}
use Rattle.std.proofs.Math.Nat.{pow-zero}
use Rattle.mk_judge.specs.declared.comparing.Compared.{Compared}
use Rattle.mk_judge.specs.declared.judged.Judged.{Judged}
use Rattle.mk_judge.specs.Compared.{Says, where_at_most, where_above}
use Rattle.mk_judge.specs.Judged.{Judges, both}
use Rattle.mk_judge.proofs.Judging.{judges_at_most, judges_above, judges_both, judges_as, says_as}

-- a comparison of bits with nothing beside the factor
pub covered_says : (c : Compared) (bits w z : ℕ) (M N : Type 0) → (M → N) → Says c (1 * 2 ^ bits * w) (z * 2 ^ 0) M → Judges (where_at_most c) (2 ^ bits * w ≤ z) N
covered_says c bits w z M N known says = judges_at_most c (2 ^ bits * w) z N (says_as c (1 * 2 ^ bits * w) (z * 2 ^ 0) (2 ^ bits * w) z M N (omega arith) (let n : 2 ^ 0 ≡ 1 = pow-zero 2 in rw n (omega arith)) known says)

pub past_says : (c : Compared) (bits w z : ℕ) (M N : Type 0) → (M → N) → Says c (1 * 2 ^ bits * w) (z * 2 ^ 0) M → Judges (where_above c) (z < 2 ^ bits * w) N
past_says c bits w z M N known says = judges_above c (2 ^ bits * w) z N (says_as c (1 * 2 ^ bits * w) (z * 2 ^ 0) (2 ^ bits * w) z M N (omega arith) (let n : 2 ^ 0 ≡ 1 = pow-zero 2 in rw n (omega arith)) known says)

-- of one statement that is known to be one of two
pub judges_pair : (j k : Judged) (P Q N : Type 0) → Judges j P N → Judges k Q N → Judges (both j k) (P × Q) N
judges_pair j k P Q N p q = judges_as (both j k) (P × Q) (P × Q) (N ⊎ N) N (λ x. x) (λ x. x) either (judges_both j k P Q N N p q)
  where
    either : N ⊎ N → N
    either (inl n) = n
    either (inr n) = n
