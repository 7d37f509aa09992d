-- Maxima are lawful: 0 stands for Absent, and is neutral.
use Rattle.std.specs.Prelude.{◌≡◌, ℕ, ◌*◌, ◌<◌, ◌≤◌, max}
use Rattle.std.proofs.Common.{ap, ◌∙◌, ⊎_elim, arith}
use Rattle.std.proofs.lemmas.Bool.{cases_lt}
use Rattle.std.proofs.Math.Nat.{mul-le-mul_left}
use Rattle.mk_states.specs.Lawful.{Lawful}

times_max : (a b c : ℕ) → a * max b c ≡ max (a * b) (a * c)
times_max a b c =
    ⊎_elim
    (λ (l : b < c).
    let m : a * b ≤ a * c = mul-le-mul_left a (omega arith) in
    let i : max b c ≡ c = omega arith in
    ap (λ k. a * k) i ∙ omega arith)
    (λ (l : c ≤ b).
    let m : a * c ≤ a * b = mul-le-mul_left a l in
    let i : max b c ≡ b = omega arith in
    ap (λ k. a * k) i ∙ omega arith)
    (cases_lt b c)

pub greatest_lawful : Lawful max
greatest_lawful = record {
  commutes = λ a b. omega arith;
  associates = λ a b c. omega arith;
  neutral = λ a. omega arith;
  distributes = times_max;
  present = λ a b p. omega arith;
  bounded = λ a b. omega arith;
}
