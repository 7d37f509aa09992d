-- The greatest power of two that a number holds.
use Rattle.std.proofs.Common.{◌≡◌, ℕ, suc, ◌+◌, ◌*◌, ◌^◌, ◌<◌, ◌≤◌, ap, ◌∙◌, arith, le_refl}
use Rattle.std.proofs.lemmas.Nat.{pow-add, pow_pos}
use Rattle.std.proofs.Math.Nat.{mul-le-mul, mul_comm, mul-lt-mul_of_pos_right}
use Rattle.mk_scaled.specs.inner.UniqueForm.{two_pow-suc}

pub log_below : (m e j : ℕ) → 2 ^ j ≤ m → 2 ^ (e + j) ≤ m * 2 ^ e
log_below m e j h = rw (pow-add 2 e j, mul_comm (2 ^ e) (2 ^ j)) (mul-le-mul h (le_refl (2 ^ e)))

pub log_above : (m e j : ℕ) → m < 2 * 2 ^ j → m * 2 ^ e < 2 ^ (e + j + 1)
log_above m e j h =
    let s : e + j + 1 ≡ suc j + e = omega arith in
    let t : 2 ^ (e + j + 1) ≡ (2 * 2 ^ j) * 2 ^ e = ap (λ k. 2 ^ k) s ∙ pow-add 2 (suc j) e ∙ ap (λ y. y * 2 ^ e) (two_pow-suc j) in
    rw t (mul-lt-mul_of_pos_right h (pow_pos e))
