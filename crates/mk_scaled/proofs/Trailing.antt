-- What is lost when digits are cut: something exactly where the lowest set digit lies below the cut.
use Rattle.std.proofs.Common.{◌≡◌, ℕ, zero, suc, ◌*◌, ◌/◌, ◌%◌, ◌^◌, ◌<◌, ◌≤◌, ap, ◌∙◌, ⊎_elim, arith, inl, inr, ◌⊎◌}
use Rattle.std.specs.Int.Count.{count_trailing_zeros}
use Rattle.std.proofs.lemmas.Bool.{cases_order}
use Rattle.std.proofs.Math.Nat.{div-one, div-mul-le_self, div-div-eq-div-mul}
use lib.Count.{under}
use Rattle.mk_scaled.specs.inner.UniqueForm.{two_pow-suc}

-- one digit more is cut
halved : (n s : ℕ) → n / 2 ^ suc s * 2 ^ suc s ≡ 2 * (n / 2 / 2 ^ s * 2 ^ s)
halved n s =
    let e : 2 ^ suc s ≡ 2 * 2 ^ s = two_pow-suc s in
    let q : n / 2 / 2 ^ s ≡ n / (2 * 2 ^ s) = div-div-eq-div-mul n 2 (2 ^ s) in
    rw (e, ← q) (omega arith)

uncut : (n : ℕ) → n / 2 ^ 0 * 2 ^ 0 ≡ n
uncut n = let q = div-one n in omega arith

under_even : (d c : ℕ) → d ≡ 0 → under d c ≡ suc c
under_even d c e = ap (λ y. under y c) e

under_odd : (d c : ℕ) → d ≡ 1 → under d c ≡ 0
under_odd d c e = ap (λ y. under y c) e

parity : (n : ℕ) → (n % 2 ≡ 0) ⊎ (n % 2 ≡ 1)
parity n = ⊎_elim (λ (e : n % 2 ≡ 0). inl e) (λ h. inr (⊎_elim (λ (l : n % 2 < 0). omega arith) (λ (l : 0 < n % 2). omega arith) h)) (cases_order (n % 2) 0)

pub trailing_kept : (k n s : ℕ) → s ≤ count_trailing_zeros k n → n / 2 ^ s * 2 ^ s ≡ n
unfolding count_trailing_zeros
trailing_kept k n zero h = uncut n
trailing_kept zero n (suc s) h = absurd (omega arith)
trailing_kept (suc k) n (suc s) h =
    ⊎_elim
    (λ (e : n % 2 ≡ 0).
    let u = under_even (n % 2) (count_trailing_zeros k (n / 2)) e in
    let i = trailing_kept k (n / 2) s (omega arith) in
    halved n s ∙ omega arith)
    (λ (e : n % 2 ≡ 1). let u = under_odd (n % 2) (count_trailing_zeros k (n / 2)) e in absurd (omega arith))
    (parity n)

pub trailing_lost : (k n s : ℕ) → s ≤ k → count_trailing_zeros k n < s → n / 2 ^ s * 2 ^ s < n
unfolding count_trailing_zeros
trailing_lost k n zero h l = absurd (omega arith)
trailing_lost zero n (suc s) h l = absurd (omega arith)
trailing_lost (suc k) n (suc s) h l =
    let g = halved n s in
    let m = div-mul-le_self n (2 ^ suc s) in
    ⊎_elim
    (λ (e : n % 2 ≡ 0).
    let u = under_even (n % 2) (count_trailing_zeros k (n / 2)) e in
    let i = trailing_lost k (n / 2) s (omega arith) (omega arith) in
    omega arith)
    (λ (e : n % 2 ≡ 1). omega arith)
    (parity n)
