-- The greater of two cells stands for the greater of their numbers.
use Rattle.std.proofs.Common.{◌≡◌, ℕ, suc, ◌+◌, ◌*◌, ◌^◌, ◌<◌, ◌≤◌, ◌⊎◌, inl, inr, max, subst, refl}
use Rattle.std.proofs.Common.{arith, ⊎_elim, le_trans}
use Rattle.std.proofs.lemmas.Bool.{cases_lt}
use Rattle.std.proofs.Math.Nat.{mul-le-mul_right}
use Rattle.mk_cell.specs.Cell.{bias, IsForm, IsLowerEnd, StandsAt}
use Rattle.mk_cell.specs.Passes.{plus_below}
use Rattle.mk_cell.proofs.LeastCells.{lesser_exponent}

-- cells are ordered as their ranks, also where one is absent
lesser_rank : (m a n b k : ℕ) → IsForm m a → IsForm n b → a * 2 ^ 64 + m ≤ b * 2 ^ 64 + n
    → m * 2 ^ (a + k) ≤ n * 2 ^ (b + k)
lesser_rank m a n b k f g l =
    ⊎_elim
    (λ (p : 0 < n).
    ⊎_elim
    (λ (r : a < b). let u = f.fits in lesser_exponent m (a + k) n (b + k) u (g.full p)
    (omega arith))
    (λ (r : b ≤ a).
    let u = g.fits in
    let w = f.fits in
    let i : b ≡ a = omega arith in
    rw i (mul-le-mul_right (2 ^ (a + k)) (omega arith)))
    (cases_lt a b))
    (λ (p : n ≤ 0).
    let e : b ≡ 0 = g.absent (omega arith) in
    let z : m ≡ 0 =
    ⊎_elim
    (λ (q : 0 < m). let u = f.full q in absurd (omega arith))
    (λ (q : m ≤ 0). let r : m ≡ 0 = omega arith in r)
    (cases_lt 0 m) in
    rw z (omega arith))
    (cases_lt 0 n)

-- a lower end that is not below another is one of the greater number
lower_greater : (low other v w whole n : ℕ) → other ≤ low → IsLowerEnd low v whole n
    → IsLowerEnd other w whole n → IsLowerEnd low (max v w) whole n
lower_greater low other v w whole n l a b = record {
  below = let x = a.below in omega arith;
  close = record { close = at (cases_lt v w) };
  same = λ small.
      let x : low ≡ v = a.same small in
      let y : other ≡ w = b.same (omega (arith, small, l)) in
      omega (arith, x, y, l);
}
  where
    at : (v < w) ⊎ (w ≤ v) → max v w * (2 ^ 63) ^ n ≤ low * (2 ^ 63 + 1) ^ n
    at (inl h) =
        let i : max v w ≡ w = omega arith in
        rw i (le_trans b.close.close (mul-le-mul_right ((2 ^ 63 + 1) ^ n) l))
    at (inr h) = let i : max v w ≡ v = omega arith in rw i a.close.close

max_scaled : (v w b : ℕ) → max (v * b) (w * b) ≡ max v w * b
max_scaled v w b =
    ⊎_elim
    (λ (l : v < w).
    let m : v * b ≤ w * b = mul-le-mul_right b (omega arith) in
    let i : max v w ≡ w = omega arith in
    rw i (omega arith))
    (λ (l : w ≤ v).
    let m : w * b ≤ v * b = mul-le-mul_right b l in
    let i : max v w ≡ v = omega arith in
    rw i (omega arith))
    (cases_lt v w)

-- the cell of the greater rank stands for the greater number
pub greater_stands : (k m a n b v w steps : ℕ) → b * 2 ^ 64 + n ≤ a * 2 ^ 64 + m
    → StandsAt k m a v steps → StandsAt k n b w steps → StandsAt k m a (max v w) steps
greater_stands k m a n b v w steps l x y = record {
  form = x.form;
  lower = subst (λ z. IsLowerEnd (m * 2 ^ (a + k)) z (2 ^ bias) steps) (max_scaled v w (2 ^ bias))
      (lower_greater (m * 2 ^ (a + k)) (n * 2 ^ (b + k)) (v * 2 ^ bias) (w * 2 ^ bias) (2 ^ bias)
      steps
      (lesser_rank n b m a k y.form x.form l) x.lower y.lower);
  size = let p = x.size in let q = y.size in omega arith;
}

-- the greatest of one number more
pub one_more : (c : ℕ) (f : ℕ → ℕ) → plus_below max (c + 1) f ≡ max (plus_below max c f) (f c)
one_more c f = let s : c + 1 ≡ suc c = omega arith in rw s refl
