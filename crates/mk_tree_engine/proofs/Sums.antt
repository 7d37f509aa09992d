-- Sums over some of the cliques.
use Rattle.std.proofs.Common.{◌≡◌, ℕ, suc, zero, ◌+◌, ◌-◌, ◌<◌, ◌≤◌, Bool, true, false, cond, not, ◌||◌, ◌⊎◌, inl, inr, eqb, refl, sym, ap, ◌∙◌, arith, eq-eqb, ne_eqb}
use Rattle.std.proofs.Math.Bool.{or-true, or-false}
use Rattle.std.proofs.lemmas.Bool.{cases_eq}
use Rattle.mk_sums.specs.Trees.{sum_of}

-- over sets that agree
pub sum_agree : (s t : ℕ → Bool) (m : ℕ) (w : ℕ → ℕ) → ((j : ℕ) → 1 ≤ j → j ≤ m → s j ≡ t j) → sum_of s m w ≡ sum_of t m w
sum_agree s t zero w h = refl
sum_agree s t (suc n) w h =
    let ih = sum_agree s t n w (λ j p q. h j p (omega arith)) in
    let e = ap {B = ℕ} (λ b. cond b (w (suc n)) 0) (h (suc n) (omega arith) (omega arith)) in
    omega (arith, ih, e)

-- of numbers that agree on the set
pub sum_same : (s : ℕ → Bool) (m : ℕ) (v w : ℕ → ℕ) → ((j : ℕ) → 1 ≤ j → j ≤ m → s j ≡ true → v j ≡ w j) → sum_of s m v ≡ sum_of s m w
sum_same s zero v w h = refl
sum_same s (suc n) v w h =
    let ih = sum_same s n v w (λ j p q. h j p (omega arith)) in
    let e = at (s (suc n)) (h (suc n) (omega arith) (omega arith)) in
    omega (arith, ih, e)
  where
    at : (b : Bool) → (b ≡ true → v (suc n) ≡ w (suc n)) → cond b (v (suc n)) 0 ≡ cond b (w (suc n)) 0
    at true k = k refl
    at false k = refl

-- of numbers that are 0 on the set
pub sum_zero : (s : ℕ → Bool) (m : ℕ) (w : ℕ → ℕ) → ((j : ℕ) → 1 ≤ j → j ≤ m → s j ≡ true → w j ≡ 0) → sum_of s m w ≡ 0
sum_zero s zero w h = refl
sum_zero s (suc n) w h =
    let ih = sum_zero s n w (λ j p q. h j p (omega arith)) in
    let e = at (s (suc n)) (h (suc n) (omega arith) (omega arith)) in
    omega (arith, ih, e)
  where
    at : (b : Bool) → (b ≡ true → w (suc n) ≡ 0) → cond b (w (suc n)) 0 ≡ 0
    at true k = k refl
    at false k = refl

-- over one clique more
pub sum_more : (s t : ℕ → Bool) (m k : ℕ) (w : ℕ → ℕ) → 1 ≤ k → k ≤ m → s k ≡ false → ((j : ℕ) → 1 ≤ j → j ≤ m → t j ≡ (s j || eqb j k)) → sum_of t m w ≡ sum_of s m w + w k
sum_more s t zero k w p q f h = absurd (omega arith)
sum_more s t (suc n) k w p q f h = at (cases_eq k (suc n)) (λ l. sum_more s t n k w p l f (λ j a b. h j a (omega arith)))
  where
    at : ((k ≡ suc n) ⊎ (k ≡ suc n → ⊥)) → (k ≤ n → sum_of t n w ≡ sum_of s n w + w k) → sum_of t n w + cond (t (suc n)) (w (suc n)) 0 ≡ sum_of s n w + cond (s (suc n)) (w (suc n)) 0 + w k
    at (inl e) ih =
        let lower = sum_agree t s n w (λ j a b. h j a (omega arith) ∙ ap (λ x. s j || x) (ne_eqb j k (λ g. omega arith)) ∙ or-false (s j)) in
        let top : t (suc n) ≡ true = h (suc n) (omega arith) (omega arith) ∙ ap (λ x. s (suc n) || x) (eq-eqb (suc n) k (sym e)) ∙ or-true (s (suc n)) in
        let x = ap {B = ℕ} (λ b. cond b (w (suc n)) 0) top in
        let y = ap {B = ℕ} (λ b. cond b (w (suc n)) 0) (sym (ap s e) ∙ f) in
        let z = ap w e in
        omega (arith, lower, x, y, z)
    at (inr d) ih =
        let lower = ih (omega (arith, d)) in
        let top : t (suc n) ≡ s (suc n) = h (suc n) (omega arith) (omega arith) ∙ ap (λ x. s (suc n) || x) (ne_eqb (suc n) k (λ g. d (sym g))) ∙ or-false (s (suc n)) in
        let x = ap {B = ℕ} (λ b. cond b (w (suc n)) 0) top in
        omega (arith, lower, x)

-- each number 0 where the sum is
pub zero_each : (s : ℕ → Bool) (m : ℕ) (w : ℕ → ℕ) → sum_of s m w ≡ 0 → (j : ℕ) → 1 ≤ j → j ≤ m → s j ≡ true → w j ≡ 0
zero_each s zero w h j p q e = absurd (omega arith)
zero_each s (suc n) w h j p q e = at (cases_eq j (suc n)) (λ z l. zero_each s n w z j p l e)
  where
    at : ((j ≡ suc n) ⊎ (j ≡ suc n → ⊥)) → (sum_of s n w ≡ 0 → j ≤ n → w j ≡ 0) → w j ≡ 0
    at (inl f) ih =
        let x = ap {B = ℕ} (λ b. cond b (w (suc n)) 0) (sym (ap s f) ∙ e) in
        let z = ap w f in
        omega (arith, h, x, z)
    at (inr d) ih = ih (omega (arith, h)) (omega (arith, d))

-- ones over the cliques but one
ones_below : (m c : ℕ) (w : ℕ → ℕ) → ((j : ℕ) → w j ≤ 1) → m < c → sum_of (λ k. not (eqb k c)) m w ≤ m
ones_below zero c w h l = omega arith
ones_below (suc n) c w h l = let ih = ones_below n c w h (omega arith) in let e = at (not (eqb (suc n) c)) in omega (arith, ih, e)
  where
    at : (b : Bool) → cond b (w (suc n)) 0 ≤ 1
    at true = h (suc n)
    at false = omega arith

pub ones_but : (m c : ℕ) (w : ℕ → ℕ) → ((j : ℕ) → w j ≤ 1) → 1 ≤ c → c ≤ m → sum_of (λ k. not (eqb k c)) m w ≤ m - 1
ones_but zero c w h p q = absurd (omega arith)
ones_but (suc n) c w h p q = at (cases_eq (suc n) c) (λ l. ones_but n c w h p l)
  where
    at_most : (b : Bool) → cond b (w (suc n)) 0 ≤ 1
    at_most true = h (suc n)
    at_most false = omega arith

    at : ((suc n ≡ c) ⊎ (suc n ≡ c → ⊥)) → (c ≤ n → sum_of (λ k. not (eqb k c)) n w ≤ n - 1) → sum_of (λ k. not (eqb k c)) n w + cond (not (eqb (suc n) c)) (w (suc n)) 0 ≤ suc n - 1
    at (inl e) ih =
        let x = ap {B = ℕ} (λ b. cond (not b) (w (suc n)) 0) (eq-eqb (suc n) c e) in
        let l = ones_below n c w h (omega arith) in
        omega (arith, x, l)
    at (inr d) ih = let l = ih (omega (arith, d)) in let e = at_most (not (eqb (suc n) c)) in omega (arith, l, e, d, p)
