-- The greatest of some numbers.
use Rattle.std.proofs.Common.{◌≡◌, ℕ, zero, suc, ◌+◌, ◌<◌, ◌≤◌, max, sym, ap, ap₂, ◌∙◌, arith, ⊎_elim}
use Rattle.std.proofs.lemmas.Bool.{cases_lt}
use Rattle.mk_cell.specs.Passes.{folded, folded-zero, folded-suc, folded-next}

pub greatest_is : (n c : ℕ) (f : ℕ → ℕ) → c < n → f c ≤ folded max 0 n f
greatest_is zero c f h = absurd (omega arith)
greatest_is (suc n) c f h =
    let s = folded-suc max 0 n f in
    ⊎_elim
    (λ (l : c < n). let k = greatest_is n c f l in omega arith)
    (λ (l : n ≤ c). let e : c ≡ n = omega arith in rw e (omega arith))
    (cases_lt c n)

pub record IsAt (n : ℕ) (f : ℕ → ℕ) (value : ℕ) : Type 0 where
  pub place : ℕ
  pub within : place < n
  pub same : f place ≡ value

pub greatest_at : (n : ℕ) (f : ℕ → ℕ) → 0 < folded max 0 n f → IsAt n f (folded max 0 n f)
greatest_at zero f h = let z = folded-zero max 0 f in absurd (omega arith)
greatest_at (suc n) f h =
    let s = folded-suc max 0 n f in
    ⊎_elim
    (λ (l : f n < folded max 0 n f).
    let k = greatest_at n f (omega arith) in
    let e = k.same in
    record { place = k.place; within = let w = k.within in omega arith; same = omega arith })
    (λ (l : folded max 0 n f ≤ f n). record { place = n; within = omega arith; same = omega arith })
    (cases_lt (f n) (folded max 0 n f))

pub greatest_at_most : (n b : ℕ) (f : ℕ → ℕ) → ((c : ℕ) → c < n → f c ≤ b) → folded max 0 n f ≤ b
greatest_at_most zero b f h = let z = folded-zero max 0 f in omega arith
greatest_at_most (suc n) b f h =
    let s = folded-suc max 0 n f in
    let k = greatest_at_most n b f (λ c l. h c (omega arith)) in
    let l = h n (omega arith) in
    omega arith

pub greatest_same : (n : ℕ) (f g : ℕ → ℕ) → ((c : ℕ) → c < n → f c ≡ g c) → folded max 0 n f ≡ folded max 0 n g
greatest_same zero f g h = folded-zero max 0 f ∙ sym (folded-zero max 0 g)
greatest_same (suc n) f g h =
    folded-suc max 0 n f ∙ ap₂ (λ x y. max x y) (greatest_same n f g (λ c l. h c (omega arith))) (h n (omega arith)) ∙ sym (folded-suc max 0 n g)

pub greatest_next : (n t r : ℕ) (f : ℕ → ℕ) → t ≡ folded max 0 n f → r ≡ max t (f n) → r ≡ folded max 0 (n + 1) f
greatest_next n t r f h k = k ∙ ap (λ x. max x (f n)) h ∙ sym (folded-next max 0 n f)
