-- Sums over the numbers below a bound.
use Rattle.std.proofs.Common.{◌≡◌, ℕ, zero, suc, ◌+◌, ◌*◌, ◌<◌, ◌≤◌, sym, ap₂, ◌∙◌, arith, ⊎_elim}
use Rattle.std.proofs.lemmas.Bool.{cases_lt}
use Rattle.mk_scaled.specs.Range.{two_to, two_to_pos, two_to-suc, two_to-mono}
use Rattle.mk_cell.specs.Cell.{IsClose}
use Rattle.mk_cell.specs.inner.Close.{close-add, close_self}
use Rattle.mk_cell.specs.Passes.{folded, folded-zero, folded-suc, folded-next}

abbrev pub added : ℕ → (ℕ → ℕ) → ℕ
added n f = folded ◌+◌ 0 n f

none : (f : ℕ → ℕ) → added 0 f ≡ 0
none f = folded-zero ◌+◌ 0 f

more : (n : ℕ) (f : ℕ → ℕ) → added (suc n) f ≡ added n f + f n
more n f = folded-suc ◌+◌ 0 n f

pub added_same : (n : ℕ) (f g : ℕ → ℕ) → ((c : ℕ) → c < n → f c ≡ g c) → added n f ≡ added n g
added_same zero f g h = none f ∙ sym (none g)
added_same (suc n) f g h =
    more n f ∙ ap₂ (λ x y. x + y) (added_same n f g (λ c l. h c (omega arith))) (h n (omega arith)) ∙ sym (more n g)

pub added_le : (n : ℕ) (f g : ℕ → ℕ) → ((c : ℕ) → c < n → f c ≤ g c) → added n f ≤ added n g
added_le zero f g h = let i = none f in let j = none g in omega arith
added_le (suc n) f g h =
    let i = more n f in
    let j = more n g in
    let k = added_le n f g (λ c l. h c (omega arith)) in
    let l = h n (omega arith) in
    omega arith

pub added-mul : (n k : ℕ) (f : ℕ → ℕ) → added n (λ c. f c * k) ≡ added n f * k
added-mul zero k f = let i = none (λ c. f c * k) in let j = none f in i ∙ rw j (omega arith)
added-mul (suc n) k f =
    let i = more n (λ c. f c * k) in
    let j = more n f in
    let h = added-mul n k f in
    i ∙ rw (j, h) (omega arith)

pub added_part : (n i : ℕ) (f : ℕ → ℕ) → i < n → f i ≤ added n f
added_part zero i f h = absurd (omega arith)
added_part (suc n) i f h =
    let m = more n f in
    ⊎_elim
    (λ (l : i < n). let k = added_part n i f l in omega arith)
    (λ (l : n ≤ i). let e : i ≡ n = omega arith in rw e (omega arith))
    (cases_lt i n)

pub added_none : (n : ℕ) (f : ℕ → ℕ) → ((c : ℕ) → c < n → f c ≡ 0) → added n f ≡ 0
added_none zero f h = none f
added_none (suc n) f h =
    let i = more n f in
    let k = added_none n f (λ c l. h c (omega arith)) in
    let l = h n (omega arith) in
    omega arith

pub added_close : (n s : ℕ) (f g : ℕ → ℕ) → ((c : ℕ) → c < n → IsClose (f c) (g c) s) → IsClose (added n f) (added n g) s
added_close zero s f g h = rw (none f, none g) (close_self 0 s)
added_close (suc n) s f g h =
    rw (more n f, more n g) (close-add (added n f) (added n g) (f n) (g n) s (added_close n s f g (λ c l. h c (omega arith))) (h n (omega arith)))

-- what is lost where each term loses less than one part
pub added_loss : (n g : ℕ) (low t : ℕ → ℕ) → ((c : ℕ) → c < n → low c ≤ (t c + 1) * g) → added n low ≤ (added n t + n) * g
added_loss zero g low t h = let i = none low in omega arith
added_loss (suc n) g low t h =
    let i = more n low in
    let j = more n t in
    let k = added_loss n g low t (λ c l. h c (omega arith)) in
    let l = h n (omega arith) in
    rw j (omega arith)

-- and where one term loses nothing
pub added_loss_but_one : (n g i : ℕ) (low t : ℕ → ℕ) → i < n → low i ≤ t i * g → ((c : ℕ) → c < n → low c ≤ (t c + 1) * g) → added n low + g ≤ (added n t + n) * g
added_loss_but_one zero g i low t p e h = absurd (omega arith)
added_loss_but_one (suc n) g i low t p e h =
    let a = more n low in
    let b = more n t in
    ⊎_elim
    (λ (l : i < n).
    let k = added_loss_but_one n g i low t l e (λ c l. h c (omega arith)) in
    let m = h n (omega arith) in
    rw b (omega arith))
    (λ (l : n ≤ i).
    let s : i ≡ n = omega arith in
    let k = added_loss n g low t (λ c l. h c (omega arith)) in
    let m : low n ≤ t n * g = rw s at e in
    rw b (omega arith))
    (cases_lt i n)

-- the sum of numbers that fit
pub added_size : (n k : ℕ) (f : ℕ → ℕ) → ((c : ℕ) → c < n → f c < two_to (64 * (k + 1))) → added n f < two_to (64 * (k + n + 1))
added_size zero k f h = let i = none f in let p = two_to_pos (64 * (k + 0 + 1)) in omega arith
added_size (suc n) k f h =
    let i = more n f in
    let a = added_size n k f (λ c l. h c (omega arith)) in
    let b = h n (omega arith) in
    let x = two_to-mono (64 * (k + 1)) (64 * (k + n + 1)) (omega arith) in
    let y = two_to-suc (64 * (k + n + 1)) in
    let z = two_to-mono (suc (64 * (k + n + 1))) (64 * (k + suc n + 1)) (omega arith) in
    omega arith

pub added_next : (n t r : ℕ) (f : ℕ → ℕ) → t ≡ added n f → r ≡ f n → t + r ≡ added (n + 1) f
added_next n t r f h k = ap₂ (λ x y. x + y) h k ∙ sym (folded-next ◌+◌ 0 n f)
