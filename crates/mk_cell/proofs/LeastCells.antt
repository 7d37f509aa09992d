-- The least of cells.
use Rattle.std.proofs.Common.{◌≡◌, ℕ, zero, suc, ◌+◌, ◌*◌, ◌^◌, ◌<◌, ◌≤◌, ◌∙◌, arith, ⊎_elim, lt_of_le_of_lt}
use Rattle.std.proofs.lemmas.Bool.{cases_lt}
use Rattle.std.proofs.lemmas.Nat.{pow_pos}
use Rattle.std.proofs.Math.Nat.{mul-le-mul, mul-le-mul_left, mul-le-mul_right, pow-suc}
use Rattle.mk_scaled.specs.Range.{pow_le}
use Rattle.mk_cell.specs.Cell.{bias, IsCell, IsForm, StandsAt}
use Rattle.mk_cell.specs.Passes.{plus_below, plus_below-folded}
use Rattle.mk_cell.specs.Least.{least, IsLeastOf}
use Rattle.mk_cell.proofs.Standing.{no_digits, absent_stands}
use Rattle.mk_cell.proofs.LeastOf.{lesser, lesser_at_most, lesser_none, lower_least, was_there}

exponent_there : (m e : ℕ) → IsCell m e → 0 < m → 1 ≤ e
exponent_there m e h p = let l = h.low p in omega arith

no_digits_at : (m e : ℕ) → IsCell m e → (1 ≤ e → 4294967295 ≤ e) → m ≡ 0
no_digits_at m e h l =
    ⊎_elim
    (λ (p : 0 < m). let a = l (exponent_there m e h p) in let b = h.high in absurd (omega arith))
    (λ (p : m ≤ 0). let z : m ≡ 0 = omega arith in z)
    (cases_lt 0 m)

-- the number by which cells are ordered: the exponent first, and then the digits
abbrev pub ranks : (ℕ → ℕ) → (ℕ → ℕ) → ℕ → ℕ
ranks m e c = e c * 2 ^ 64 + m c

-- the least rank of the cells that are there
abbrev pub IsLeastRank : ℕ → (ℕ → ℕ) → (ℕ → ℕ) → ℕ → Type 0
IsLeastRank n m e rank = IsLeastOf n (λ c. 1 ≤ e c) (4294967295 * 2 ^ 64) (ranks m e) rank

pub no_cell_stands : (n : ℕ) (m e f : ℕ → ℕ) (k s rank : ℕ) → ((c : ℕ) → c < n → IsCell (m c) (e c)) → ((c : ℕ) → c < n → StandsAt k (m c) (e c) (f c) s) → IsLeastRank n m e rank → 4294967295 * 2 ^ 64 ≤ rank → StandsAt k 0 0 (plus_below least n f) s
no_cell_stands n m e f k s rank g h l z =
    absent_stands k (plus_below least n f) s
    (plus_below-folded least n f
    ∙ lesser_none n f (λ c o.
    no_digits k (m c) (e c) (f c) s (h c o)
    (no_digits_at (m c) (e c) (g c o) (λ p. let b = l.below c o p in let y = g c o in let u = y.form.fits in omega arith))))

-- full digits are ordered by their exponents first
pub lesser_exponent : (m a n b : ℕ) → m < 2 ^ 64 → 2 ^ 63 ≤ n → a < b → m * 2 ^ a ≤ n * 2 ^ b
lesser_exponent m a n b h f l =
    let x : m * 2 ^ a ≤ 2 ^ 64 * 2 ^ a = mul-le-mul_right (2 ^ a) (omega arith) in
    let y : 2 ^ 63 * 2 ^ suc a ≤ n * 2 ^ b = mul-le-mul f (pow_le (suc a) b l) in
    let z : 2 ^ suc a ≡ 2 ^ a * 2 = pow-suc 2 a in
    omega arith

-- the digits and exponents of cells that are there are ordered as their ranks
lesser_rank : (m a n b k : ℕ) → m < 2 ^ 64 → IsForm n b → 0 < n → a * 2 ^ 64 + m ≤ b * 2 ^ 64 + n → m * 2 ^ (a + k) ≤ n * 2 ^ (b + k)
lesser_rank m a n b k h g p l =
    ⊎_elim
    (λ (r : a < b). lesser_exponent m (a + k) n (b + k) h (g.full p) (omega arith))
    (λ (r : b ≤ a). let u = g.fits in let i : b ≡ a = omega arith in rw i (mul-le-mul_right (2 ^ (a + k)) (omega arith)))
    (cases_lt a b)

pub digits_there : (m a : ℕ) → 0 < m * 2 ^ a → 0 < m
digits_there zero a h = absurd (omega arith)
digits_there (suc m) a h = omega arith

pub power_there : (m a : ℕ) → 0 < m → 0 < m * 2 ^ a
power_there m a h = let x : m * 1 ≤ m * 2 ^ a = mul-le-mul_left m (pow_pos a) in omega arith

-- the record of what stands, from the cell at a place
stands_at : (n i k s : ℕ) (m e f : ℕ → ℕ) → i < n → 0 < m i → ((c : ℕ) → c < n → StandsAt k (m c) (e c) (f c) s) → ((c : ℕ) → c < n → 0 < m c → m i * 2 ^ (e i + k) ≤ m c * 2 ^ (e c + k)) → StandsAt k (m i) (e i) (lesser n f) s
stands_at n i k s m e f l p h first =
    let x = h i l in
    let q : 0 < m i * 2 ^ (e i + k) = power_there (m i) (e i + k) p in
    let low = lower_least n i (2 ^ bias) s (λ c. m c * 2 ^ (e c + k)) f (pow_pos bias) l q
    (λ c o r. first c o (digits_there (m c) (e c + k) r)) (λ c o. let y = h c o in y.lower) in
    let y = lesser_at_most n i f l (was_there (m i * 2 ^ (e i + k)) (f i) (2 ^ bias) s q x.lower) in
    record { form = x.form; lower = low; size = lt_of_le_of_lt y.1 x.size }

pub least_stands : (n : ℕ) (m e f : ℕ → ℕ) (k s q low rank : ℕ) → ((c : ℕ) → c < n → IsCell (m c) (e c)) → ((c : ℕ) → c < n → StandsAt k (m c) (e c) (f c) s) → IsLeastRank n m e rank → rank < 4294967295 * 2 ^ 64 → q < 2 ^ 64 → low * 2 ^ 64 + q ≡ rank → StandsAt k q low (plus_below least n f) s
least_stands n m e f k s q low rank g h l o b t =
    let w = l.attained o in
    let x = g w.0 w.1 in
    let u = x.form.fits in
    let there : 1 ≤ e w.0 = w.2 in
    let same : e w.0 * 2 ^ 64 + m w.0 ≡ rank = w.3 in
    let i : m w.0 ≡ q = omega arith in
    let j : e w.0 ≡ low = omega arith in
    let p : 0 < m w.0 = has_digits (m w.0) (e w.0) x there in
    let first : (c : ℕ) → c < n → 0 < m c → m w.0 * 2 ^ (e w.0 + k) ≤ m c * 2 ^ (e c + k) =
    λ c v d.
    let y = g c v in
    let below : rank ≤ e c * 2 ^ 64 + m c = l.below c v (exponent_there (m c) (e c) y d) in
    lesser_rank (m w.0) (e w.0) (m c) (e c) k u y.form d (omega arith) in
    let r = stands_at n w.0 k s m e f w.1 p h first in
    rw (plus_below-folded least n f) (rw (i, j) at r)
  where
    has_digits : (a b : ℕ) → IsCell a b → 1 ≤ b → 0 < a
    has_digits a b y z = ⊎_elim (λ (t : 0 < a). t) (λ (t : a ≤ 0). let u = y.form.absent (omega arith) in absurd (omega arith)) (cases_lt 0 a)
