-- Sums of lower ends that are cut to parts of one size.
use Rattle.std.proofs.Common.{◌≡◌, ℕ, suc, ◌+◌, ◌*◌, ◌^◌, ◌<◌, ◌≤◌, sym, ◌∙◌, arith, le_trans, le_refl}
use Rattle.std.proofs.Math.Nat.{mul-le-mul_right}
use Rattle.mk_cell.specs.Cell.{IsClose, IsLowerEnd}
use Rattle.mk_cell.specs.inner.Close.{close_between, close_trans, close_scaled, close_loss, close_loss_half}
use Rattle.mk_cell.specs.inner.LowerEnd.{next_fits, whole_parts}
use Rattle.mk_cell.proofs.Added.{added, added_same, added_le, added-mul, added_part, added_close, added_loss, added_loss_but_one}

-- a lower end is t parts and less than one more
pub record IsFloor (t part low : ℕ) : Type 0 where
  pub lower : t * part ≤ low
  pub upper : low < (t + 1) * part

-- below 2 ^ 63 whole ones nothing is cut off
part_same : (t total g low v whole h s : ℕ) → 1 ≤ g → t ≤ total → whole ≡ h * g → total * g < 2 ^ 63 * whole → IsFloor t g low → IsLowerEnd low (v * whole) whole s → t * g ≡ v * whole
part_same t total g low v whole h s p l e k f b =
    let x : (total + 1) * g ≤ 2 ^ 63 * (h * g) = next_fits total h g (rw e at k) in
    let y : (t + 1) * g ≤ (total + 1) * g = mul-le-mul_right g (omega arith) in
    let u = f.upper in
    let z : (total + 1) * g ≤ 2 ^ 63 * whole = rw e x in
    let w : low < 2 ^ 63 * whole = omega arith in
    let i = b.same w in
    whole_parts t g v h low whole p e i f.lower u ∙ i

part_below : (total g whole : ℕ) → 2 ^ 62 ≤ total → 1 ≤ whole → total * g < 2 ^ 63 * whole → g < 2 * whole
part_below total g whole f p h = let m : 2 ^ 62 * g ≤ total * g = mul-le-mul_right g f in omega arith

sums_same : (n g whole s : ℕ) (low v t : ℕ → ℕ) → 1 ≤ g → 1 ≤ whole → 2 ^ 62 ≤ added n t → (g < 2 * whole → (h : ℕ) × (whole ≡ h * g))
    → ((c : ℕ) → c < n → IsFloor (t c) g (low c)) → ((c : ℕ) → c < n → IsLowerEnd (low c) (v c * whole) whole s)
    → added n t * g < 2 ^ 63 * whole → added n t * g ≡ added n v * whole
sums_same n g whole s low v t p q f d fl e l =
    let w = d (part_below (added n t) g whole f q l) in
    let each : (c : ℕ) → c < n → t c * g ≡ v c * whole =
    λ c k. part_same (t c) (added n t) g (low c) (v c) whole w.0 s p (added_part n c t k) w.1 l (fl c k) (e c k) in
    sym (added-mul n g t) ∙ added_same n (λ c. t c * g) (λ c. v c * whole) each ∙ added-mul n whole v

-- a sum of floors is a lower end of the sum, where what is lost beside it is counted
pub lower_added : (n g whole s m : ℕ) (low v t : ℕ → ℕ) → 1 ≤ g → 1 ≤ whole → 2 ^ 62 ≤ added n t → (g < 2 * whole → (h : ℕ) × (whole ≡ h * g))
    → ((c : ℕ) → c < n → IsFloor (t c) g (low c)) → ((c : ℕ) → c < n → IsLowerEnd (low c) (v c * whole) whole s)
    → IsClose (added n t * g) (added n low) m
    → IsLowerEnd (added n t * g) (added n v * whole) whole (m + s)
lower_added n g whole s m low v t p q f d fl e c =
    let floors : added n t * g ≤ added n low = rw (← added-mul n g t) (added_le n (λ c. t c * g) low (λ c k. let h = fl c k in h.lower)) in
    let ends : added n low ≤ added n v * whole = rw (← added-mul n whole v) (added_le n low (λ c. v c * whole) (λ c k. let h = e c k in h.below)) in
    let near : IsClose (added n low) (added n v * whole) s = rw (← added-mul n whole v) (added_close n s low (λ c. v c * whole) (λ c k. let h = e c k in h.close)) in
    record {
      below = le_trans floors ends;
      close = close_trans (added n t * g) (added n low) (added n v * whole) m s c near;
      same = sums_same n g whole s low v t p q f d fl e;
    }

upper_of : (n g : ℕ) (low t : ℕ → ℕ) → ((c : ℕ) → c < n → IsFloor (t c) g (low c)) → (c : ℕ) → c < n → low c ≤ (t c + 1) * g
upper_of n g low t fl c k = let h = fl c k in let u = h.upper in omega arith

-- the steps of a sum of which one term is whole
pub close_floors : (k g i : ℕ) (low t : ℕ → ℕ) → i < suc k → low i ≤ t i * g → 2 ^ 63 ≤ added (suc k) t → ((c : ℕ) → c < suc k → IsFloor (t c) g (low c)) → IsClose (added (suc k) t * g) (added (suc k) low) k
close_floors k g i low t p e f fl =
    let l : added (suc k) low + g ≤ (added (suc k) t + suc k) * g = added_loss_but_one (suc k) g i low t p e (upper_of (suc k) g low t fl) in
    let m : added (suc k) low ≤ (added (suc k) t + k) * g = omega arith in
    close_between (added (suc k) t * g) (added (suc k) t * g) (added (suc k) low) ((added (suc k) t + k) * g) k (le_refl _) m
    (close_scaled (added (suc k) t) (added (suc k) t + k) g k (close_loss (added (suc k) t) k f))

-- and of one whose greatest term has 63 digits
pub close_half_floors : (n g : ℕ) (low t : ℕ → ℕ) → 2 ^ 62 ≤ added n t → ((c : ℕ) → c < n → IsFloor (t c) g (low c)) → IsClose (added n t * g) (added n low) (2 * n)
close_half_floors n g low t f fl =
    let m : added n low ≤ (added n t + n) * g = added_loss n g low t (upper_of n g low t fl) in
    close_between (added n t * g) (added n t * g) (added n low) ((added n t + n) * g) (2 * n) (le_refl _) m
    (close_scaled (added n t) (added n t + n) g (2 * n) (close_loss_half (added n t) n f))

-- a lower end that is cut to 63 digits is one in two steps more
pub lower_half_cut : (t g whole s low v : ℕ) → 1 ≤ g → 1 ≤ whole → 2 ^ 62 ≤ t → (g < 2 * whole → (h : ℕ) × (whole ≡ h * g)) → IsFloor t g low → IsLowerEnd low (v * whole) whole s → IsLowerEnd (t * g) (v * whole) whole (s + 2)
lower_half_cut t g whole s low v p q f d fl h =
    let u = fl.upper in
    let lost : IsClose (t * g) low 2 = close_between (t * g) (t * g) low ((t + 1) * g) 2 (le_refl _) (omega arith) (close_scaled t (t + 1) g 2 (close_loss_half t 1 f)) in
    let i : s + 2 ≡ 2 + s = omega arith in
    record {
      below = le_trans fl.lower h.below;
      close = rw i (close_trans (t * g) low (v * whole) 2 s lost h.close);
      same = λ l. let w = d (part_below t g whole f q l) in part_same t t g low v whole w.0 s p (le_refl t) w.1 l fl h;
    }
