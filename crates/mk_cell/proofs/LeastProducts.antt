-- The least product of cells.
use Rattle.std.proofs.Common.{◌≡◌, ℕ, suc, ◌+◌, ◌-◌, ◌*◌, ◌/◌, ◌%◌, ◌^◌, ◌<◌, ◌≤◌, inl, inr, min, sym, ap, ◌∙◌, arith, ⊎_elim, lt_of_le_of_lt, lt_of_lt_of_le}
use Rattle.std.proofs.lemmas.Bool.{cases_lt}
use Rattle.std.proofs.lemmas.Nat.{pow-add, pow_pos, mul-lt}
use Rattle.std.proofs.Math.Nat.{mul-le-mul, mul-le-mul_left, mul-le-mul_right, mul_assoc, pow-suc, zero-div}
use Rattle.mk_scaled.specs.Range.{two_to-mono, pow_le}
use Rattle.mk_cell.specs.Cell.{bias, IsCell, IsLowerEnd, IsRounded, StandsAt}
use Rattle.mk_cell.specs.inner.Laws.{stands_with_more}
use Rattle.mk_cell.specs.inner.LowerEnd.{lower_more, power_parts}
use Rattle.mk_cell.specs.Passes.{plus_below, plus_below-folded}
use Rattle.mk_cell.specs.Least.{least, IsLeastOf, IsNextTo}
use Rattle.mk_cell.specs.Products.{IsUnrounded, PairsStand}
use Rattle.mk_cell.proofs.Digits.{product_room}
use Rattle.mk_cell.proofs.Standing.{times_none, absent_stands, cut_product, size_of_product}
use Rattle.mk_cell.proofs.LeastOf.{Adds, lesser, lesser_at_most, lesser_none, lower_least, was_there}
use Rattle.mk_cell.proofs.LeastCells.{digits_there, power_there}
use Rattle.mk_cell.proofs.Floors.{lower_half_cut}
use Rattle.mk_cell.proofs.Summed.{floor_of}
use Rattle.mk_cell.proofs.SummedProducts.{full_product, there_at, pair_lower}

-- ---- one candidate

-- what is above the greatest number counts as that
pub adds_near : (e low far m x d : ℕ) → e ≤ 27 * 2 ^ 27 → low ≤ 27 * 2 ^ 27 → d ≡ (e + (4294967296 - low)) % 4294967296 → (d ≤ 1 → m * 2 ^ d ≤ far → x ≡ m * 2 ^ d) → (d ≤ 1 → far < m * 2 ^ d → x ≡ far) → (1 < d → x ≡ far) → Adds (IsNextTo low e) far (min far (m * 2 ^ (e - low))) x
adds_near e low far m x d h k i fits over beyond = record {
  here = λ a.
      let l = a.low in
      let u = a.high in
      let o : d ≡ e - low = omega arith in
      rw (← o) (capped (omega arith));
  elsewhere =
      ⊎_elim
      (λ (l : e < low). inr (let y = beyond (omega arith) in omega arith))
      (λ (l : low ≤ e).
      ⊎_elim
      (λ (o : low + 1 < e). inr (let y = beyond (omega arith) in omega arith))
      (λ (o : e ≤ low + 1). inl (record { low = l; high = o }))
      (cases_lt (low + 1) e))
      (cases_lt e low);
}
  where
    capped : d ≤ 1 → x ≡ min far (m * 2 ^ d)
    capped n =
        ⊎_elim
        (λ (l : far < m * 2 ^ d). let y = over n l in omega arith)
        (λ (l : m * 2 ^ d ≤ far). let y = fits n l in omega arith)
        (cases_lt far (m * 2 ^ d))

pub least_uncapped : (n : ℕ) (counts : ℕ → Type 0) (far : ℕ) (f : ℕ → ℕ) (value : ℕ) → IsLeastOf n counts far (λ c. min far (f c)) value → IsLeastOf n counts far f value
least_uncapped n counts far f value h = record {
  below = λ c l k. let b = h.below c l k in omega arith;
  attained = λ l. let q = h.attained l in (q.0, q.1, q.2, let s = q.3 in omega arith);
}

-- ---- the places of products

-- the places of products of cells, and the sums of their exponents
abbrev pub ArePlaces : ℕ → (ℕ → ℕ) → (ℕ → ℕ) → (ℕ → ℕ) → (ℕ → ℕ) → (ℕ → ℕ) → (ℕ → ℕ) → Type 0
ArePlaces n a e b d m x = (c : ℕ) → c < n → IsUnrounded (a c) (e c) (b c) (d c) (m c) (x c)

-- a product that is there has 63 digits among its places at least, and exponents that leave room
pub record IsPresent (m x : ℕ) : Type 0 where
  pub full : 2 ^ 62 ≤ m
  pub fits : m < 2 ^ 64
  pub low : 1879048192 ≤ x
  pub high : x ≤ 26 * 2 ^ 27

pub present : (l e r d m x : ℕ) → IsUnrounded l e r d m x → 0 < l * r → IsPresent m x
present l e r d m x u p =
    let i = u.places_are in
    let j = u.exponent_is in
    let f = full_product l e r d u.left_cell u.right_cell p in
    let w = product_room l e r d u.left_cell u.right_cell p in
    let y = w.0 in
    let z = w.1 in
    let t = product_fits l e r d u.left_cell u.right_cell in
    record { full = omega arith; fits = omega arith; low = omega arith; high = omega arith }
  where
    product_fits : (m e n d : ℕ) → IsCell m e → IsCell n d → m * n < 2 ^ 128
    product_fits m e n d a b = let x : m * n < 2 ^ 64 * 2 ^ 64 = mul-lt m n (2 ^ 64) (2 ^ 64) a.form.fits b.form.fits in omega arith

present_at : (l e r d m x : ℕ) → IsUnrounded l e r d m x → 1879048192 ≤ x → IsPresent m x
present_at l e r d m x u h =
    let j = u.exponent_is in
    present l e r d m x u (there_at l e r d u.left_cell u.right_cell (omega arith))

places_there : (l e r d m x : ℕ) → IsUnrounded l e r d m x → 0 < m → IsPresent m x
places_there l e r d m x u p =
    let i = u.places_are in
    present l e r d m x u
    (⊎_elim (λ (q : 0 < l * r). q) (λ (q : l * r ≤ 0). absurd (omega arith)) (cases_lt 0 (l * r)))

-- ---- no product

no_product_at : (l e r d m x : ℕ) → IsUnrounded l e r d m x → (1879048192 ≤ x → 4294967295 ≤ x) → l * r ≤ 0
no_product_at l e r d m x u h =
    ⊎_elim
    (λ (p : 0 < l * r). let w = present l e r d m x u p in let y = h w.low in let z = w.high in absurd (omega arith))
    (λ (p : l * r ≤ 0). p)
    (cases_lt 0 (l * r))

pub no_product_stands : (n : ℕ) (a e b d m x f g : ℕ → ℕ) (j k s t r low : ℕ) → ArePlaces n a e b d m x → PairsStand n a e b d j k f g s t → IsLeastOf n (λ c. 1879048192 ≤ x c) 4294967295 x low → low ≡ 4294967295 → StandsAt (j + k) 0 0 (plus_below least n (λ c. f c * g c)) r
no_product_stands n a e b d m x f g j k s t r low p h l z =
    absent_stands (j + k) (plus_below least n (λ c. f c * g c)) r
    (plus_below-folded least n (λ c. f c * g c)
    ∙ lesser_none n (λ c. f c * g c) (λ c o.
    times_none j k (a c) (e c) (b c) (d c) (f c) (g c) s t (h.left c o) (h.right c o)
    (no_product_at (a c) (e c) (b c) (d c) (m c) (x c) (p c o) (λ q. let y = l.below c o q in omega arith))))

-- ---- the least product

record IsFound (n : ℕ) (m x : ℕ → ℕ) (low value : ℕ) : Type 0 where
  place : ℕ
  within : place < n
  low_at : low ≤ x place
  same : m place * 2 ^ (x place - low) ≡ value
  there : 0 < m place
  full : 2 ^ 62 ≤ value
  below : value < 2 ^ 64

-- the product of the lowest exponent has a value that is small enough
some_place : (n : ℕ) (m x : ℕ → ℕ) (low value q : ℕ) → q < n → x q ≡ low → m q < 2 ^ 64
    → IsLeastOf n (λ c. IsNextTo low (x c)) 18446744073709551615 (λ c. m c * 2 ^ (x c - low)) value
    → (i : ℕ) × (i < n) × (low ≤ x i) × (m i * 2 ^ (x i - low) ≡ value) × (value ≤ 18446744073709551615)
some_place n m x low value q l i f v =
    let same : m q * 2 ^ (x q - low) ≡ m q = let z : x q - low ≡ 0 = omega arith in rw z (omega arith) in
    let b = v.below q l (record { low = omega arith; high = omega arith }) in
    ⊎_elim
    (λ (o : value < 18446744073709551615). let w = v.attained o in (w.0, w.1, let y = w.2 in y.low, w.3, omega arith))
    (λ (o : 18446744073709551615 ≤ value). (q, l, omega arith, omega arith, omega arith))
    (cases_lt value 18446744073709551615)

found : (n : ℕ) (a e b d m x : ℕ → ℕ) (low value : ℕ) → ArePlaces n a e b d m x → IsLeastOf n (λ c. 1879048192 ≤ x c) 4294967295 x low → low < 4294967295
    → IsLeastOf n (λ c. IsNextTo low (x c)) 18446744073709551615 (λ c. m c * 2 ^ (x c - low)) value → IsFound n m x low value
found n a e b d m x low value p l o v =
    let q = l.attained o in
    let i : x q.0 ≡ low = q.3 in
    let r : 1879048192 ≤ x q.0 = q.2 in
    let y = present_at (a q.0) (e q.0) (b q.0) (d q.0) (m q.0) (x q.0) (p q.0 q.1) r in
    let w = some_place n m x low value q.0 q.1 i y.fits v in
    let k : low ≤ x w.0 = w.2 in
    let t = present_at (a w.0) (e w.0) (b w.0) (d w.0) (m w.0) (x w.0) (p w.0 w.1) (omega arith) in
    let f = t.full in
    let g : m w.0 * 1 ≤ m w.0 * 2 ^ (x w.0 - low) = mul-le-mul_left (m w.0) (pow_pos (x w.0 - low)) in
    let s : m w.0 * 2 ^ (x w.0 - low) ≡ value = w.3 in
    let u : value ≤ 18446744073709551615 = w.4 in
    record {
      place = w.0;
      within = w.1;
      low_at = k;
      same = s;
      there = omega arith;
      full = omega arith;
      below = omega arith;
    }

-- places at an exponent, in units of a lower one
in_units : (m x low r : ℕ) → low ≤ x → m * 2 ^ (x + r) ≡ (m * 2 ^ (x - low)) * 2 ^ (low + r)
in_units m x low r h =
    let i : x + r ≡ (x - low) + (low + r) = omega arith in
    ap (λ y. m * 2 ^ y) i ∙ ap (λ y. m * y) (pow-add 2 (x - low) (low + r)) ∙ sym (mul_assoc m (2 ^ (x - low)) (2 ^ (low + r)))

-- places whose exponent is two more are greater
far_greater : (value m a b : ℕ) → value < 2 ^ 64 → 2 ^ 62 ≤ m → a + 1 < b → value * 2 ^ a ≤ m * 2 ^ b
far_greater value m a b h l o =
    let x : 2 ^ 62 * 2 ^ suc (suc a) ≤ m * 2 ^ b = mul-le-mul l (pow_le (suc (suc a)) b (omega arith)) in
    let y : 2 ^ suc (suc a) ≡ 2 ^ suc a * 2 = pow-suc 2 (suc a) in
    let z : 2 ^ suc a ≡ 2 ^ a * 2 = pow-suc 2 a in
    let w : value * 2 ^ a ≤ 2 ^ 64 * 2 ^ a = mul-le-mul_right (2 ^ a) (omega arith) in
    omega arith

found_first : (n : ℕ) (a e b d m x : ℕ → ℕ) (low value r : ℕ) → ArePlaces n a e b d m x → IsLeastOf n (λ c. 1879048192 ≤ x c) 4294967295 x low
    → IsLeastOf n (λ c. IsNextTo low (x c)) 18446744073709551615 (λ c. m c * 2 ^ (x c - low)) value → value < 2 ^ 64
    → (c : ℕ) → c < n → 0 < m c → value * 2 ^ (low + r) ≤ m c * 2 ^ (x c + r)
found_first n a e b d m x low value r p l v f c o q =
    let y = places_there (a c) (e c) (b c) (d c) (m c) (x c) (p c o) q in
    let low_at : low ≤ x c = l.below c o y.low in
    ⊎_elim
    (λ (k : low + 1 < x c). far_greater value (m c) (low + r) (x c + r) f y.full (omega arith))
    (λ (k : x c ≤ low + 1).
    let b' : value ≤ m c * 2 ^ (x c - low) = v.below c o (record { low = low_at; high = k }) in
    rw (in_units (m c) (x c) low r low_at) (mul-le-mul_right (2 ^ (low + r)) b'))
    (cases_lt (low + 1) (x c))

-- ---- the number that was found, and what stands

-- the places of a product are a lower end in two steps more
pub places_lower : (l e r d m x k v s : ℕ) → IsUnrounded l e r d m x
    → IsLowerEnd ((l * r) * 2 ^ (e + d + k)) (v * (2 ^ bias * 2 ^ bias)) (2 ^ bias * 2 ^ bias) s
    → IsLowerEnd (m * 2 ^ (x + (64 + k))) (v * (2 ^ bias * 2 ^ bias)) (2 ^ bias * 2 ^ bias) (s + 2)
places_lower l e r d m x k v s u h =
    ⊎_elim
    (λ (p : 0 < l * r).
    let y = present l e r d m x u p in
    let w : 2 ^ (bias + bias) ≡ 2 ^ bias * 2 ^ bias = pow-add 2 bias bias in
    let i : l * r / 2 ^ 64 ≡ m = sym u.places_are in
    let f = floor_of (l * r) 64 (e + d + k) (x + (64 + k)) (let j = u.exponent_is in omega arith) in
    lower_half_cut m (2 ^ (x + (64 + k))) (2 ^ bias * 2 ^ bias) s ((l * r) * 2 ^ (e + d + k)) v (pow_pos (x + (64 + k))) (mul-le-mul (pow_pos bias) (pow_pos bias)) y.full
    (rw (← w) (power_parts (x + (64 + k)) (bias + bias))) (rw i at f) h)
    (λ (p : l * r ≤ 0).
    let z : l * r ≡ 0 = omega arith in
    let i : m ≡ 0 = u.places_are ∙ ap (λ y. y / 2 ^ 64) z ∙ zero-div (2 ^ 64) in
    let j : (l * r) * 2 ^ (e + d + k) ≡ 0 = rw z (omega arith) in
    let o : m * 2 ^ (x + (64 + k)) ≡ 0 = rw i (omega arith) in
    rw o (lower_more 0 (v * (2 ^ bias * 2 ^ bias)) (2 ^ bias * 2 ^ bias) s (s + 2) (omega arith) (rw j at h)))
    (cases_lt 0 (l * r))

found_stands : (n : ℕ) (a e b d m x f g : ℕ → ℕ) (j k s t q y low value : ℕ) → ArePlaces n a e b d m x → PairsStand n a e b d j k f g s t → IsFound n m x low value
    → ((c : ℕ) → c < n → 0 < m c → value * 2 ^ (low + (64 + (j + k))) ≤ m c * 2 ^ (x c + (64 + (j + k))))
    → IsRounded q y (value * 2 ^ (low + 64)) → StandsAt (j + k) q y (lesser n (λ c. f c * g c)) (s + t + 3)
found_stands n a e b d m x f g j k s t q y low value p h w first r =
    let units : m w.place * 2 ^ (x w.place + (64 + (j + k))) ≡ value * 2 ^ (low + (64 + (j + k))) =
    in_units (m w.place) (x w.place) low (64 + (j + k)) w.low_at ∙ ap (λ z. z * 2 ^ (low + (64 + (j + k)))) w.same in
    let there = power_there (m w.place) (x w.place + (64 + (j + k))) w.there in
    let ends : (c : ℕ) → c < n → IsLowerEnd (m c * 2 ^ (x c + (64 + (j + k)))) ((f c * g c) * (2 ^ bias * 2 ^ bias)) (2 ^ bias * 2 ^ bias) (s + t + 2) =
    λ c o. places_lower (a c) (e c) (b c) (d c) (m c) (x c) (j + k) (f c * g c) (s + t) (p c o) (pair_lower n a e b d f g j k s t h c o) in
    let low_end = lower_least n w.place (2 ^ bias * 2 ^ bias) (s + t + 2) (λ c. m c * 2 ^ (x c + (64 + (j + k)))) (λ c. f c * g c) (mul-le-mul (pow_pos bias) (pow_pos bias)) w.within there
    (λ c o z. rw units (first c o (digits_there (m c) (x c + (64 + (j + k))) z))) ends in
    let is_there = was_there (m w.place * 2 ^ (x w.place + (64 + (j + k)))) (f w.place * g w.place) (2 ^ bias * 2 ^ bias) (s + t + 2) there (ends w.place w.within) in
    let at_most = lesser_at_most n w.place (λ c. f c * g c) w.within is_there in
    let left = h.left w.place w.within in
    let right = h.right w.place w.within in
    let size = size_of_product (f w.place) (g w.place) s t left.size right.size in
    let i : s + t + 3 ≡ s + t + 2 + 1 = omega arith in
    let full = w.full in
    let some : value * 1 ≤ value * 2 ^ (low + 64) = mul-le-mul_left value (pow_pos (low + 64)) in
    let number : value * 2 ^ (low + (64 + (j + k))) ≡ (value * 2 ^ (low + 64)) * 2 ^ (j + k) = shifted value low (j + k) in
    rw i (cut_product q y (j + k) (m w.place * 2 ^ (x w.place + (64 + (j + k)))) (value * 2 ^ (low + 64)) (lesser n (λ c. f c * g c)) (s + t + 2) r.form (r.cut (omega arith))
    (units ∙ number) low_end
    (lt_of_lt_of_le (lt_of_le_of_lt at_most.1 size) (two_to-mono (64 * (s + t + 2)) (64 * (s + t + 2 + 2)) (omega arith))))
  where
    shifted : (v a k : ℕ) → v * 2 ^ (a + (64 + k)) ≡ (v * 2 ^ (a + 64)) * 2 ^ k
    shifted v a k =
        let i : a + (64 + k) ≡ (a + 64) + k = omega arith in
        ap (λ y. v * 2 ^ y) i ∙ ap (λ y. v * y) (pow-add 2 (a + 64) k) ∙ sym (mul_assoc v (2 ^ (a + 64)) (2 ^ k))

pub least_product_stands : (n : ℕ) (a e b d m x f g : ℕ → ℕ) (j k s t q y low value : ℕ) → ArePlaces n a e b d m x → PairsStand n a e b d j k f g s t → IsLeastOf n (λ c. 1879048192 ≤ x c) 4294967295 x low → low < 4294967295
    → IsLeastOf n (λ c. IsNextTo low (x c)) 18446744073709551615 (λ c. m c * 2 ^ (x c - low)) value
    → IsRounded q y (value * 2 ^ (low + 64)) → StandsAt (j + k) q y (plus_below least n (λ c. f c * g c)) (s + t + 2 * n + 1)
least_product_stands n a e b d m x f g j k s t q y low value p h l o v r =
    let w = found n a e b d m x low value p l o v in
    let i = w.within in
    rw (plus_below-folded least n (λ c. f c * g c))
    (stands_with_more (j + k) q y (lesser n (λ c. f c * g c)) (s + t + 3) (s + t + 2 * n + 1) (omega arith)
    (found_stands n a e b d m x f g j k s t q y low value p h w (found_first n a e b d m x low value (64 + (j + k)) p l v w.below) r))
