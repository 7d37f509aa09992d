-- Cells of 1, and their plus.
use Rattle.std.proofs.Common.{◌≡◌, ℕ, zero, suc, ◌+◌, ◌*◌, ◌^◌, ◌<◌, ◌≤◌, ◌⊎◌, inl, inr, List, length, replicate, get_or, take, drop, slice_index, slice_set, All, refl, sym, ap, subst, ◌∙◌, arith, length-take-le, length-drop, get_or-set_same, get_or-set_other}
use Rattle.std.proofs.Math.ListN.{length-set}
use Rattle.std.proofs.Math.Nat.{mul_assoc}
use Rattle.std.proofs.lemmas.Bool.{cases_eq}
use Rattle.std.proofs.lemmas.Nat.{pow-add, pow_pos}
use Rattle.std.proofs.lemmas.List.{length-replicate, get_or-replicate, length-take, get_or-take}
use Rattle.mk_states.specs.Lawful.{Lawful}
use Rattle.mk_states.specs.States.{plus_over}
use Rattle.mk_cell.specs.Cell.{bias, bias-is, IsForm, IsCell, IsRounded, StandsAt, AllStand, AreCells}
use Rattle.mk_cell.specs.Passes.{plus_below}
use Rattle.mk_cell.proofs.Standing.{exact_stands, times_stands}
use Rattle.mk_passes.specs.Blank.{one_digits, one_exponent, one_digits-is, one_exponent-is, filled}
use Rattle.mk_passes.specs.Parts.{IsTimesCell, StandListed, block_of}
use Rattle.mk_passes.proofs.Blocked.{gathered_all}
use Rattle.mk_passes.proofs.Filled.{one_at}

-- ---- the cell of 1

one_form : IsForm one_digits one_exponent
one_form = record { absent = λ h. absurd (omega (arith, one_digits-is, h)); full = λ h. omega (arith, one_digits-is); fits = omega (arith, one_digits-is) }

pub one_cell : IsCell one_digits one_exponent
one_cell = record { form = one_form; low = λ h. omega (arith, one_exponent-is); high = omega (arith, one_exponent-is) }

-- its digits are a power of two, with which its exponent makes the bias
places_of_one : one_exponent + 63 ≡ bias
places_of_one = omega (arith, one_exponent-is, bias-is)

one_power : (e : ℕ) → one_digits * 2 ^ (one_exponent + e) ≡ 2 ^ (bias + e)
one_power e =
    let i : 63 + (one_exponent + e) ≡ bias + e = omega (arith, places_of_one) in
    ap (λ y. y * 2 ^ (one_exponent + e)) (one_digits-is) ∙ sym (pow-add 2 63 (one_exponent + e)) ∙ ap (λ y. 2 ^ y) i

pub one_stands : StandsAt 0 one_digits one_exponent 1 0
one_stands =
    let i : 2 ^ (bias + 0) ≡ 1 * 2 ^ bias = (let z : bias + 0 ≡ bias = omega arith in ap (λ y. 2 ^ y) z) ∙ omega arith in
    exact_stands 0 one_digits one_exponent 1 one_form (one_power 0 ∙ i) (omega arith)

-- a cell times the cell of 1 is the cell itself
one_product : (d e : ℕ) → (d * one_digits) * 2 ^ (e + one_exponent) ≡ d * 2 ^ (e + bias)
one_product d e =
    let i : e + one_exponent ≡ one_exponent + e = omega arith in
    let j : bias + e ≡ e + bias = omega arith in
    mul_assoc d one_digits (2 ^ (e + one_exponent)) ∙ ap (λ y. d * y) (ap (λ y. one_digits * 2 ^ y) i ∙ one_power e ∙ ap (λ y. 2 ^ y) j)

none_from : (d p : ℕ) → 1 ≤ p → d * p ≡ 0 → d ≡ 0
none_from zero p h l = refl
none_from (suc d) p h l = absurd (let m : suc d * p ≡ p + d * p = omega arith in omega (arith, h, l, m))

some_from : (d p : ℕ) → 0 < d * p → 0 < d
some_from zero p h = let z : 0 * p ≡ 0 = omega arith in absurd (omega (arith, h, z))
some_from (suc d) p h = omega arith

rounded_whole : (d e p v : ℕ) → IsForm d e → p ≡ 2 ^ (e + bias) → 1 ≤ p → v ≡ d * p → IsRounded d e v
rounded_whole d e p v f h l i = record {
  form = f;
  none = λ z. none_from d p l (sym i ∙ z);
  cut = λ s. record {
    full = f.full (some_from d p (subst (λ y. 0 < y) i s));
    fits = f.fits;
    lower = subst (λ y. d * y ≤ v) h (omega (arith, i));
    upper = subst (λ y. v < (d + 1) * y) h (omega (arith, i, l));
  };
}

one_rounded : (d e : ℕ) → IsForm d e → IsRounded d e ((d * one_digits) * 2 ^ (e + one_exponent))
one_rounded d e f = rounded_whole d e (2 ^ (e + bias)) _ f refl (pow_pos (e + bias)) (one_product d e)

pub times_one : (d e : ℕ) → IsForm d e → IsTimesCell d e one_digits one_exponent d e
times_one d e f = record { times = λ k w p h. record { stands = λ j v n s. times_stands j k d e one_digits one_exponent d e v w n p s h (one_rounded d e f) } }

-- ---- the same cell in each place

module _ (count m q x : ℕ) (few : count ≤ m) where
  pub first_long : (y : ℕ) → length (take count (replicate m y)) ≡ count
  first_long y = length-take-le count (replicate m y) (let l = length-replicate m y in omega (arith, l, few))

  at_first : (y i : ℕ) → i < count → slice_index (take count (replicate m y)) i ≡ y
  at_first y i l = get_or-take count (replicate m y) i 0 l ∙ get_or-replicate m i y 0 (omega (arith, l, few))

  pub first_stand : (k : ℕ) (f : ℕ → ℕ) (n : ℕ) → ((i : ℕ) → i < count → StandsAt k q x (f i) n) → AllStand k (take count (replicate m q)) (take count (replicate m x)) f n
  first_stand k f n h = record {
    each = λ i l.
        let p : i < count = let s = first_long q in omega (arith, l, s) in
        subst (λ y. StandsAt k y (slice_index (take count (replicate m x)) i) (f i) n) (sym (at_first q i p)) (subst (λ y. StandsAt k q y (f i) n) (sym (at_first x i p)) (h i p));
  }

  pub first_cells : IsCell q x → AreCells (take count (replicate m q)) (take count (replicate m x))
  first_cells h = record {
    same_length = first_long x ∙ sym (first_long q);
    each = λ i l.
        let p : i < count = let s = first_long q in omega (arith, l, s) in
        subst (λ y. IsCell y (slice_index (take count (replicate m x)) i)) (sym (at_first q i p)) (subst (λ y. IsCell q y) (sym (at_first x i p)) h);
  }

-- the same cell in each place, and then another
module _ (blocks m q x r s : ℕ) (few : blocks + 1 ≤ m) where
  pub last_long : (y z : ℕ) → length (take (blocks + 1) (slice_set (replicate m y) blocks z)) ≡ blocks + 1
  last_long y z = length-take-le (blocks + 1) (slice_set (replicate m y) blocks z) (let l = length-replicate m y in let t = length-set (replicate m y) blocks z in omega (arith, l, t, few))

  pub set_long : (y z : ℕ) → blocks + 1 ≤ length (slice_set (replicate m y) blocks z)
  set_long y z = let l = length-replicate m y in let t = length-set (replicate m y) blocks z in omega (arith, l, t, few)

  before_last : (y z i : ℕ) → i < blocks → slice_index (take (blocks + 1) (slice_set (replicate m y) blocks z)) i ≡ y
  before_last y z i l =
      get_or-take (blocks + 1) (slice_set (replicate m y) blocks z) i 0 (omega (arith, l)) ∙ get_or-set_other (replicate m y) blocks i z 0 (λ e. omega (arith, l, e)) ∙ get_or-replicate m i y 0 (omega (arith, l, few))

  at_last : (y z : ℕ) → slice_index (take (blocks + 1) (slice_set (replicate m y) blocks z)) blocks ≡ z
  at_last y z =
      get_or-take (blocks + 1) (slice_set (replicate m y) blocks z) blocks 0 (omega arith) ∙ get_or-set_same (replicate m y) blocks z 0 (let l = length-replicate m y in omega (arith, l, few))

  pub each_with_last : (S : ℕ → ℕ → ℕ → Type 0) → ((b : ℕ) → b < blocks → S b q x) → S blocks r s → (i : ℕ) → i < blocks + 1
      → S i (slice_index (take (blocks + 1) (slice_set (replicate m q) blocks r)) i) (slice_index (take (blocks + 1) (slice_set (replicate m x) blocks s)) i)
  each_with_last S h t i l = at (cases_eq i blocks)
    where
      at : ((i ≡ blocks) ⊎ (i ≡ blocks → ⊥)) → S i (slice_index (take (blocks + 1) (slice_set (replicate m q) blocks r)) i) (slice_index (take (blocks + 1) (slice_set (replicate m x) blocks s)) i)
      at (inl e) =
          subst (λ j. S j (slice_index (take (blocks + 1) (slice_set (replicate m q) blocks r)) j) (slice_index (take (blocks + 1) (slice_set (replicate m x) blocks s)) j)) (sym e)
          (subst (λ y. S blocks y (slice_index (take (blocks + 1) (slice_set (replicate m x) blocks s)) blocks)) (sym (at_last q r)) (subst (λ y. S blocks r y) (sym (at_last x s)) t))
      at (inr e) =
          let p : i < blocks = omega (arith, l, e) in
          subst (λ y. S i y (slice_index (take (blocks + 1) (slice_set (replicate m x) blocks s)) i)) (sym (before_last q r i p)) (subst (λ y. S i q y) (sym (before_last x s i p)) (h i p))

  pub last_stand : (k : ℕ) (f : ℕ → ℕ) (n : ℕ) → ((b : ℕ) → b < blocks → StandsAt k q x (f b) n) → StandsAt k r s (f blocks) n
      → AllStand k (take (blocks + 1) (slice_set (replicate m q) blocks r)) (take (blocks + 1) (slice_set (replicate m x) blocks s)) f n
  last_stand k f n h t = record { each = λ i l. each_with_last (λ b y z. StandsAt k y z (f b) n) h t i (let e = last_long q r in omega (arith, l, e)) }

  pub last_cells : IsCell q x → IsCell r s → AreCells (take (blocks + 1) (slice_set (replicate m q) blocks r)) (take (blocks + 1) (slice_set (replicate m x) blocks s))
  last_cells h t = record {
    same_length = last_long x s ∙ sym (last_long q r);
    each = λ i l. each_with_last (λ b y z. IsCell y z) (λ b p. h) t i (let e = last_long q r in omega (arith, l, e));
  }

-- ---- of blank arrays

pub ones_listed : (k cells : ℕ) (d e : List ℕ) → length d ≡ 0 → length e ≡ 0 → (f : ℕ → ℕ) (n base : ℕ) (offsets : List ℕ) → All (λ c. base + c < cells) offsets
    → StandListed k (filled one_digits cells d) (filled one_exponent cells e) f n base offsets → All (λ c. StandsAt k one_digits one_exponent (f (base + c)) n) offsets
ones_listed k cells d e h t f n base offsets within a = λ i z l.
    let c = base + get_or offsets i z in
    subst (λ y. StandsAt k y one_exponent (f c) n) (one_at one_digits cells c d h (within i z l))
    (subst (λ y. StandsAt k (slice_index (filled one_digits cells d) c) y (f c) n) (one_at one_exponent cells c e t (within i z l)) (a.listed i z l))

pub few_ones : (plus : ℕ → ℕ → ℕ) → Lawful plus → (xs : List ℕ) (count long k q x : ℕ) (f : ℕ → ℕ) (n : ℕ) → long ≡ count → length xs ≡ count
    → StandsAt k q x (plus_below plus long (λ i. f (slice_index xs i))) (n + long) → StandsAt k q x (plus_over plus 0 f xs) (n + count)
few_ones plus law xs count long k q x f n h l a =
    subst (λ v. StandsAt k q x v (n + count)) (gathered_all plus law f xs)
    (subst (λ m. StandsAt k q x (plus_below plus m (λ i. f (slice_index xs i))) (n + count)) (sym l) (subst (λ m. StandsAt k q x (plus_below plus m (λ i. f (slice_index xs i))) (n + m)) h a))

pub block_long : (xs : List ℕ) (b : ℕ) → b * 64 + 64 ≤ length xs → length (block_of xs b) ≡ 64
block_long xs b h = let a = length-take 64 (drop (b * 64) xs) in let d = length-drop (b * 64) xs in omega (arith, a, d, h)

pub last_block_long : (xs : List ℕ) (b rest : ℕ) → length xs ≡ b * 64 + rest → rest < 64 → length (block_of xs b) ≡ rest
last_block_long xs b rest h l = let a = length-take 64 (drop (b * 64) xs) in let d = length-drop (b * 64) xs in omega (arith, a, d, h, l)
