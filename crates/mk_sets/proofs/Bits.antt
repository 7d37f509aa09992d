-- Sets of variables by their bits.
use Rattle.std.specs.Prelude.{◌≡◌, ◌≢◌, ℕ, zero, suc, ◌+◌, ◌-◌, ◌*◌, ◌%◌, ◌^◌, ◌<◌, ◌≤◌, min, max, Bool, true, false, not, ◌&&◌, ◌||◌, ◌==◌, nat_lt, bit_and, bit_or}
use Rattle.std.specs.Int.{bit_at, bit_not, trailing_zeros, w128}
use Rattle.std.proofs.Common.{refl, sym, ap, ◌∙◌, arith}
use Rattle.std.proofs.lemmas.Bool.{eqb-true, eq-eqb, ltb-true, ltb-false}
use Rattle.std.proofs.lemmas.Nat.Bits.{bit_at_and, bit_at_or, bit_at_not, bit_at-trailing_zeros, bit_at-lt, bit_at-zero, same_from_bits}
use Rattle.mk_sets.specs.declared.sets.VarSet.TheInside.{Inside}
use Rattle.mk_sets.specs.inner.KeptSets.{has_bit, is_kept, no_bit, no_bit_above, bit_more, kept_low, kept_high, by_size}

-- each variable that the words of one set hold those of another hold
abbrev pub IsKeptPart : Inside → Inside → Type 0
IsKeptPart part whole = (x : ℕ) → is_kept part x ≡ true → is_kept whole x ≡ true

both_bits : (a b : ℕ) → a < 2 → b < 2 → min a b ≡ a → a ≡ 1 → b ≡ 1
both_bits a b p q h e = omega (arith, p, q, h, e)

least_of_bits : (a b : ℕ) → a < 2 → b < 2 → (a ≡ 1 → b ≡ 1) → min a b ≡ a
least_of_bits zero b p q h = omega arith
least_of_bits (suc zero) b p q h = omega (arith, h refl)
least_of_bits (suc (suc a)) b p q h = absurd (omega (arith, p))

-- a word is a part of another where it has no bit that the other lacks
pub part_of_bits : (a b : ℕ) → ((i : ℕ) → has_bit a i ≡ true → has_bit b i ≡ true) → bit_and a b ≡ a
part_of_bits a b h = same_from_bits (bit_and a b) a (λ i. bit_at_and a b i ∙
    least_of_bits (bit_at a i) (bit_at b i) (bit_at-lt a i) (bit_at-lt b i) (λ e. eqb-true (bit_at b i) 1 (h i (eq-eqb (bit_at a i) 1 e))))

pub bits_of_part : (a b : ℕ) → bit_and a b ≡ a → (i : ℕ) → has_bit a i ≡ true → has_bit b i ≡ true
bits_of_part a b h i e = eq-eqb (bit_at b i) 1 (both_bits (bit_at a i) (bit_at b i) (bit_at-lt a i) (bit_at-lt b i)
    (sym (bit_at_and a b i) ∙ ap (λ (n : ℕ). bit_at n i) h) (eqb-true (bit_at a i) 1 e))

-- a word without bits is 0
bit_zero : (a : ℕ) → a < 2 → (a == 1) ≡ false → a ≡ 0
bit_zero zero p h = refl
bit_zero (suc zero) p h = cc
bit_zero (suc (suc a)) p h = absurd (omega (arith, p))

pub none_of_bits : (a : ℕ) → ((i : ℕ) → has_bit a i ≡ false) → a ≡ 0
none_of_bits a h = same_from_bits a 0 (λ i. bit_zero (bit_at a i) (bit_at-lt a i) (h i) ∙ sym (bit_at-zero i))

differ : (x v : ℕ) → x ≢ v → (x == v) ≡ false
differ x v h = choose (x == v) refl
  where
    choose : (b : Bool) → (x == v) ≡ b → (x == v) ≡ false
    choose true e = absurd (h (eqb-true x v e))
    choose false e = e

same_shifted : (x v : ℕ) → 128 ≤ x → 128 ≤ v → (x - 128 == v - 128) ≡ (x == v)
same_shifted x v p q = choose (x == v) refl
  where
    choose : (b : Bool) → (x == v) ≡ b → (x - 128 == v - 128) ≡ (x == v)
    choose true e = rw (eqb-true x v e, eq-eqb (v - 128) (v - 128) refl, eq-eqb v v refl) refl
    choose false e = rw e (differ (x - 128) (v - 128) (λ same. absurd (let t : (x == v) ≡ true = eq-eqb x v (omega (arith, same, p, q)) in cc)))

-- a set with one variable more
pub with_low : (set : Inside) (v x : ℕ) → v < 128
    → is_kept (record { low = bit_or set.low (1 * 2 ^ v % 2 ^ 128); high = set.high }) x ≡ (x == v) || is_kept set x
with_low set v x h =
    let more : Inside = record { low = bit_or set.low (1 * 2 ^ v % 2 ^ 128); high = set.high } in
    by_size 128 x
    (λ small. kept_low more x small ∙ bit_more set.low v x h ∙ ap (λ (b : Bool). (x == v) || b) (sym (kept_low set x small)))
    (λ large. kept_high more x large ∙ sym (kept_high set x large) ∙ ap (λ (b : Bool). b || is_kept set x) (sym (differ x v (λ e. absurd (omega (arith, e, h, large))))))

pub with_high : (set : Inside) (v x : ℕ) → 128 ≤ v → v < 256
    → is_kept (record { low = set.low; high = bit_or set.high (1 * 2 ^ (v - 128) % 2 ^ 128) }) x ≡ (x == v) || is_kept set x
with_high set v x low_end h =
    let more : Inside = record { low = set.low; high = bit_or set.high (1 * 2 ^ (v - 128) % 2 ^ 128) } in
    by_size 128 x
    (λ small. kept_low more x small ∙ sym (kept_low set x small) ∙ ap (λ (b : Bool). b || is_kept set x) (sym (differ x v (λ e. absurd (omega (arith, e, small, low_end))))))
    (λ large. kept_high more x large ∙ bit_more set.high (v - 128) (x - 128) (omega (arith, h, low_end))
    ∙ ap (λ (b : Bool). b || has_bit set.high (x - 128)) (same_shifted x v large low_end)
    ∙ ap (λ (b : Bool). (x == v) || b) (sym (kept_high set x large)))

-- parts of sets
pub subset_of_parts : (part whole : Inside) → bit_and part.low whole.low ≡ part.low → bit_and part.high whole.high ≡ part.high → IsKeptPart part whole
subset_of_parts part whole low high x e = by_size 128 x
    (λ small. kept_low whole x small ∙ bits_of_part part.low whole.low low x (sym (kept_low part x small) ∙ e))
    (λ large. kept_high whole x large ∙ bits_of_part part.high whole.high high (x - 128) (sym (kept_high part x large) ∙ e))

pub part_low : (part whole : Inside) → part.low < 2 ^ 128 → IsKeptPart part whole → bit_and part.low whole.low ≡ part.low
part_low part whole fits subset = part_of_bits part.low whole.low (λ i e. by_size 128 i
    (λ small. sym (kept_low whole i small) ∙ subset i (kept_low part i small ∙ e))
    (λ large. absurd (let none = no_bit_above part.low i fits large in cc)))

pub part_high : (part whole : Inside) → IsKeptPart part whole → bit_and part.high whole.high ≡ part.high
part_high part whole subset = part_of_bits part.high whole.high (λ i e.
    let shift : i + 128 - 128 ≡ i = omega arith in
    let back : is_kept part (i + 128) ≡ true = kept_high part (i + 128) (omega arith) ∙ ap (λ (k : ℕ). has_bit part.high k) shift ∙ e in
    ap (λ (k : ℕ). has_bit whole.high k) (sym shift) ∙ sym (kept_high whole (i + 128) (omega arith)) ∙ subset (i + 128) back)

-- the words of a set without variables
pub empty_words : (set : Inside) → set.low ≡ 0 → set.high ≡ 0 → (x : ℕ) → is_kept set x ≡ false
empty_words set low high x = by_size 128 x
    (λ small. kept_low set x small ∙ ap (λ (word : ℕ). has_bit word x) low ∙ no_bit x)
    (λ large. kept_high set x large ∙ ap (λ (word : ℕ). has_bit word (x - 128)) high ∙ no_bit (x - 128))

pub empty_low : (set : Inside) → set.low < 2 ^ 128 → ((x : ℕ) → is_kept set x ≡ false) → set.low ≡ 0
empty_low set fits none = none_of_bits set.low (λ i. by_size 128 i
    (λ small. sym (kept_low set i small) ∙ none i)
    (λ large. no_bit_above set.low i fits large))

pub empty_high : (set : Inside) → ((x : ℕ) → is_kept set x ≡ false) → set.high ≡ 0
empty_high set none = none_of_bits set.high (λ i.
    let shift : i + 128 - 128 ≡ i = omega arith in
    ap (λ (k : ℕ). has_bit set.high k) (sym shift) ∙ sym (kept_high set (i + 128) (omega arith)) ∙ none (i + 128))

-- the bits of what joins two words
max_test : (a b : ℕ) → a < 2 → b < 2 → (max a b == 1) ≡ (a == 1) || (b == 1)
max_test zero zero p q = refl
max_test zero (suc zero) p q = refl
max_test (suc zero) zero p q = refl
max_test (suc zero) (suc zero) p q = refl
max_test (suc (suc a)) b p q = absurd (omega (arith, p))
max_test a (suc (suc b)) p q = absurd (omega (arith, q))

min_test : (a b : ℕ) → a < 2 → b < 2 → (min a b == 1) ≡ (a == 1) && (b == 1)
min_test zero zero p q = refl
min_test zero (suc zero) p q = refl
min_test (suc zero) zero p q = refl
min_test (suc zero) (suc zero) p q = refl
min_test (suc (suc a)) b p q = absurd (omega (arith, p))
min_test a (suc (suc b)) p q = absurd (omega (arith, q))

less_test : (a b : ℕ) → a < 2 → b < 2 → (min a (1 - b) == 1) ≡ (a == 1) && not (b == 1)
less_test zero zero p q = refl
less_test zero (suc zero) p q = refl
less_test (suc zero) zero p q = refl
less_test (suc zero) (suc zero) p q = refl
less_test (suc (suc a)) b p q = absurd (omega (arith, p))
less_test a (suc (suc b)) p q = absurd (omega (arith, q))

either_bit : (a b i : ℕ) → has_bit (bit_or a b) i ≡ has_bit a i || has_bit b i
either_bit a b i = ap (λ (n : ℕ). n == 1) (bit_at_or a b i) ∙ max_test (bit_at a i) (bit_at b i) (bit_at-lt a i) (bit_at-lt b i)

common_bit : (a b i : ℕ) → has_bit (bit_and a b) i ≡ has_bit a i && has_bit b i
common_bit a b i = ap (λ (n : ℕ). n == 1) (bit_at_and a b i) ∙ min_test (bit_at a i) (bit_at b i) (bit_at-lt a i) (bit_at-lt b i)

lesser_bit : (a b i : ℕ) → a < 2 ^ 128 → b < 2 ^ 128 → has_bit (bit_and a (bit_not w128 b)) i ≡ has_bit a i && not (has_bit b i)
lesser_bit a b i fits other_fits = choose (nat_lt i 128) refl
  where
    choose : (t : Bool) → nat_lt i 128 ≡ t → has_bit (bit_and a (bit_not w128 b)) i ≡ has_bit a i && not (has_bit b i)
    choose true e = ap (λ (n : ℕ). n == 1) (bit_at_and a (bit_not w128 b) i ∙ ap (λ (n : ℕ). min (bit_at a i) n) (bit_at_not w128 b i other_fits (ltb-true i 128 e)))
        ∙ less_test (bit_at a i) (bit_at b i) (bit_at-lt a i) (bit_at-lt b i)
    choose false e =
        let none = no_bit_above a i fits (ltb-false i 128 e) in
        common_bit a (bit_not w128 b) i ∙ ap (λ (t : Bool). t && has_bit (bit_not w128 b) i) none ∙ sym (ap (λ (t : Bool). t && not (has_bit b i)) none)

pub both : (join : Bool → Bool → Bool) {p p' q q' : Bool} → p ≡ p' → q ≡ q' → join p q ≡ join p' q'
both join {p' = p'} {q = q} e e' = ap (λ (t : Bool). join t q) e ∙ ap (λ (t : Bool). join p' t) e'

-- the members of what joins two sets
joins : (join : Bool → Bool → Bool) (result a b : Inside)
    → ((i : ℕ) → has_bit result.low i ≡ join (has_bit a.low i) (has_bit b.low i))
    → ((i : ℕ) → has_bit result.high i ≡ join (has_bit a.high i) (has_bit b.high i))
    → (x : ℕ) → is_kept result x ≡ join (is_kept a x) (is_kept b x)
joins join result a b low high x = by_size 128 x
    (λ small. kept_low result x small ∙ low x ∙ sym (both join (kept_low a x small) (kept_low b x small)))
    (λ large. kept_high result x large ∙ high (x - 128) ∙ sym (both join (kept_high a x large) (kept_high b x large)))

pub in_union : (a b : Inside) (x : ℕ)
    → is_kept (record { low = bit_or a.low b.low; high = bit_or a.high b.high }) x ≡ is_kept a x || is_kept b x
in_union a b = joins (λ p q. p || q) (record { low = bit_or a.low b.low; high = bit_or a.high b.high }) a b (either_bit a.low b.low) (either_bit a.high b.high)

pub in_common : (a b : Inside) (x : ℕ)
    → is_kept (record { low = bit_and a.low b.low; high = bit_and a.high b.high }) x ≡ is_kept a x && is_kept b x
in_common a b = joins (λ p q. p && q) (record { low = bit_and a.low b.low; high = bit_and a.high b.high }) a b (common_bit a.low b.low) (common_bit a.high b.high)

pub in_first_alone : (a b : Inside) → a.low < 2 ^ 128 → a.high < 2 ^ 128 → b.low < 2 ^ 128 → b.high < 2 ^ 128 → (x : ℕ)
    → is_kept (record { low = bit_and a.low (bit_not w128 b.low); high = bit_and a.high (bit_not w128 b.high) }) x ≡ is_kept a x && not (is_kept b x)
in_first_alone a b p q r s = joins (λ t u. t && not u) (record { low = bit_and a.low (bit_not w128 b.low); high = bit_and a.high (bit_not w128 b.high) }) a b
    (λ i. lesser_bit a.low b.low i p r) (λ i. lesser_bit a.high b.high i q s)

-- a set's first variable
pub record IsFirst (set : Inside) (x : ℕ) : Type 0 where
  pub member : is_kept set x ≡ true
  pub least : (y : ℕ) → y < x → is_kept set y ≡ false

pub first_low : (set : Inside) → set.low < 2 ^ 128 → (set.low ≡ 0 → ⊥) → IsFirst set (trailing_zeros w128 set.low)
first_low set fits some =
    let lowest = bit_at-trailing_zeros w128 set.low (omega (arith, some)) fits in
    let inside : trailing_zeros w128 set.low < 128 = lowest.0 in
    record {
      member = kept_low set (trailing_zeros w128 set.low) inside ∙ eq-eqb (bit_at set.low (trailing_zeros w128 set.low)) 1 lowest.1;
      least = λ y before. kept_low set y (omega (arith, before, inside)) ∙ ap (λ (n : ℕ). n == 1) (lowest.2 y before);
    }

pub first_high : (set : Inside) → set.high < 2 ^ 128 → set.low ≡ 0 → (set.high ≡ 0 → ⊥) → IsFirst set (128 + trailing_zeros w128 set.high)
first_high set fits none some =
    let lowest = bit_at-trailing_zeros w128 set.high (omega (arith, some)) fits in
    let shift : 128 + trailing_zeros w128 set.high - 128 ≡ trailing_zeros w128 set.high = omega arith in
    record {
      member = kept_high set (128 + trailing_zeros w128 set.high) (omega arith) ∙ ap (λ (n : ℕ). has_bit set.high n) shift
          ∙ eq-eqb (bit_at set.high (trailing_zeros w128 set.high)) 1 lowest.1;
      least = λ y before. by_size 128 y
          (λ small. kept_low set y small ∙ ap (λ (word : ℕ). has_bit word y) none ∙ no_bit y)
          (λ large. kept_high set y large ∙ ap (λ (n : ℕ). n == 1) (lowest.2 (y - 128) (omega (arith, before, large))));
    }
