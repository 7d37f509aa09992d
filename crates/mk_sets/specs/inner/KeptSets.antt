-- How a set of variables is kept: a bit for each in two words; a kept set gives its words back.
use Rattle.std.specs.Prelude.{◌≡◌, ◌≢◌, ℕ, zero, suc, ◌+◌, ◌-◌, ◌*◌, ◌%◌, ◌^◌, ◌<◌, ◌≤◌, List, [], ◌∷◌, filter, Bool, true, false, cond, ◌&&◌, ◌||◌, ◌==◌, ◌⊎◌, nat_lt, bit_or, if◌then◌else◌}
use Rattle.std.specs.Int.{bit_at, w128}
use Rattle.std.specs.List.{list_any, range_with_len}
use Rattle.std.proofs.Common.{refl, sym, ap, ap₂, ◌∙◌, arith, inl, inr}
use Rattle.std.proofs.lemmas.Bool.{eqb-true, eq-eqb, ne_eqb, ltb-true, ltb-false, or_left, or_right, or_from, cases_eq}
use Rattle.std.proofs.lemmas.Map.Views.{any-filter_same}
use Rattle.std.proofs.lemmas.Nat.Bits.{bit_at-lt, bit_at-zero, same_from_bits, bit_at_above, bit_at_set_same, bit_at_set_other}
use Rattle.mk_net.specs.Bounds.{max_variables}
use Rattle.mk_sets.specs.Sets.{VarSet, is_member, set_where}
use Rattle.mk_sets.specs.declared.sets.VarSet.TheInside.{Inside}

-- a word's bit, as a test
abbrev pub has_bit : ℕ → ℕ → Bool
has_bit word i = bit_at word i == 1

-- a variable's bit is set: one below 128 has its bit in the first word
abbrev pub is_kept : Inside → ℕ → Bool
is_kept set x = if nat_lt x 128 then has_bit set.low x else has_bit set.high (x - 128)

-- the words have 128 bits
pub record IsKeptSet (set : Inside) : Type 0 where
  pub low_fits : set.low < 2 ^ 128
  pub high_fits : set.high < 2 ^ 128

-- the variables whose bits are set
abbrev pub kept_set : Inside → VarSet
kept_set set = set_where (is_kept set)

-- the word whose bits pass a test, below a number
unfoldable pub word_of : (ℕ → Bool) → ℕ → ℕ
word_of test zero = 0
word_of test (suc n) = cond (test n) (bit_or (word_of test n) (1 * 2 ^ n % 2 ^ 128)) (word_of test n)

-- the words of a set
abbrev pub words_of : VarSet → Inside
words_of set = record { low = word_of (is_member set) 128; high = word_of (λ i. is_member set (i + 128)) 128 }

-- the members of what passes a test
range_has : (a n x : ℕ) → a ≤ x → x < a + n → list_any (λ (v : ℕ). v == x) (range_with_len a n) ≡ true
range_has a zero x low high = absurd (omega (arith, low, high))
range_has a (suc n) x low high = choose (cases_eq a x) (λ other. range_has (a + 1) n x (omega (arith, low, other)) (omega (arith, high)))
  where
    choose : ((a ≡ x) ⊎ (a ≡ x → ⊥)) → ((a ≡ x → ⊥) → list_any (λ (v : ℕ). v == x) (range_with_len (a + 1) n) ≡ true)
        → ((a == x) || list_any (λ (v : ℕ). v == x) (range_with_len (a + 1) n)) ≡ true
    choose (inl here) later = or_left (a == x) (list_any (λ (v : ℕ). v == x) (range_with_len (a + 1) n)) (eq-eqb a x here)
    choose (inr other) later = or_right (a == x) (list_any (λ (v : ℕ). v == x) (range_with_len (a + 1) n)) (later other)

range_lacks : (a n x : ℕ) → a + n ≤ x → list_any (λ (v : ℕ). v == x) (range_with_len a n) ≡ false
range_lacks a zero x past = refl
range_lacks a (suc n) x past =
    or_from (a == x) (list_any (λ (v : ℕ). v == x) (range_with_len (a + 1) n)) (ne_eqb a x (λ same. omega (arith, same, past)))
    (range_lacks (a + 1) n x (omega (arith, past)))

and_true : (t : Bool) → (t && true) ≡ t
and_true true = refl
and_true false = refl

and_false : (t : Bool) → (t && false) ≡ false
and_false true = refl
and_false false = refl

filtered : (test : ℕ → Bool) (xs : List ℕ) (x : ℕ) → is_member (filter test xs) x ≡ (test x && is_member xs x)
filtered test xs x = any-filter_same (λ (v : ℕ). v == x) test (test x) (λ k same. ap test (eqb-true k x same)) xs

pub in_where : (test : ℕ → Bool) (x : ℕ) → x < max_variables → is_member (set_where test) x ≡ test x
unfolding set_where
in_where test x small = filtered test (range_with_len 0 256) x ∙ ap (λ (t : Bool). test x && t) (range_has 0 256 x (omega arith) (omega (arith, small))) ∙ and_true (test x)

pub past_where : (test : ℕ → Bool) (x : ℕ) → 256 ≤ x → is_member (set_where test) x ≡ false
unfolding set_where
past_where test x past = filtered test (range_with_len 0 256) x ∙ ap (λ (t : Bool). test x && t) (range_lacks 0 256 x (omega (arith, past))) ∙ and_false (test x)

-- tests that agree make the same set
same_filtered : (p q : ℕ → Bool) (a n : ℕ) → ((x : ℕ) → x < a + n → p x ≡ q x) → filter p (range_with_len a n) ≡ filter q (range_with_len a n)
same_filtered p q a zero same = refl
same_filtered p q a (suc n) same =
    ap (λ (t : Bool). cond t (a ∷ filter p (range_with_len (a + 1) n)) (filter p (range_with_len (a + 1) n))) (same a (omega arith))
    ∙ ap (λ (xs : List ℕ). cond (q a) (a ∷ xs) xs) (same_filtered p q (a + 1) n (λ x below. same x (omega (arith, below))))

pub same_where : (p q : ℕ → Bool) → ((x : ℕ) → x < max_variables → p x ≡ q x)
    → set_where p ≡ set_where q
unfolding set_where
same_where p q same = same_filtered p q 0 256 (λ x below. same x (omega (arith, below)))

none_filtered : (p : ℕ → Bool) (a n : ℕ) → ((x : ℕ) → p x ≡ false) → filter p (range_with_len a n) ≡ []
none_filtered p a zero none = refl
none_filtered p a (suc n) none =
    ap (λ (t : Bool). cond t (a ∷ filter p (range_with_len (a + 1) n)) (filter p (range_with_len (a + 1) n))) (none a) ∙ none_filtered p (a + 1) n none

pub none_where : (p : ℕ → Bool) → ((x : ℕ) → p x ≡ false) → set_where p ≡ []
unfolding set_where
none_where p none = none_filtered p 0 256 none

-- a word without bits, and one with a bit more
pub no_bit : (i : ℕ) → has_bit 0 i ≡ false
no_bit i = rw (bit_at-zero i) refl

pub no_bit_above : (a i : ℕ) → a < 2 ^ 128 → 128 ≤ i → has_bit a i ≡ false
no_bit_above a i h past = rw (bit_at_above a 128 i h past) refl

pub bit_more : (a k i : ℕ) → k < 128 → has_bit (bit_or a (1 * 2 ^ k % 2 ^ 128)) i ≡ (i == k) || has_bit a i
bit_more a k i h = by_case (i == k) refl
  where
    by_case : (b : Bool) → (i == k) ≡ b → has_bit (bit_or a (1 * 2 ^ k % 2 ^ 128)) i ≡ (i == k) || has_bit a i
    by_case true e = let same : i ≡ k = eqb-true i k e in rw (e, same, bit_at_set_same w128 a k h) refl
    by_case false e = let other : i ≢ k = (λ same. absurd (let t : (i == k) ≡ true = eq-eqb i k same in cc)) in
        rw (e, bit_at_set_other w128 a k h i other) refl

-- the bits of a word by a test
word_past : (test : ℕ → Bool) (n i : ℕ) → n ≤ 128 → n ≤ i → has_bit (word_of test n) i ≡ false
unfolding word_of
word_past test zero i small past = no_bit i
word_past test (suc n) i small past = choose (test n) (word_past test n i (omega (arith, small)) (omega (arith, past)))
  where
    choose : (t : Bool) → has_bit (word_of test n) i ≡ false
        → has_bit (cond t (bit_or (word_of test n) (1 * 2 ^ n % 2 ^ 128)) (word_of test n)) i ≡ false
    choose true before = bit_more (word_of test n) n i (omega (arith, small))
        ∙ or_from (i == n) (has_bit (word_of test n) i) (ne_eqb i n (λ same. omega (arith, same, past))) before
    choose false before = before

word_has : (test : ℕ → Bool) (n i : ℕ) → n ≤ 128 → i < n → has_bit (word_of test n) i ≡ test i
unfolding word_of
word_has test zero i small below = absurd (omega (arith, below))
word_has test (suc n) i small below = choose (test n) refl (cases_eq i n) (λ other. word_has test n i (omega (arith, small)) (omega (arith, below, other)))
  where
    choose : (t : Bool) → test n ≡ t → ((i ≡ n) ⊎ (i ≡ n → ⊥)) → ((i ≡ n → ⊥) → has_bit (word_of test n) i ≡ test i)
        → has_bit (cond t (bit_or (word_of test n) (1 * 2 ^ n % 2 ^ 128)) (word_of test n)) i ≡ test i
    choose true e (inl here) before = bit_more (word_of test n) n i (omega (arith, small))
        ∙ or_left (i == n) (has_bit (word_of test n) i) (eq-eqb i n here) ∙ sym (ap test here ∙ e)
    choose true e (inr other) before = bit_more (word_of test n) n i (omega (arith, small))
        ∙ ap (λ (u : Bool). u || has_bit (word_of test n) i) (ne_eqb i n other) ∙ before other
    choose false e (inl here) before = word_past test n i (omega (arith, small)) (omega (arith, here)) ∙ sym (ap test here ∙ e)
    choose false e (inr other) before = before other

-- what the words say
pub kept_low : (set : Inside) (x : ℕ) → x < 128 → is_kept set x ≡ has_bit set.low x
kept_low set x h = let t : nat_lt x 128 ≡ true = search arith in rw t refl

pub kept_high : (set : Inside) (x : ℕ) → 128 ≤ x → is_kept set x ≡ has_bit set.high (x - 128)
kept_high set x h = let t : nat_lt x 128 ≡ false = search arith in rw t refl

pub by_size : {P : Type 0} (bound x : ℕ) → (x < bound → P) → (bound ≤ x → P) → P
by_size {P = P} bound x small large = choose (nat_lt x bound) refl
  where
    choose : (b : Bool) → nat_lt x bound ≡ b → P
    choose true e = small (ltb-true x bound e)
    choose false e = large (ltb-false x bound e)

pub kept_member : (set : Inside) → IsKeptSet set → (x : ℕ) → is_member (kept_set set) x ≡ is_kept set x
kept_member set fits x = by_size 256 x
    (in_where (is_kept set) x)
    (λ past. past_where (is_kept set) x past ∙ sym (kept_high set x (omega (arith, past)) ∙ no_bit_above set.high (x - 128) fits.high_fits (omega (arith, past))))

-- a kept set gives its words back
same_bit : (a b : ℕ) → a < 2 → b < 2 → (a == 1) ≡ (b == 1) → a ≡ b
same_bit zero zero p q e = refl
same_bit zero (suc zero) p q e = cc
same_bit (suc zero) zero p q e = cc
same_bit (suc zero) (suc zero) p q e = refl
same_bit (suc (suc a)) b p q e = absurd (omega (arith, p))
same_bit a (suc (suc b)) p q e = absurd (omega (arith, q))

same_word : (test : ℕ → Bool) (word : ℕ) → word < 2 ^ 128 → ((i : ℕ) → i < 128 → test i ≡ has_bit word i) → word_of test 128 ≡ word
same_word test word fits same = same_from_bits (word_of test 128) word (λ i.
    same_bit (bit_at (word_of test 128) i) (bit_at word i) (bit_at-lt (word_of test 128) i) (bit_at-lt word i) (by_size 128 i
    (λ small. word_has test 128 i (omega arith) small ∙ same i small)
    (λ large. word_past test 128 i (omega arith) large ∙ sym (no_bit_above word i fits large))))

pub words_back : (set : Inside) → IsKeptSet set → words_of (kept_set set) ≡ set
words_back set fits = ap₂ (λ (low high : ℕ). record { low = low; high = high })
    (same_word (is_member (kept_set set)) set.low fits.low_fits (λ i small. kept_member set fits i ∙ kept_low set i small))
    (same_word (λ i. is_member (kept_set set) (i + 128)) set.high fits.high_fits (λ i small.
    let shift : i + 128 - 128 ≡ i = omega arith in
    kept_member set fits (i + 128) ∙ kept_high set (i + 128) (omega arith) ∙ ap (λ (k : ℕ). has_bit set.high k) shift))
