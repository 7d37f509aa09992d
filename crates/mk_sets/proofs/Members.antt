-- The members of sets that are kept in words, and of sets that lists make.
use Rattle.std.specs.Prelude.{◌≡◌, ℕ, ◌*◌, ◌%◌, ◌^◌, ◌<◌, List, [], ◌∷◌, ◌++◌, Bool, true, false, ◌&&◌, ◌||◌, ◌==◌, nat_eq, bit_or, bit_and}
use Rattle.std.proofs.Common.{refl, sym, ap, ap₂, ◌∙◌, arith}
use Rattle.std.proofs.lemmas.Bool.{eqb-true, eq-eqb, ne_eqb, and_parts, and_from, false_from_ne_true}
use Rattle.std.proofs.lemmas.Nat.{or_lt}
use Rattle.std.proofs.lemmas.List.Folds.{list_any-append}
use Rattle.std.specs.Int.Bits.{and_lt}
use Rattle.mk_sets.specs.declared.sets.VarSet.TheInside.{Inside}
use Rattle.mk_sets.specs.Sets.{VarSet, is_member, IsSubset, no_variables, with_member, set_of}
use Rattle.mk_sets.specs.inner.KeptSets.{is_kept, IsKeptSet, kept_set, kept_member, words_of, words_back, in_where, same_where, none_where}
use Rattle.std.specs.Cmp.Lexicographic.{pointwise, same_text, other_text}
use Rattle.mk_sets.proofs.Bits.{IsKeptPart, both}

-- what joins two words of 128 bits fits in them
pub either_fits : (a b : ℕ) → a < 2 ^ 128 → b < 2 ^ 128 → bit_or a b < 2 ^ 128
either_fits a b p q = or_lt 128 a b p q

pub common_fits : (a b : ℕ) → a < 2 ^ 128 → b < 2 ^ 128 → bit_and a b < 2 ^ 128
common_fits a b p q = and_lt 128 a b p q

one_fits : (a : ℕ) → a % 2 ^ 128 < 2 ^ 128
one_fits a = omega arith

pub more_fits : (word k : ℕ) → word < 2 ^ 128 → bit_or word (1 * 2 ^ k % 2 ^ 128) < 2 ^ 128
more_fits word k fits = either_fits word (1 * 2 ^ k % 2 ^ 128) fits (one_fits (1 * 2 ^ k))

-- a set that is kept in words
module _ (a : Inside) (one : VarSet) (one_is : kept_set a ≡ one) (fits : IsKeptSet a) where
  pub said : (x : ℕ) → is_member one x ≡ is_kept a x
  said x = ap (λ (set : VarSet). is_member set x) (sym one_is) ∙ kept_member a fits x

  -- one variable more
  module _ (result : Inside) (v : ℕ) (result_fits : IsKeptSet result)
      (more : (x : ℕ) → is_kept result x ≡ (x == v) || is_kept a x) where
    pub member_more : (x : ℕ) → is_member (kept_set result) x ≡ (x == v) || is_member one x
    member_more x = kept_member result result_fits x ∙ more x ∙ ap (λ (t : Bool). (x == v) || t) (sym (said x))

    pub set_with : kept_set result ≡ with_member v one
    set_with = same_where (is_kept result) (λ x. (x == v) || is_member one x) (λ x below.
        more x ∙ ap (λ (t : Bool). (x == v) || t) (sym (said x)))

  -- beside another set
  module _ (b : Inside) (other : VarSet) (other_is : kept_set b ≡ other) (other_fits : IsKeptSet b) where
    other_said : (x : ℕ) → is_member other x ≡ is_kept b x
    other_said x = ap (λ (set : VarSet). is_member set x) (sym other_is) ∙ kept_member b other_fits x

    pub joined : (join : Bool → Bool → Bool) (result : Inside) → IsKeptSet result
        → ((x : ℕ) → is_kept result x ≡ join (is_kept a x) (is_kept b x))
        → (x : ℕ) → is_member (kept_set result) x ≡ join (is_member one x) (is_member other x)
    joined join result result_fits joins x =
        kept_member result result_fits x ∙ joins x ∙ sym (both join (said x) (other_said x))

    pub subset_said : IsKeptPart a b → IsSubset one other
    subset_said part x e = other_said x ∙ part x (sym (said x) ∙ e)

    pub subset_kept : IsSubset one other → IsKeptPart a b
    subset_kept subset x e = sym (other_said x) ∙ subset x (said x ∙ e)

    -- one set has the words of the other exactly where the sets are equal
    same_words : a.low ≡ b.low → a.high ≡ b.high → one ≡ other
    same_words low high = sym one_is ∙ ap₂ (λ (l h : ℕ). kept_set (record { low = l; high = h })) low high ∙ other_is

    words_of_equal : one ≡ other → a ≡ b
    words_of_equal same = sym (words_back a fits) ∙ ap words_of (one_is ∙ same ∙ sym other_is) ∙ words_back b other_fits

    pub equal_words : (a.low == b.low) && (a.high == b.high) ≡ pointwise nat_eq one other
    equal_words = choose (pointwise nat_eq one other) refl
      where
        choose : (t : Bool) → t ≡ pointwise nat_eq one other → (a.low == b.low) && (a.high == b.high) ≡ t
        choose true e =
            let words = words_of_equal (same_text one other e) in
            and_from (a.low == b.low) (a.high == b.high)
            (eq-eqb a.low b.low (ap (λ (s : Inside). s.low) words)) (eq-eqb a.high b.high (ap (λ (s : Inside). s.high) words))
        choose false e = false_from_ne_true ((a.low == b.low) && (a.high == b.high)) (λ same.
            let parts = and_parts (a.low == b.low) (a.high == b.high) same in
            other_text one other e (same_words (eqb-true a.low b.low parts.0) (eqb-true a.high b.high parts.1)))

-- sets that lists make
pub set_of_none : set_of [] ≡ no_variables
set_of_none = none_where (is_member []) (λ x. refl)

same_turned : (x v : ℕ) → (v == x) ≡ (x == v)
same_turned x v = choose (x == v) refl
  where
    choose : (t : Bool) → (x == v) ≡ t → (v == x) ≡ (x == v)
    choose true e = eq-eqb v x (sym (eqb-true x v e)) ∙ sym e
    choose false e = ne_eqb v x (λ same. absurd (let t : (x == v) ≡ true = eq-eqb x v (sym same) in cc)) ∙ sym e

or_turned : (s t : Bool) → (s || t) ≡ (t || (s || false))
or_turned true true = refl
or_turned true false = refl
or_turned false true = refl
or_turned false false = refl

pub member_push : (variables : List ℕ) (v x : ℕ) → is_member (variables ++ v ∷ []) x ≡ (x == v) || is_member variables x
member_push variables v x = list_any-append (λ (w : ℕ). w == x) variables (v ∷ [])
    ∙ sym (or_turned (v == x) (is_member variables x)) ∙ ap (λ (t : Bool). t || is_member variables x) (same_turned x v)

pub set_of_more : (variables : List ℕ) (v : ℕ) → with_member v (set_of variables) ≡ set_of (variables ++ v ∷ [])
set_of_more variables v = same_where (λ x. (x == v) || is_member (set_of variables) x) (is_member (variables ++ v ∷ [])) (λ x below.
    ap (λ (t : Bool). (x == v) || t) (in_where (is_member variables) x below) ∙ sym (member_push variables v x))
