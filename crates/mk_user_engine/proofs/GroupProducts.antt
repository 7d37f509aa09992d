-- The products of those ratios alone whose variable is named.
use Rattle.std.proofs.Common.{◌≡◌, ℕ, ◌*◌, ◌<◌, ◌≤◌, Bool, true, false, cond}
use Rattle.std.proofs.Common.{◌⊎◌, inl, inr, List, [], ◌∷◌, ◌++◌, All, length, slice_index}
use Rattle.std.proofs.Common.{slice_index_or, refl, sym, ap, subst, ◌∙◌, arith, length-append}
use Rattle.std.specs.List.{AllByRecursion}
use Rattle.std.proofs.Math.ListN.{get_or-append}
use Rattle.std.proofs.Math.Seq.{get_or-append_seam}
use Rattle.std.proofs.lemmas.Bool.{cases_eq}
use Rattle.std.proofs.lemmas.List.{get_or_default}
use Rattle.std.proofs.lemmas.List.Elements.{filter-append, recursion_from_All}
use Rattle.std.proofs.lemmas.List.Elements.{All-from_recursion}
use Rattle.mk_cell.specs.Cell.{IsCell, AreCells}
use Rattle.mk_cell.specs.inner.Laws.{has_room, all_have_room}
use Rattle.mk_user_engine.specs.declared.names.Named.{Named}
use Rattle.mk_user_engine.specs.declared.narrow.PlacedRatio.{PlacedRatio}
use Rattle.mk_user_engine.specs.Names.{is_named, value_in}
use Rattle.mk_user_engine.specs.Narrow.{ratio_in, product_of, number_in, HasProduct, HaveProducts}
use Rattle.mk_user_engine.specs.Narrow.{IsListed}
use Rattle.mk_user_engine.specs.GroupProducts.{named_by, AreListedBy, ArePlaces}
use Rattle.mk_user_engine.proofs.Products.{all_stand}

-- ---- those that are named

pub append_none : {X : Type 0} (xs : List X) → xs ++ [] ≡ xs
append_none [] = refl
append_none (x ∷ xs) = ap (λ ys. x ∷ ys) (append_none xs)

module _ (names : List Named) (ts : List PlacedRatio) (t : PlacedRatio) where
  -- one more
  pub named_more : is_named names (ratio_in t).variable ≡ true
      → named_by names (ts ++ t ∷ []) ≡ named_by names ts ++ t ∷ []
  named_more e =
      filter-append (λ (s : PlacedRatio). is_named names (ratio_in s).variable) ts (t ∷ [])
      ∙ ap (λ (b : Bool). named_by names ts ++ cond b (t ∷ []) []) e

  -- one beside
  pub named_beside : is_named names (ratio_in t).variable ≡ false
      → named_by names (ts ++ t ∷ []) ≡ named_by names ts
  named_beside e =
      filter-append (λ (s : PlacedRatio). is_named names (ratio_in s).variable) ts (t ∷ [])
      ∙ ap (λ (b : Bool). named_by names ts ++ cond b (t ∷ []) []) e
      ∙ append_none (named_by names ts)

filter_long : {X : Type 0} (p : X → Bool) (x : X) (b : Bool) (xs ys : List X)
    → length ys ≤ length xs → length (cond b (x ∷ ys) ys) ≤ length (x ∷ xs)
filter_long p x true xs ys l = omega (arith, l)
filter_long p x false xs ys l = omega (arith, l)

pub named_few : (names : List Named) (ts : List PlacedRatio)
    → length (named_by names ts) ≤ length ts
named_few names [] = omega arith
named_few names (t ∷ ts) =
    filter_long (λ (s : PlacedRatio). is_named names (ratio_in s).variable) t
    (is_named names (ratio_in t).variable) ts (named_by names ts) (named_few names ts)

-- each of these has its numbers of units
pub listed_named : (names : List Named) (ts : List PlacedRatio) → AreListedBy names ts
    → All (IsListed names) (named_by names ts)
listed_named names ts h =
    All-from_recursion (IsListed names) (named_by names ts)
    (each ts (recursion_from_All (λ (t : PlacedRatio). is_named names (ratio_in t).variable ≡ true
    → IsListed names t) ts h))
  where
    each : (rs : List PlacedRatio) → AllByRecursion (λ (t : PlacedRatio). is_named names
        (ratio_in t).variable ≡ true → IsListed names t) rs
        → AllByRecursion (IsListed names) (named_by names rs)
    each [] h = tt
    each (t ∷ rs) h = at (is_named names (ratio_in t).variable) h.0 (each rs h.1)
      where
        at : (b : Bool) → (b ≡ true → IsListed names t)
            → AllByRecursion (IsListed names) (named_by names rs)
            → AllByRecursion (IsListed names) (cond b (t ∷ named_by names rs) (named_by names rs))
        at true l rest = (l refl, rest)
        at false l rest = rest

-- ---- where they stand

pub first_of : {X : Type 0} (xs ys : List X) (k : ℕ) (d : X) → k < length xs
    → slice_index_or (xs ++ ys) k d ≡ slice_index_or xs k d
first_of xs ys k d l = get_or-append xs ys d k l

pub last_of : {X : Type 0} (xs : List X) (y : X) (k : ℕ) (d : X) → k ≡ length xs
    → slice_index_or (xs ++ y ∷ []) k d ≡ y
last_of {X} xs y k d e = ap (λ i. slice_index_or (xs ++ y ∷ []) i d) e
    ∙ get_or-append_seam xs y [] d

pub places_none : (ts : List PlacedRatio) → ArePlaces [] ts []
places_none ts = record {
  one_each = refl;
  within = λ k l. absurd (omega arith);
  each = λ k d l. absurd (omega arith);
}

pub places_push : (picked ts : List PlacedRatio) (ps : List ℕ) (i : ℕ) (t : PlacedRatio)
    → i < length ts → t ≡ slice_index_or ts i t → ArePlaces picked ts ps
    → ArePlaces (picked ++ t ∷ []) ts (ps ++ i ∷ [])
places_push picked ts ps i t l there are = record {
  one_each = omega (
    arith,
    length-append picked (t ∷ []),
    length-append ps (i ∷ []),
    are.one_each,
  );
  within = λ k b. in_list k b (cases_eq k (length ps));
  each = λ k d b. same k d b (cases_eq k (length ps));
}
  where
    before : (k : ℕ) → k < length (ps ++ i ∷ []) → (k ≡ length ps → ⊥) → k < length ps
    before k b d = let e = length-append ps (i ∷ []) in omega (arith, e, b, d)

    in_list : (k : ℕ) → k < length (ps ++ i ∷ []) → ((k ≡ length ps) ⊎ (k ≡ length ps → ⊥))
        → slice_index (ps ++ i ∷ []) k < length ts
    in_list k b (inl e) = subst (λ x. x < length ts) (sym (last_of ps i k 0 e)) l
    in_list k b (inr d) = let c = before k b d in
        subst (λ x. x < length ts) (sym (first_of ps (i ∷ []) k 0 c)) (are.within k c)

    same : (k : ℕ) (d : PlacedRatio) → k < length (ps ++ i ∷ [])
        → ((k ≡ length ps) ⊎ (k ≡ length ps → ⊥))
        → slice_index_or (picked ++ t ∷ []) k d
        ≡ slice_index_or ts (slice_index (ps ++ i ∷ []) k) d
    same k d b (inl e) =
        last_of picked t k d (e ∙ are.one_each) ∙ there ∙ get_or_default ts i t d l
        ∙ ap (λ x. slice_index_or ts x d) (sym (last_of ps i k 0 e))
    same k d b (inr n) =
        let c = before k b n in
        first_of picked (t ∷ []) k d (omega (arith, c, are.one_each)) ∙ are.each k d c
        ∙ ap (λ x. slice_index_or ts x d) (sym (first_of ps (i ∷ []) k 0 c))

-- ---- room for products

pub product_cell : (names : List Named) (c : ℕ) (ts : List PlacedRatio) (d e : ℕ) (met : Bool)
    → length ts ≤ 128 → HasProduct names ts c d e met → IsCell d e
product_cell names c ts d e met few h =
    has_room (40 * length ts) d e (product_of ts (value_in names c)) (length ts)
    (omega (arith, few)) (omega (arith, few)) h.stands

pub are_cells : (names : List Named) (ts : List PlacedRatio) (asked : List Bool)
    (digits exponents : List ℕ) (met : Bool)
    → HaveProducts names ts asked digits exponents met (length asked) → length ts ≤ 128
    → AreCells digits exponents
are_cells names ts asked digits exponents met h few =
    all_have_room (40 * length ts) digits exponents (number_in names ts asked)
    (length ts) (omega (arith, few)) (omega (arith, few)) (omega (
      arith,
      h.as_many_digits,
      h.as_many_exponents,
    )) (all_stand names ts asked digits exponents met h)
