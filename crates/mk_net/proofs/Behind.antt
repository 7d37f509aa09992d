-- A network with one variable behind it.
use Rattle.std.specs.Prelude.{◌≡◌, ◌≢◌, ℕ, zero, suc, ◌+◌, ◌*◌, ◌<◌, ◌≤◌, List, [], ◌∷◌, ◌++◌}
use Rattle.std.specs.Prelude.{filter, length, All, get_or, slice_index, Bool}
use Rattle.std.specs.Prelude.{cond}
use Rattle.std.specs.List.{AllByRecursion, range_with_len}
use Rattle.std.proofs.Common.{◌⊎◌, inl, inr, refl, sym, ap, ap₂, subst, ◌∙◌, arith}
use Rattle.std.proofs.Math.Nat.{one-le-mul}
use Rattle.std.proofs.lemmas.Bool.{cases_lt}
use Rattle.std.proofs.lemmas.List.{map-append, get_or_append_left, get_or_push, length_push}
use Rattle.std.proofs.lemmas.List.{length-map}
use Rattle.std.proofs.lemmas.List.Quantifiers.{all_pairs_push}
use Rattle.std.proofs.lemmas.List.Elements.{recursion_from_All}
use Rattle.mk_names.specs.Name.{IsName}
use Rattle.mk_net.specs.Bounds.{max_values, max_parents}
use Rattle.mk_net.specs.Network.{Variable, IsVariable, IsNetwork, sizes, names, choices}
use Rattle.mk_net.specs.Named.{variable_at, nobody}
use Rattle.mk_net.specs.Zeros.{HasNoZeros}
use Rattle.mk_net.specs.Additions.{variable_of_addition, CanExtend}
use Rattle.mk_net.specs.declared.addition.Addition.{Addition}

-- the product looks at the values of the parents alone
pub choices_same : (ns ms : List ℕ) (n : ℕ) → ((p : ℕ) → p < n → slice_index ms p
    ≡ slice_index ns p) →
    (parents : List ℕ) → AllByRecursion (λ p. p < n) parents → choices ms parents
    ≡ choices ns parents
choices_same ns ms n same [] h = refl
choices_same ns ms n same (p ∷ parents) h = ap₂ ◌*◌ (same p h.0)
    (choices_same ns ms n same parents h.1)

choices_positive : (ns : List ℕ) (n : ℕ) → ((p : ℕ) → p < n → 1 ≤ slice_index ns p) →
    (parents : List ℕ) → AllByRecursion (λ p. p < n) parents → 1 ≤ choices ns parents
choices_positive ns n some [] h = omega arith
choices_positive ns n some (p ∷ parents) h =
    one-le-mul (some p h.0) (choices_positive ns n some parents h.1)

-- tests that agree on some numbers keep the same of them
pub filter_below : (p q : ℕ → Bool) (n a : ℕ) → ((k : ℕ) → a ≤ k → k < a + n → p k ≡ q k) →
    filter p (range_with_len a n) ≡ filter q (range_with_len a n)
filter_below p q zero a h = refl
filter_below p q (suc n) a h =
    ap₂ (λ (b : Bool) (rest : List ℕ). cond b (a ∷ rest) rest) (h a (omega arith) (omega arith))
    (filter_below p q n (a + 1) (λ k l m. h k (omega (arith, l)) (omega (arith, m))))

module _ (network : List Variable) (v : Variable) where
  pub sizes_more : sizes (network ++ v ∷ []) ≡ sizes network ++ length v.values ∷ []
  sizes_more = map-append (λ (w : Variable). length w.values) network (v ∷ [])

  pub names_more : names (network ++ v ∷ []) ≡ names network ++ v.name ∷ []
  names_more = map-append (λ (w : Variable). w.name) network (v ∷ [])

  -- the earlier variables are as they were
  pub size_before : (p : ℕ) → p < length network →
      slice_index (sizes (network ++ v ∷ [])) p ≡ slice_index (sizes network) p
  size_before p h =
      ap (λ ns. slice_index ns p) sizes_more
      ∙ get_or_append_left (sizes network) (length v.values ∷ []) 0 p
      (omega (arith, h, length-map network (λ (w : Variable). length w.values)))

  pub size_last : slice_index (sizes (network ++ v ∷ [])) (length network) ≡ length v.values
  size_last =
      ap (λ ns. slice_index ns (length network)) sizes_more
      ∙ get_or_push (sizes network) (length v.values) 0 (length network)
      (length-map network (λ (w : Variable). length w.values))

  pub variable_before : (k : ℕ) → k < length network →
      variable_at (network ++ v ∷ []) k ≡ variable_at network k
  variable_before k h = get_or_append_left network (v ∷ []) nobody k h

  pub variable_last : variable_at (network ++ v ∷ []) (length network) ≡ v
  variable_last = get_or_push network v nobody (length network) refl

  choices_before : (parents : List ℕ) → All (λ p. p < length network) parents →
      choices (sizes (network ++ v ∷ [])) parents ≡ choices (sizes network) parents
  choices_before parents h = choices_same (sizes network) (sizes (network ++ v ∷ []))
      (length network) size_before parents
      (recursion_from_All (λ p. p < length network) parents h)

  -- a variable that is one over the earlier sizes is one over all
  variable_stays : (k : ℕ) (w : Variable) → k ≤ length network → IsVariable (sizes network) k w →
      IsVariable (sizes (network ++ v ∷ [])) k w
  variable_stays k w h is = record {
    name = is.name;
    two_values = is.two_values;
    few_values = is.few_values;
    values_named = is.values_named;
    values_distinct = is.values_distinct;
    few_parents = is.few_parents;
    parents_earlier = is.parents_earlier;
    parents_distinct = is.parents_distinct;
    one_row_each = is.one_row_each ∙ sym (choices_before w.parents
        (λ i d inside. let earlier : get_or w.parents i d < k =
        is.parents_earlier i d inside in omega (arith, earlier, h)));
    rows_fit = is.rows_fit;
  }

  -- a network followed by a variable of a new name is one
  network_behind : IsNetwork network → length network < 256
      → All (λ name. v.name ≢ name) (names network) →
      IsVariable (sizes network) (length network) v → IsNetwork (network ++ v ∷ [])
  network_behind net room untaken is = record {
    some = omega (arith, length_push network v);
    few = omega (arith, room, length_push network v);
    names_distinct = rw names_more
        (all_pairs_push (λ (x y : List ℕ). x ≢ y) (names network) v.name net.names_distinct
        (λ k d inside same. untaken k d inside (sym same)));
    each = λ k d inside. at k d inside (cases_lt k (length network));
  }
    where
      at : (k : ℕ) (d : Variable) → k < length (network ++ v ∷ []) → (k < length network)
          ⊎ (length network ≤ k) →
          IsVariable (sizes (network ++ v ∷ [])) k (get_or (network ++ v ∷ []) k d)
      at k d inside (inl before) = rw (get_or_append_left network (v ∷ []) d k before)
          (variable_stays k (get_or network k d) (omega (arith, before)) (net.each k d before))
      at k d inside (inr behind) =
          let last : length network ≡ k = omega (arith, inside, behind, length_push network v) in
          rw (get_or_push network v d k last)
          (variable_stays k v (omega (arith, last))
          (subst (λ n. IsVariable (sizes network) n v) last is))

module _ (network : List Variable) (addition : Addition) (net : IsNetwork network)
    (can : CanExtend network addition) where
  module _ (named : IsName addition.variable) (values_named : All IsName addition.values.items)
      (few_values : length addition.values.items ≤ max_values)
      (few_parents : length addition.parents.items ≤ max_parents) where
    is_variable : IsVariable (sizes network) (length network) (variable_of_addition addition)
    is_variable = record {
      name = named;
      two_values = can.two_values;
      few_values = few_values;
      values_named = values_named;
      values_distinct = can.values_distinct;
      few_parents = few_parents;
      parents_earlier = can.parents_known;
      parents_distinct = can.parents_distinct;
      one_row_each = can.one_row_each;
      rows_fit = λ i d inside. record {
        one_each = can.widths i d inside;
        whole =
            can.sums i d inside;
      };
    }

    pub extended_is_network : IsNetwork (network ++ variable_of_addition addition ∷ [])
    extended_is_network =
        network_behind network (variable_of_addition addition) net can.room can.untaken is_variable

  abbrev pub longer : List Variable
  longer = network ++ variable_of_addition addition ∷ []

  pub extended_has_no_zeros : HasNoZeros network
      → All (All (λ share. 1 ≤ share)) addition.rows.items → HasNoZeros longer
  extended_has_no_zeros none some k inside = at (cases_lt k (length network))
    where
      at : (k < length network) ⊎ (length network ≤ k)
          → All (All (λ share. 1 ≤ share)) (variable_at longer k).rows
      at (inl before) = subst (λ (w : Variable). All (All (λ share. 1 ≤ share)) w.rows)
          (sym (variable_before network (variable_of_addition addition) k before)) (none k before)
      at (inr behind) =
          let last : length network ≡ k =
          omega (arith, inside, behind, length_push network (variable_of_addition addition)) in
          subst (λ n. All (All (λ share. 1 ≤ share)) (variable_at longer n).rows) last
          (subst (λ (w : Variable). All (All (λ share. 1 ≤ share)) w.rows)
          (sym (variable_last network (variable_of_addition addition)))
          some)
