-- The network of a draft without a fault is a network.
use Rattle.std.specs.Prelude.{◌≡◌, ℕ, zero, suc, ◌+◌, ◌-◌, ◌<◌, ◌≤◌, List, [], ◌∷◌, map, length, sum, Bool, true, false, ◌&&◌, ◌||◌, ◌==◌, not, nat_le, pos, negsuc, ℤ, None, All, get_or}
use Rattle.std.specs.List.{list_all}
use Rattle.std.proofs.Common.{refl, sym, ap, subst, ◌∙◌, arith}
use Rattle.std.proofs.lemmas.List.{get_or-map, length-map}
use Rattle.std.proofs.lemmas.List.Elements.{All-map}
use Rattle.std.proofs.lemmas.Bool.{eqb-true, leb-true, ltb-true, not-false}
use Rattle.mk_names.specs.Name.{IsName, is_name, max_name_bytes, begins_with_letter, is_name_byte}
use Rattle.mk_net.specs.Network.{Variable, IsRow, IsVariable, IsNetwork, sizes, names, choices}
use Rattle.mk_names.specs.inner.TextLaws.{both}
use Rattle.mk_net.specs.Named.{nobody}
use Rattle.mk_net.specs.Zeros.{HasNoZeros}
use Rattle.mk_net.specs.Firsts.{fault_if, first_in}
use Rattle.mk_net.specs.Drafts.{DraftOfVariable}
use Rattle.mk_net.specs.Checked.{is_within, has_double, number_of, is_before, counts, parents_in, share, is_share, count_at, name_at, repeat_at, parent_at, rows_at, width_of, width_at, entry_of, entry_at, sum_of, sum_at, count_fault, later_fault, first_fault, checked_variable, checked_network}
use Rattle.mk_names.specs.declared.key.Key.TheVariants.{Variable as VariableKey}
use Rattle.mk_net.specs.declared.fault.NetFault.TheVariants.{Count, BadName, Repeat, Parent, Rows, Sum}
use Rattle.mk_net.proofs.Firsts.{neither, untested, passed, none_at}
use Rattle.mk_net.proofs.Taken.{neither_of}
use Rattle.mk_net.proofs.Distinct.{no_draft, distinct_texts, distinct_numbers, distinct_names}
use Rattle.mk_net.proofs.Counting.{within, few_variables, few_values, few_parents, width_here, shares_here}

-- variable number k has no fault
pub record IsFaultless (draft : List DraftOfVariable) (k : ℕ) (v : DraftOfVariable) : Type 0 where
  pub counts : count_at k v ≡ None
  pub names : name_at k v ≡ None
  pub repeats : repeat_at draft k v ≡ None
  pub parents : parent_at draft k v ≡ None
  pub rows : rows_at draft k v ≡ None
  pub widths : width_at k v ≡ None
  pub sums : sum_at k v ≡ None

module _ (zeros : Bool) (draft : List DraftOfVariable) (faultless : first_fault zeros draft ≡ None) where
  no_count : count_fault draft ≡ None
  no_count = (neither (count_fault draft) (later_fault zeros draft) faultless).0

  no_later : later_fault zeros draft ≡ None
  no_later = (neither (count_fault draft) (later_fault zeros draft) faultless).1

  no_entry_and_sum : (first_in (entry_at zeros) 1 draft ≡ None) × (first_in sum_at 1 draft ≡ None)
  no_entry_and_sum =
      let name = neither (first_in name_at 1 draft) _ no_later in
      let repeat = neither (first_in (repeat_at draft) 1 draft) _ (name.1) in
      let parent = neither (first_in (parent_at draft) 1 draft) _ (repeat.1) in
      let row = neither (first_in (rows_at draft) 1 draft) _ (parent.1) in
      let width = neither (first_in width_at 1 draft) _ (row.1) in
      let entry = neither (first_in (entry_at zeros) 1 draft) _ (width.1) in
      (entry.0, (neither (first_in sum_at 1 draft) _ (entry.1)).0)

  pub entries_at : (i : ℕ) (d : DraftOfVariable) → i < length draft → entry_at zeros (1 + i) (get_or draft i d) ≡ None
  entries_at i d inside = none_at (entry_at zeros) 1 draft i d (no_entry_and_sum.0) inside

  pub faultless_at : (i : ℕ) (d : DraftOfVariable) → i < length draft → IsFaultless draft (1 + i) (get_or draft i d)
  faultless_at i d inside =
      let count = neither (fault_if (not (is_within 1 256 (length draft))) (Count VariableKey 0 (pos (length draft)))) (first_in count_at 1 draft) no_count in
      let name = neither (first_in name_at 1 draft) _ no_later in
      let repeat = neither (first_in (repeat_at draft) 1 draft) _ (name.1) in
      let parent = neither (first_in (parent_at draft) 1 draft) _ (repeat.1) in
      let row = neither (first_in (rows_at draft) 1 draft) _ (parent.1) in
      let width = neither (first_in width_at 1 draft) _ (row.1) in
      record {
        counts = none_at count_at 1 draft i d (count.1) inside;
        names = none_at name_at 1 draft i d (name.0) inside;
        repeats = none_at (repeat_at draft) 1 draft i d (repeat.0) inside;
        parents = none_at (parent_at draft) 1 draft i d (parent.0) inside;
        rows = none_at (rows_at draft) 1 draft i d (row.0) inside;
        widths = none_at width_at 1 draft i d (width.0) inside;
        sums = none_at sum_at 1 draft i d (no_entry_and_sum.1) inside;
      }

-- what an item of a list has, where all of them have it
pub all_at : {X : Type 0} (p : X → Bool) (xs : List X) (i : ℕ) (d : X) → list_all p xs ≡ true → i < length xs → p (get_or xs i d) ≡ true
all_at p [] i d h inside = absurd (omega (arith, inside))
all_at p (x ∷ xs) zero d h inside = (both (p x) (list_all p xs) h).0
all_at p (x ∷ xs) (suc i) d h inside = all_at p xs i d ((both (p x) (list_all p xs) h).1) (omega (arith, inside))

-- a text that passes the test is a name
pub name_of : (bytes : List ℕ) → is_name bytes ≡ true → IsName bytes
name_of bytes h =
    let parts = both (nat_le (length bytes) max_name_bytes) (begins_with_letter bytes && list_all is_name_byte bytes) h in
    let more = both (begins_with_letter bytes) (list_all is_name_byte bytes) (parts.1) in
    record { short = leb-true (length bytes) max_name_bytes (parts.0); first = more.0; each = more.1 }

share_positive : (entry : ℤ) → is_share false entry ≡ true → 1 ≤ share entry
share_positive (pos n) h = (within 1 1000000 n h).0
share_positive (negsuc n) h = cc

module _ (draft : List DraftOfVariable) (i : ℕ) (v : DraftOfVariable) (is : IsFaultless draft (1 + i) v) where
  -- its words
  pub its_name : is_name v.name ≡ true
  its_name = (both (is_name v.name) (list_all is_name v.values) (passed (is_name v.name && list_all is_name v.values) (BadName (1 + i)) is.names)).0

  pub its_values : list_all is_name v.values ≡ true
  its_values = (both (is_name v.name) (list_all is_name v.values) (passed (is_name v.name && list_all is_name v.values) (BadName (1 + i)) is.names)).1

  pub its_name_fresh : is_before draft (1 + i) v.name ≡ false
  its_name_fresh = (neither_of (is_before draft (1 + i) v.name) (has_double v.values) (untested (is_before draft (1 + i) v.name || has_double v.values) (Repeat (1 + i)) is.repeats)).0

  pub its_values_apart : has_double v.values ≡ false
  its_values_apart = (neither_of (is_before draft (1 + i) v.name) (has_double v.values) (untested (is_before draft (1 + i) v.name || has_double v.values) (Repeat (1 + i)) is.repeats)).1

  its_parents : list_all (is_before draft (1 + i)) v.parents ≡ true
  its_parents =
      not-false (list_all (is_before draft (1 + i)) v.parents)
      ((neither_of (not (list_all (is_before draft (1 + i)) v.parents)) (has_double v.parents)
      (untested (not (list_all (is_before draft (1 + i)) v.parents) || has_double v.parents) (Parent (1 + i)) is.parents)).0)

  its_parents_apart : has_double v.parents ≡ false
  its_parents_apart =
      (neither_of (not (list_all (is_before draft (1 + i)) v.parents)) (has_double v.parents)
      (untested (not (list_all (is_before draft (1 + i)) v.parents) || has_double v.parents) (Parent (1 + i)) is.parents)).1

  earlier : All (λ (name : List ℕ). number_of draft name < i) v.parents
  earlier j d inside =
      let before : number_of draft (get_or v.parents j d) < 1 + i - 1 =
      ltb-true (number_of draft (get_or v.parents j d)) (1 + i - 1) (all_at (is_before draft (1 + i)) v.parents j d its_parents inside) in
      omega (arith, before)

  row_fits : (j : ℕ) (d : List ℤ) → j < length v.rows → IsRow (length v.values) (map share (get_or v.rows j d))
  row_fits j d inside =
      let row : List ℤ = get_or v.rows j d in
      record {
        one_each = length-map row share ∙ width_here (length v.values) (1 + i) (1 + j) row (none_at (width_of (length v.values) (1 + i)) 1 v.rows j d is.widths inside);
        whole = eqb-true (sum (map share row)) 1000000
            (passed (sum (map share row) == 1000000) (Sum (1 + i) (1 + j) (pos (sum (map share row)))) (none_at (sum_of (1 + i)) 1 v.rows j d is.sums inside));
      }

  pub checked_is_variable : i ≤ length draft → IsVariable (counts draft) i (checked_variable draft v)
  checked_is_variable inside = record {
    name = name_of v.name its_name;
    two_values = (few_values (1 + i) v is.counts).0;
    few_values = (few_values (1 + i) v is.counts).1;
    values_named = λ k d within. name_of (get_or v.values k d) (all_at is_name v.values k d its_values within);
    values_distinct = distinct_texts v.values its_values_apart;
    few_parents = omega (arith, few_parents (1 + i) v is.counts, length-map v.parents (number_of draft));
    parents_earlier = All-map (λ (p : ℕ). p < i) (number_of draft) v.parents earlier;
    parents_distinct = distinct_numbers draft v.parents its_parents_apart (λ k d within. let p = earlier k d within in omega arith);
    one_row_each = length-map v.rows (map share)
        ∙ eqb-true (length v.rows) (choices (counts draft) (parents_in draft v)) (passed (length v.rows == choices (counts draft) (parents_in draft v)) (Rows (1 + i) (pos (length v.rows))) is.rows);
    rows_fit = All-map (IsRow (length v.values)) (map share) v.rows row_fits;
  }

sizes_checked : (draft vs : List DraftOfVariable) → sizes (map (checked_variable draft) vs) ≡ counts vs
sizes_checked draft [] = refl
sizes_checked draft (v ∷ vs) = ap (λ (rest : List ℕ). length v.values ∷ rest) (sizes_checked draft vs)

names_checked : (draft vs : List DraftOfVariable) → names (map (checked_variable draft) vs) ≡ map (λ (v : DraftOfVariable). v.name) vs
names_checked draft [] = refl
names_checked draft (v ∷ vs) = ap (λ (rest : List (List ℕ)). v.name ∷ rest) (names_checked draft vs)

pub checked_is_network : (zeros : Bool) (draft : List DraftOfVariable) → first_fault zeros draft ≡ None → IsNetwork (checked_network draft)
checked_is_network zeros draft h = record {
  some = omega (arith, (few_variables draft (no_count zeros draft h)).0, length-map draft (checked_variable draft));
  few = omega (arith, (few_variables draft (no_count zeros draft h)).1, length-map draft (checked_variable draft));
  names_distinct = rw (names_checked draft draft) (distinct_names draft (λ k within. its_name_fresh draft k (get_or draft k no_draft) (faultless_at zeros draft h k no_draft within)));
  each = λ k d inside.
      let within : k < length draft = omega (arith, inside, length-map draft (checked_variable draft)) in
      rw (sizes_checked draft draft, get_or-map (checked_variable draft) draft k no_draft d within)
      (checked_is_variable draft k (get_or draft k no_draft) (faultless_at zeros draft h k no_draft within) (omega arith));
}

-- entries from 1 are no shares of nothing
rows_positive : (v : DraftOfVariable) (k : ℕ) → entry_at false k v ≡ None → All (All (λ (share : ℕ). 1 ≤ share)) (map (map share) v.rows)
rows_positive v k none = All-map (All (λ (share : ℕ). 1 ≤ share)) (map share) v.rows (λ j d inside.
    All-map (λ (share : ℕ). 1 ≤ share) share (get_or v.rows j d) (λ n e within.
    share_positive (get_or (get_or v.rows j d) n e)
    (shares_here false k (1 + j) (get_or v.rows j d) (none_at (λ (row : ℕ) (entries : List ℤ). first_in (entry_of false k row) 1 entries) 1 v.rows j d none inside) n e within)))

checked_has_no_zeros : (draft : List DraftOfVariable) → first_fault false draft ≡ None → HasNoZeros (checked_network draft)
checked_has_no_zeros draft h k inside =
    let within : k < length draft = omega (arith, inside, length-map draft (checked_variable draft)) in
    rw (get_or-map (checked_variable draft) draft k no_draft nobody within)
    (rows_positive (get_or draft k no_draft) (1 + k) (entries_at false draft h k no_draft within))

pub no_zeros : (zeros : Bool) (draft : List DraftOfVariable) (network : List Variable) → first_fault zeros draft ≡ None → network ≡ checked_network draft →
    zeros ≡ false → HasNoZeros network
no_zeros true draft network h same never = cc
no_zeros false draft network h same without = subst (λ (n : List Variable). HasNoZeros n) (sym same) (checked_has_no_zeros draft h)
