-- What a draft without an earlier kind of fault has: enough that the next kinds can be counted.
use Rattle.std.specs.Prelude.{◌≡◌, ℕ, ◌+◌, ◌≤◌, List, map, length, Bool, true, false, ◌==◌, not, nat_le, nat_lt, pos, negsuc, None, All, string_bytes, Vec, ℤ}
use Rattle.std.proofs.Common.{refl, ◌∙◌, arith, get_or}
use Rattle.std.proofs.lemmas.List.{length-map}
use Rattle.std.proofs.lemmas.Bool.{eqb-true, leb-true, le-leb, ltb-false}
use Rattle.std.specs.declared.alloc.Global.{Global}
use Rattle.mk_names.specs.inner.TextLaws.{both}
use Rattle.mk_net.specs.Firsts.{fault_if, first_in}
use Rattle.mk_net.specs.Drafts.{DraftOfVariable, draft_of_variable}
use Rattle.mk_net.specs.Checked.{is_within, is_share, count_at, count_fault, width_of, width_at, entry_of, entry_at}
use Rattle.mk_net.specs.inner.Counted.{IsCounted, HasWidths, HasShares}
use Rattle.mk_names.specs.declared.key.Key.TheVariants.{Variable as VariableKey, Values, Parents}
use Rattle.mk_net.specs.declared.fault.NetFault.TheVariants.{Count, Width, Entry}
use Rattle.mk_net.specs.declared.draft.VariableDraft.{VariableDraft}
use Rattle.mk_net.proofs.Firsts.{neither, untested, passed, none_at, none_of_map}

pub within : (low high n : ℕ) → is_within low high n ≡ true → (low ≤ n) × (n ≤ high)
within low high n h =
    let parts = both (nat_le low n) (nat_le n high) h in
    (leb-true low n (parts.0), leb-true n high (parts.1))

-- the numbers of a draft
pub few_variables : (draft : List DraftOfVariable) → count_fault draft ≡ None → (1 ≤ length draft) × (length draft ≤ 256)
few_variables draft h =
    within 1 256 (length draft) (passed (is_within 1 256 (length draft)) (Count VariableKey 0 (pos (length draft)))
    ((neither (fault_if (not (is_within 1 256 (length draft))) (Count VariableKey 0 (pos (length draft)))) (first_in count_at 1 draft) h).0))

pub few_values : (k : ℕ) (v : DraftOfVariable) → count_at k v ≡ None → (2 ≤ length v.values) × (length v.values ≤ 16)
few_values k v h =
    within 2 16 (length v.values) (passed (is_within 2 16 (length v.values)) (Count Values k (pos (length v.values)))
    ((neither (fault_if (not (is_within 2 16 (length v.values))) (Count Values k (pos (length v.values))))
    (fault_if (nat_lt 8 (length v.parents)) (Count Parents k (pos (length v.parents)))) h).0))

pub few_parents : (k : ℕ) (v : DraftOfVariable) → count_at k v ≡ None → length v.parents ≤ 8
few_parents k v h =
    ltb-false 8 (length v.parents) (untested (nat_lt 8 (length v.parents)) (Count Parents k (pos (length v.parents)))
    ((neither (fault_if (not (is_within 2 16 (length v.values))) (Count Values k (pos (length v.values))))
    (fault_if (nat_lt 8 (length v.parents)) (Count Parents k (pos (length v.parents)))) h).1))

pub counted : (vs : List VariableDraft) → count_fault (map draft_of_variable vs) ≡ None → All IsCounted vs
counted vs h i d inside =
    let here : count_at (1 + i) (draft_of_variable (get_or vs i d)) ≡ None =
    none_of_map draft_of_variable count_at 1 vs i d
    ((neither (fault_if (not (is_within 1 256 (length (map draft_of_variable vs)))) (Count VariableKey 0 (pos (length (map draft_of_variable vs)))))
    (first_in count_at 1 (map draft_of_variable vs)) h).1) inside in
    record {
      few_values = omega (arith, (few_values (1 + i) (draft_of_variable (get_or vs i d)) here).1, length-map (get_or vs i d).values.items string_bytes);
      few_parents = omega (arith, few_parents (1 + i) (draft_of_variable (get_or vs i d)) here, length-map (get_or vs i d).parents.items string_bytes);
    }

-- the widths of its rows
pub width_here : (values k row : ℕ) (entries : List ℤ) → width_of values k row entries ≡ None → length entries ≡ values
width_here values k row entries h =
    eqb-true (length entries) values (passed (length entries == values) (Width k row (pos (length entries))) h)

pub widths_here : (k : ℕ) (v : VariableDraft) → width_at k (draft_of_variable v) ≡ None →
    All (λ (row : Vec ℤ Global). length row.items ≡ length v.values.items) v.rows.items
widths_here k v h j d inside =
    width_here (length (map string_bytes v.values.items)) k (1 + j) (get_or v.rows.items j d).items
    (none_of_map (λ (row : Vec ℤ Global). row.items) (width_of (length (map string_bytes v.values.items)) k) 1 v.rows.items j d h inside)
    ∙ length-map v.values.items string_bytes

pub widths_counted : (vs : List VariableDraft) → All IsCounted vs → first_in width_at 1 (map draft_of_variable vs) ≡ None → All HasWidths vs
widths_counted vs few h i d inside j row within_rows =
    omega (
      arith,
      (few i d inside).few_values,
      widths_here (1 + i) (get_or vs i d) (none_of_map draft_of_variable width_at 1 vs i d h inside) j row within_rows,
    )

-- its entries
pub shares_here : (zeros : Bool) (k row : ℕ) (entries : List ℤ) → first_in (entry_of zeros k row) 1 entries ≡ None → All (λ (e : ℤ). is_share zeros e ≡ true) entries
shares_here zeros k row entries h n d inside =
    passed (is_share zeros (get_or entries n d)) (Entry k row (1 + n)) (none_at (entry_of zeros k row) 1 entries n d h inside)

-- a share is one where some may be nothing
share_of : (zeros : Bool) (entry : ℤ) → is_share zeros entry ≡ true → is_share true entry ≡ true
share_of true entry h = h
share_of false (pos n) h = rw (le-leb 0 n (omega arith), le-leb n 1000000 (within 1 1000000 n h).1) refl
share_of false (negsuc n) h = cc

pub entries_here : (zeros : Bool) (k : ℕ) (v : VariableDraft) → entry_at zeros k (draft_of_variable v) ≡ None → HasShares v
entries_here zeros k v h j d inside n e within_row =
    share_of zeros (get_or (get_or v.rows.items j d).items n e) (shares_here zeros k (1 + j) (get_or v.rows.items j d).items
    (none_of_map (λ (row : Vec ℤ Global). row.items) (λ (row : ℕ) (entries : List ℤ). first_in (entry_of zeros k row) 1 entries) 1 v.rows.items j d h inside) n e within_row)

pub shares_counted : (zeros : Bool) (vs : List VariableDraft) → first_in (entry_at zeros) 1 (map draft_of_variable vs) ≡ None → All HasShares vs
shares_counted zeros vs h i d inside = entries_here zeros (1 + i) (get_or vs i d) (none_of_map draft_of_variable (entry_at zeros) 1 vs i d h inside)
