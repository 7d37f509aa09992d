-- What is known of the variables of a draft, once it was tried for a kind of fault: enough that the next kinds can be counted.
use Rattle.std.specs.Prelude.{◌≡◌, ◌≤◌, ◌<◌, ◌^◌, length, All, true}
use Rattle.mk_net.specs.Bounds.{max_values, max_parents}
use Rattle.mk_net.specs.Checked.{is_share}
use Rattle.mk_net.specs.declared.draft.VariableDraft.{VariableDraft}

-- its values and parents are within their limits
pub record IsCounted (v : VariableDraft) : Type 0 where
  pub few_values : length v.values.items ≤ max_values
  pub few_parents : length v.parents.items ≤ max_parents

-- its rows can be numbered
abbrev pub IsNumbered : VariableDraft → Type 0
IsNumbered v = length v.rows.items < 2 ^ 32

-- its rows are as short as there can be values
abbrev pub HasWidths : VariableDraft → Type 0
HasWidths v = All (λ row. length row.items ≤ max_values) v.rows.items

-- its entries are shares, of which some may be nothing
abbrev pub HasShares : VariableDraft → Type 0
HasShares v = All (λ row. All (λ e. is_share true e ≡ true) row.items) v.rows.items
