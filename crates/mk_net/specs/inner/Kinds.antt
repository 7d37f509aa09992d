-- The kinds of faults of a variable, and what is known once those before each are tried.
use Rattle.std.specs.Prelude.{ℕ, ◌≤◌, List, length, All, Bool, Option, ⊤}
use Rattle.mk_net.specs.Bounds.{max_parents}
use Rattle.mk_net.specs.Drafts.{DraftOfVariable}
use Rattle.mk_net.specs.Checked.{count_at, name_at, repeat_at, parent_at, rows_at, width_at, entry_at, sum_at}
use Rattle.mk_net.specs.inner.Counted.{IsCounted, IsNumbered, HasWidths, HasShares}
use Rattle.mk_net.specs.declared.draft.VariableDraft.{VariableDraft}
use Rattle.mk_net.specs.declared.fault.NetFault.{NetFault}
use Rattle.mk_net.specs.declared.order.Kind.{Kind}
use Rattle.mk_net.specs.declared.order.Kind.TheVariants.{Counts, Names, Repeats, Parents, Rows, Widths, Entries, Sums}

abbrev pub fault_at : Kind → Bool → List DraftOfVariable → ℕ → DraftOfVariable → Option NetFault
fault_at Counts zeros draft = count_at
fault_at Names zeros draft = name_at
fault_at Repeats zeros draft = repeat_at draft
fault_at Parents zeros draft = parent_at draft
fault_at Rows zeros draft = rows_at draft
fault_at Widths zeros draft = width_at
fault_at Entries zeros draft = entry_at zeros
fault_at Sums zeros draft = sum_at

-- what all variables must be for the kind to be tried
abbrev pub IsReady : Kind → List VariableDraft → Type 0
IsReady Rows vs = All IsCounted vs
IsReady Widths vs = All IsNumbered vs
IsReady Entries vs = All IsNumbered vs × All HasWidths vs
IsReady Sums vs = All IsNumbered vs × (All HasWidths vs × All HasShares vs)
IsReady _ vs = ⊤

-- what one of them must be
abbrev pub Allows : Kind → VariableDraft → Type 0
Allows Rows v = length v.parents.items ≤ max_parents
Allows Widths v = IsNumbered v
Allows Entries v = IsNumbered v × HasWidths v
Allows Sums v = IsNumbered v × (HasWidths v × HasShares v)
Allows _ v = ⊤
