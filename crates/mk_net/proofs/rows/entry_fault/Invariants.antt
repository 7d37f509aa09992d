use Rattle.std.proofs.Common.{◌≡◌, ◌+◌, drop}
use Rattle.mk_net.specs.Firsts.{first_in}
use Rattle.mk_net.specs.Checked.{entry_of}
use Rattle.mk_net.proofs.rows.entry_fault.Given as goal

abbrev pub invariant-columns : goal.invariant-columns
invariant-columns l =
    (l.column ≡ l.entry-index)
    × (first_in (entry_of l.zeros l.variable l.row) 1 l.entries ≡ first_in (entry_of l.zeros l.variable l.row) (l.column + 1) (drop l.entry-index l.entries))
