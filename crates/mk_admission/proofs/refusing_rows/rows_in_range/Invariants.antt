use Rattle.std.proofs.Common.{◌≡◌, drop}
use Rattle.mk_rules.specs.Refusals.{ranges}
use Rattle.mk_admission.proofs.AddedRows.{all_of}
use Rattle.mk_admission.proofs.refusing_rows.rows_in_range.Given as goal

abbrev pub invariant-loop-row : goal.invariant-loop-row
invariant-loop-row l =
    ranges l.least l.most (all_of (drop l.row-index l.rows)) ≡ ranges l.least l.most (all_of l.rows)
