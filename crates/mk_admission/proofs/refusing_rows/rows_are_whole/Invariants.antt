use Rattle.std.proofs.Common.{◌≡◌, drop}
use Rattle.mk_admission.proofs.AddedRows.{first_sum}
use Rattle.mk_admission.proofs.refusing_rows.rows_are_whole.Given as goal

abbrev pub invariant-loop-row : goal.invariant-loop-row
invariant-loop-row l = first_sum (drop l.row-index l.rows) ≡ first_sum l.rows
