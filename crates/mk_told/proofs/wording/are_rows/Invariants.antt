use Rattle.std.proofs.Common.{take, All}
use Rattle.mk_net.specs.Bounds.{max_values}
use Rattle.mk_text.specs.Numbers.{IsShort}
use Rattle.mk_addition.specs.Adds.{AreBetween}
use Rattle.mk_told.proofs.wording.are_rows.Given as goal

abbrev pub invariant-loop-row : goal.invariant-loop-row
invariant-loop-row l = All (AreBetween 1 max_values IsShort) (take l.row-index l.rows)
