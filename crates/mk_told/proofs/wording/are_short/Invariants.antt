use Rattle.std.proofs.Common.{take, All}
use Rattle.mk_text.specs.Numbers.{IsShort}
use Rattle.mk_told.proofs.wording.are_short.Given as goal

abbrev pub invariant-loop-number : goal.invariant-loop-number
invariant-loop-number l = All IsShort (take l.number-index l.numbers)
