use Rattle.std.proofs.Common.{take, All}
use Rattle.mk_names.specs.Name.{IsName}
use Rattle.mk_told.proofs.wording.read_names.Given as goal

abbrev pub invariant-loop-name : goal.invariant-loop-name
invariant-loop-name l = All IsName (take l.name-index l.names)
