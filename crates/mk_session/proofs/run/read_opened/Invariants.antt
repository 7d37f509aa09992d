use Rattle.std.proofs.Common.{◌-◌, length}
use Rattle.mk_session.proofs.Going.{IsLoading}
use Rattle.mk_session.proofs.run.read_opened.Given as goal

abbrev pub invariant-pieces : goal.invariant-pieces
invariant-pieces g l = IsLoading l.most (g.I.Inputs.market l.fn.inputs) l.bytes.items
    (g.I.Inputs.market l.inputs) (g.I.Inputs.commands l.fn.inputs)
    (g.I.Inputs.commands l.inputs) (g.I.Inputs.file l.fn.inputs) (g.I.Inputs.file l.inputs)
    (g.I.Inputs.faults l.fn.inputs) (g.I.Inputs.faults l.inputs)

abbrev pub decreases-pieces : goal.decreases-pieces
decreases-pieces g l = l.most - length l.bytes.items
