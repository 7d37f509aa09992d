use Rattle.std.proofs.Common.{◌-◌, Contains}
use Rattle.mk_io.specs.Outside.{prepend_known}
use Rattle.mk_io.proofs.Cuts.{CutSoFar, Elsewhere, Held}
use Rattle.mk_io.proofs.cut.cut_by_bytes.Given as goal

abbrev pub invariant-loop-pending : goal.invariant-loop-pending
invariant-loop-pending g l =
    CutSoFar 1025 l.text l.size l.room (prepend_known l.initial.pending (g.I.Inputs.commands l.initial.inputs)) (prepend_known l.pending (g.I.Inputs.commands l.inputs)) × Elsewhere (g.I.Inputs.market l.initial.inputs) (g.I.Inputs.market l.inputs) (g.I.Inputs.file l.initial.inputs) (g.I.Inputs.file l.inputs) (g.I.Inputs.faults l.initial.inputs) (g.I.Inputs.faults l.inputs) × (Contains l.initial.pending 10 → Held l.initial.pending l.pending l.initial.inputs l.inputs l.size)

abbrev pub decreases-loop-pending : goal.decreases-loop-pending
decreases-loop-pending g l = l.room - l.size
