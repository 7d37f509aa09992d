use Rattle.mk_scope.specs.inner.Strides.{values_let}
use Rattle.mk_scope.proofs.Listed.{cells_of_event_few}
use Rattle.mk_scope.proofs.Ready.{tail_some}
use Rattle.mk_scope.proofs.scope.Scope.runs_where.Goals as goal

pub returns-clause-few : goal.returns-clause-few
returns-clause-few c = cells_of_event_few c.args.self.now c.args.event.now

pub returns-clause-some : goal.returns-clause-some
returns-clause-some c =
    tail_some c.args.self.now c.cells.ensures.scope (values_let c.args.self.now c.args.event.now) c.free_tail-tail.result.variables c.free_tail-tail.result.cells c.free_tail-tail.ensures
