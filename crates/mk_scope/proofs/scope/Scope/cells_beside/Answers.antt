use Rattle.std.proofs.Common.{ap, sym, ◌∙◌, false}
use Rattle.mk_scope.specs.Runs.{runs_of}
use Rattle.mk_scope.specs.inner.Strides.{values_moved}
use Rattle.mk_scope.proofs.Runs.{runs_single}
use Rattle.mk_scope.proofs.scope.Scope.cells_beside.Goals as goal

pub cells_moved-requires : goal.cells_moved-requires
cells_moved-requires c = c.no_tail.ensures.tail c.args.self.now (values_moved c.args.self.now c.args.part.now false)

pub returns : goal.returns
returns c =
    let items = c.cells_moved.new.cells.items in
    sym (runs_single items) ∙ ap (λ r. runs_of r items) (sym c.no_tail.ensures.single) ∙ c.cells_moved.ensures
