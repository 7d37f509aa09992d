use Rattle.std.proofs.Common.{◌≡◌, ◌≤◌, List, ℕ, length, sym, ap, subst, ◌∙◌}
use Rattle.mk_scope.specs.Scopes.{cells_in}
use Rattle.mk_scope.specs.Cells.{cells_where}
use Rattle.mk_scope.specs.Runs.{runs_of}
use Rattle.mk_scope.specs.inner.Strides.{values_let}
use Rattle.mk_scope.proofs.Listed.{cells_of_event_few}
use Rattle.mk_scope.proofs.Runs.{runs_single}
use Rattle.mk_scope.proofs.scope.Scope.cells_where.Goals as goal

pub firsts_where-requires-clause-tail : goal.firsts_where-requires-clause-tail
firsts_where-requires-clause-tail c = c.no_tail.ensures.tail c.args.self.now (values_let c.args.self.now c.args.event.now)

pub returns-clause-cells : goal.returns-clause-cells
returns-clause-cells c =
    let items = c.firsts_where.new.firsts.items in
    sym (runs_single items) ∙ ap (λ r. runs_of r items) (sym c.no_tail.ensures.single) ∙ c.firsts_where.ensures

pub returns-clause-few : goal.returns-clause-few
returns-clause-few c =
    let items = c.firsts_where.new.firsts.items in
    let all : items ≡ cells_where c.args.self.now c.args.event.now = sym (runs_single items) ∙ ap (λ r. runs_of r items) (sym c.no_tail.ensures.single) ∙ c.firsts_where.ensures in
    subst (λ (ys : List ℕ). length ys ≤ cells_in c.args.self.now) (sym all) (cells_of_event_few c.args.self.now c.args.event.now)
