use Rattle.std.proofs.Common.{◌+◌, [], arith, ap, ◌∙◌}
use Rattle.mk_plan.specs.Shapes.{scope_within, in_core, neighbours}
use Rattle.mk_plan.proofs.Cores.{core_scope_of, core_fits, core_of_network}
use Rattle.mk_plan.proofs.Shaped.{one_more, item_of, long_of}
use Rattle.mk_plan.proofs.shape.core_scopes.Goals as goal

pub bounds-neighbours-passed : goal.bounds-neighbours-passed
bounds-neighbours-passed c =
    let n = long_of _ (neighbours c.args.tree.now) c.args.neighbours.now 1 _ c.requires.lists in
    omega (arith, n, c.loop-passed-test.true, c.cliques-passed-end.ensures.count)

pub core_of-core-requires-clause-linked : goal.core_of-core-requires-clause-linked
core_of-core-requires-clause-linked c =
    let tree = c.args.tree.now in
    c.deref.ensures.value ∙ ap (λ list. list.items) c.index-neighbours-passed.is ∙ item_of (λ list. list.items) (neighbours tree) c.args.neighbours.now 1 _ c.loop-passed.passed (c.loop-passed.passed + 1) c.index-neighbours-passed.result [] c.requires.lists
    (omega (arith, c.loop-passed-test.true, c.cliques-passed-end.ensures.count)) (omega arith)

pub of-requires-clause-few_cells : goal.of-requires-clause-few_cells
of-requires-clause-few_cells c =
    let k = c.loop-passed.passed + 1 in
    core_fits c.args.net.now c.args.tree.now c.variables.ensures.network c.requires.tree k (record { first = omega arith; last = omega (arith, c.loop-passed-test.true, c.cliques-passed-end.ensures.count) })
    c.core_of-core.result c.core_of-core.ensures

pub of-requires-clause-of_network : goal.of-requires-clause-of_network
of-requires-clause-of_network c =
    let k = c.loop-passed.passed + 1 in
    core_of_network c.args.net.now c.args.tree.now c.requires.tree k (record { first = omega arith; last = omega (arith, c.loop-passed-test.true, c.cliques-passed-end.ensures.count) })
    c.core_of-core.result c.core_of-core.ensures

pub loop-passed-preserved : goal.loop-passed-preserved
loop-passed-preserved c =
    let net = c.args.net.now in let tree = c.args.tree.now in let k = c.loop-passed.passed + 1 in
    one_more _ (λ k. scope_within net (in_core tree k)) c.loop-passed.scopes.items c.push.new.self.items c.in_ok-new.field-0 1 c.loop-passed.passed k
    c.loop-passed.invariant c.in_ok-push.ensures.items (c.in_ok-new.ensures.ok ∙ c.in_ok-scope.ensures ∙ core_scope_of net tree k c.core_of-core.result c.core_of-core.ensures) (omega arith)
