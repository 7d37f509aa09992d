use Rattle.std.proofs.Common.{◌+◌, arith, ◌∙◌}
use Rattle.mk_plan.specs.Shapes.{scope_within, shares}
use Rattle.mk_plan.proofs.Scopes.{shared_scope, shared_fits}
use Rattle.mk_plan.proofs.Shaped.{one_more}
use Rattle.mk_plan.proofs.shape.separator_scopes.Goals as goal

pub of-requires-clause-few_cells : goal.of-requires-clause-few_cells
of-requires-clause-few_cells c =
    let net = c.args.net.now in let tree = c.args.tree.now in let k = c.loop-passed.passed + 2 in
    shared_fits net tree c.variables.ensures.network c.requires k (record {
      first = omega arith;
      last = omega
          (arith, c.loop-passed-test.true, c.cliques-passed-end.ensures.count);
    }) c.common-shared.result
    (shared_scope net tree k c.link-link.result c.clique.result c.clique-in-loop-passed.result c.common-shared.result c.clique.ensures c.clique-in-loop-passed.ensures c.link-link.ensures.link c.common-shared.ensures)

pub loop-passed-preserved : goal.loop-passed-preserved
loop-passed-preserved c =
    let net = c.args.net.now in let tree = c.args.tree.now in let k = c.loop-passed.passed + 2 in
    one_more _ (λ k. scope_within net (shares tree k)) c.loop-passed.scopes.items c.push.new.self.items c.in_ok-new.field-0 2 c.loop-passed.passed k
    c.loop-passed.invariant c.in_ok-push.ensures.items
    (c.in_ok-new.ensures.ok ∙ c.in_ok-scope.ensures
    ∙ shared_scope net tree k c.link-link.result c.clique.result c.clique-in-loop-passed.result c.common-shared.result c.clique.ensures c.clique-in-loop-passed.ensures c.link-link.ensures.link c.common-shared.ensures)
    (omega arith)
