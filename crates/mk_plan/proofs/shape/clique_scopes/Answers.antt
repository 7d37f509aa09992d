use Rattle.std.proofs.Common.{◌+◌, arith, ap, ◌∙◌}
use Rattle.mk_scope.specs.Scopes.{scope_of}
use Rattle.mk_tree.specs.Given.{holds}
use Rattle.mk_plan.specs.Shapes.{scope_within}
use Rattle.mk_plan.proofs.Scopes.{clique_fits}
use Rattle.mk_plan.proofs.Shaped.{one_more}
use Rattle.mk_plan.proofs.shape.clique_scopes.Goals as goal

pub of-requires-clause-few_cells : goal.of-requires-clause-few_cells
of-requires-clause-few_cells c =
    let k = c.loop-passed.passed + 1 in
    clique_fits c.args.net.now c.args.tree.now c.requires k (record {
      first = omega arith;
      last = omega
          (arith, c.loop-passed-test.true, c.cliques-passed-end.ensures.count);
    }) c.clique-clique.result c.clique-clique.ensures

pub loop-passed-preserved : goal.loop-passed-preserved
loop-passed-preserved c =
    let net = c.args.net.now in let tree = c.args.tree.now in
    one_more _ (λ k. scope_within net (holds tree k)) c.loop-passed.scopes.items c.push.new.self.items c.in_ok-new.field-0 1 c.loop-passed.passed (c.loop-passed.passed + 1)
    c.loop-passed.invariant c.in_ok-push.ensures.items (c.in_ok-new.ensures.ok ∙ c.in_ok-scope.ensures ∙ ap (scope_of net) c.clique-clique.ensures) (omega arith)
