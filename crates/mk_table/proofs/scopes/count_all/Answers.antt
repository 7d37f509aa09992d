use Rattle.std.proofs.Common.{◌≡◌, ◌≤◌, map, arith, ap, ◌∙◌}
use Rattle.std.proofs.lemmas.List.{length-map}
use Rattle.mk_net.specs.Bounds.{max_clique_cells}
use Rattle.mk_scope.specs.Scopes.{cells_in}
use Rattle.mk_table.proofs.Stored.{missing_step, missing_done, scope_read, each_step}
use Rattle.mk_table.proofs.scopes.count_all.Goals as goal
use Rattle.mk_table.proofs.scopes.count_all.Goals.{then-most-count, else-most-count}

pub loop-scope-preserved : goal.loop-scope-preserved
loop-scope-preserved c =
    let i = c.loop-scope.scope-index in let x = c.scope-item.result in
    let count : c.cells-count.result ≡ cells_in x.value = c.cells-count.ensures.cells ∙ ap cells_in c.deref.ensures in
    let next = missing_step (λ scope. scope.value) c.args.scopes.now i x c.loop-scope-test.true c.scope-item.is in
    let here = ap cells_in (scope_read (λ scope. scope.value) c.args.scopes.now i x c.loop-scope-test.true c.scope-item.is) in
    let few = c.cells-count.ensures.scope.few_cells in
    let few_too = c.cells-count.ensures.cells in
    let small : (c.loop-scope.most ≤ c.if-most-count.most) × ((c.cells-count.result ≤ c.if-most-count.most) × (c.if-most-count.most ≤ max_clique_cells)) =
    elim c.if-most-count.branch [
      | then-most-count w ↦ (omega (arith, w.if-most-count, w.most-is), (omega (arith, w.if-most-count, w.most-is), omega (arith, w.most-is, few, few_too)))
      | else-most-count w ↦ (omega (arith, w.if-most-count, w.most-is), (omega (arith, w.if-most-count, w.most-is), omega (arith, w.most-is, c.loop-scope.invariant.small)))
    ] in
    record {
      all = omega (arith, next, count, c.loop-scope.invariant.all);
      few = omega (arith, few, few_too, c.loop-scope.invariant.few);
      each = each_step (map (λ scope. scope.value) c.args.scopes.now) i c.loop-scope.most c.if-most-count.most c.loop-scope.invariant.each small.0 (omega (arith, here, count, small.1.0));
      small = small.1.1;
    }

pub returns : goal.returns
returns c =
    let long = length-map c.args.scopes.now (λ scope. scope.value) in
    let none = missing_done (λ scope. scope.value) c.args.scopes.now c.loop-scope.scope-index c.loop-scope-test.false in
    record {
      few = omega (arith, c.requires, long);
      all = omega (arith, none, c.loop-scope.invariant.all);
      each = λ k l. c.loop-scope.invariant.each k (omega (arith, l, long, c.loop-scope-test.false));
      small = c.loop-scope.invariant.small;
    }
