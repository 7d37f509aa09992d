use Rattle.std.proofs.Common.{◌+◌, ◌≤◌, length, ◌∙◌, arith}
use Rattle.mk_plan.specs.Shapes.{IsClique}
use Rattle.mk_plan.proofs.Shaped.{next_more, next_up}
use Rattle.mk_plan.proofs.shape.next_to.Goals as goal

pub loop-passed-preserved : goal.loop-passed-preserved
loop-passed-preserved c =
    let tree = c.args.tree.now in let to = c.args.to in let passed = c.loop-passed.passed in
    let l : passed + 1 ≤ length tree.cliques = omega (arith, c.loop-passed-test.true, c.cliques-passed-end.ensures.count) in
    let is : IsClique tree (passed + 1) = record { first = omega arith; last = l } in
    next_more tree to passed c.link.result c.loop-passed.next.items c.push.new.self.items c.loop-passed.invariant c.in_ok-push.ensures.items
    (λ d. c.link.ensures.link ∙ next_up tree c.cliques-passed-end.ensures.linked (passed + 1) is to (omega (arith, c.loop-passed.auto.passed)))
