use Rattle.std.proofs.Common.{◌<◌, ◌≤◌, length, sym, ap, ◌∙◌, arith}
use Rattle.mk_tree.specs.Given.{holds_event}
use Rattle.mk_plan.proofs.Starts.{home_here, home_nowhere}
use Rattle.mk_plan.proofs.shape.home_from.Goals as goal

pub returns-then-holds_event-clause-home : goal.returns-then-holds_event-clause-home
returns-then-holds_event-clause-home c =
    let l : c.loop-passed.passed < length c.args.tree.now.cliques = omega (arith, c.loop-passed-test.true, c.cliques-passed-end.ensures.count) in
    sym (home_here c.args.tree.now c.args.pairs.now c.loop-passed.passed c.loop-passed.invariant l
    (ap (holds_event c.args.pairs.now) (sym c.clique.ensures) ∙ sym c.holds_event.ensures ∙ c.if-holds_event.true))

pub returns-clause-home : goal.returns-clause-home
returns-clause-home c =
    let l : length c.args.tree.now.cliques ≤ c.loop-passed.passed = omega (arith, c.loop-passed-test.false, c.cliques-passed-end.ensures.count) in
    sym (home_nowhere c.args.tree.now c.args.pairs.now c.loop-passed.passed c.loop-passed.invariant l)
