use Rattle.std.proofs.Common.{◌≡◌, true, List, arith, subst, sym}
use Rattle.mk_states.specs.States.{numbers_below}
use Rattle.mk_net.specs.declared.words.Pair.{Pair}
use Rattle.mk_scope.specs.inner.Strides.{IsTail, lets, values_let}
use Rattle.mk_scope.proofs.Listed.{IsReady, ready_kept, values_of_event}
use Rattle.mk_scope.proofs.Ready.{none_tail, tail_next, all_let}
use Rattle.mk_scope.proofs.scope.Scope.free_tail.Goals as goal
use Rattle.mk_scope.proofs.scope.Scope.free_tail.Goals.{After-index-in-loop-passed}

ready : (c : After-index-in-loop-passed) →
    IsReady c.args.self.now (values_let c.args.self.now c.args.event.now)
    c.loop-passed.passed
    c.index-in-loop-passed.result.now c.index.result.now
    c.loop-passed.cells (numbers_below c.loop-passed.cells)
ready c =
    let scope = c.args.self.now in
    ready_kept _ scope c.self.invariant.scope_is c.self.view_is (values_let scope c.args.event.now)
    (values_of_event scope c.args.event.now)
    c.len.result c.loop-passed.passed _ _ _ _
    (omega (arith, c.self.inside.variables.ok.0))
    (omega (arith, c.self.inside.variables.ok.0, c.loop-passed-test.true))
    c.index-in-loop-passed.ensures c.index.ensures
    c.loop-passed.invariant.counted (sym c.loop-passed.invariant.free)

pub overflow_mul-cells : goal.overflow_mul-cells
overflow_mul-cells c =
    omega (arith, (ready (goal.at.overflow_mul-cells c).After-index-in-loop-passed).may_repeat.fits)

pub loop-passed-init : goal.loop-passed-init
loop-passed-init c = none_tail c.args.self.now (values_let c.args.self.now c.args.event.now)

pub loop-passed-preserved : goal.loop-passed-preserved
loop-passed-preserved c =
    let scope = c.args.self.now in let x = c.index.result.now in
    tail_next scope (values_let scope c.args.event.now) _ _ x _
    (ready (goal.at.loop-passed-preserved c).After-index-in-loop-passed)
    (all_let scope c.args.event.now x c.loop-passed.cells
    (λ v. subst (λ (ps : List Pair). lets ps x v ≡ true) c.pairs-pairs.ensures.pairs
    (c.is_free.ensures c.if-not-is_free.false v)))

pub returns : goal.returns
returns c =
    let n : c.len-2.result ≡ c.loop-passed.passed =
    let t = c.loop-passed-test.false in let u = c.loop-passed.auto.passed-end in
    omega (arith, t, u, c.len-passed-end.ensures, c.len-2.ensures) in
    c.long_tail-2.ensures c.args.self.now (values_let c.args.self.now c.args.event.now)
    (subst (λ k. IsTail c.args.self.now (values_let c.args.self.now c.args.event.now) k
    c.loop-passed.cells) (sym n)
    c.loop-passed.invariant)
