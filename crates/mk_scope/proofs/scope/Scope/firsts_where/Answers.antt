use Rattle.std.proofs.Common.{List, filter, arith, ap, subst, ◌∙◌, sym}
use Rattle.mk_states.specs.States.{numbers_below}
use Rattle.mk_scope.specs.Scopes.{ScopeOf, IsScope}
use Rattle.mk_net.specs.declared.words.Pair.{Pair}
use Rattle.mk_scope.specs.inner.Strides.{repeated, lets, values_let}
use Rattle.mk_scope.specs.Runs.{runs_of}
use Rattle.mk_scope.proofs.Listed.{ready_kept, values_of_event, cells_of_event}
use Rattle.mk_scope.proofs.Ready.{HasReadyRuns, ready_runs, tail_some, all_passed}
use Rattle.mk_scope.proofs.Runs.{runs_first}
use Rattle.mk_scope.proofs.scope.Scope.firsts_where.Goals as goal
use Rattle.mk_scope.proofs.scope.Scope.firsts_where.Goals.{After-index-in-loop-passed}

ready : (c : After-index-in-loop-passed) →
    HasReadyRuns c.args.self.now (values_let c.args.self.now c.args.event.now)
    c.args.tail.cells c.loop-passed.passed
    c.index.result.now c.index-in-loop-passed.result.now
    c.loop-passed.stride c.loop-passed.firsts.items
ready c =
    let scope = c.args.self.now in
    let is = subst (λ (s : ScopeOf). IsScope s) c.self.view_is c.self.invariant.scope_is in
    let values = values_let c.args.self.now c.args.event.now in
    ready_runs scope values c.args.tail.cells
    (tail_some scope is values c.args.tail.variables c.args.tail.cells c.requires.tail)
    c.loop-passed.passed _ _ _ _
    (ready_kept _ scope c.self.invariant.scope_is c.self.view_is values
    (values_of_event scope c.args.event.now)
    c.len.result c.loop-passed.passed _ _ _ _
    (omega (arith, c.self.inside.variables.ok.0))
    (omega (arith, c.self.inside.variables.ok.0, c.loop-passed-test.true))
    c.index.ensures c.index-in-loop-passed.ensures
    c.loop-passed.invariant.stride c.loop-passed.invariant.cells)

pub take_values-requires-clause-repeatable : goal.take_values-requires-clause-repeatable
take_values-requires-clause-repeatable c =
    (ready (goal.at.take_values-requires-clause-repeatable c).After-index-in-loop-passed).may_repeat

pub overflow_mul-stride : goal.overflow_mul-stride
overflow_mul-stride c =
    let r = ready (goal.at.overflow_mul-stride c).After-index-in-loop-passed in
    omega (arith, r.may_repeat.fits)

pub loop-passed-preserved : goal.loop-passed-preserved
loop-passed-preserved c =
    let r = ready (goal.at.loop-passed-preserved c).After-index-in-loop-passed in
    let x = c.index-in-loop-passed.result.now in
    record {
      stride = r.next_stride;
      cells = r.next_runs c.take_values.new.cells.items
          (c.take_values.ensures ∙ ap (λ (ps : List Pair). repeated c.loop-passed.stride (filter (lets ps x) (numbers_below c.index.result.now)) c.loop-passed.firsts.items) c.pairs-pairs.ensures.pairs
          ∙ ap (λ n. repeated c.loop-passed.stride (filter (lets c.args.event.now x) (numbers_below n)) c.loop-passed.firsts.items) r.size_is);
    }

pub loop-passed-init : goal.loop-passed-init
loop-passed-init c = record {
  stride = c.requires.tail.counted;
  cells = ap (runs_of c.args.tail.cells) c.begin.ensures ∙ runs_first c.args.tail.cells ∙ sym c.requires.tail.free;
}

pub returns : goal.returns
returns c =
    let scope = c.args.self.now in
    all_passed _ scope c.self.view_is (values_let scope c.args.event.now) c.loop-passed.passed _
    (omega (arith, c.self.inside.variables.ok.0, c.loop-passed-test.false))
    c.loop-passed.invariant.cells
    ∙ cells_of_event scope
    (subst (λ (s : ScopeOf). IsScope s) c.self.view_is c.self.invariant.scope_is)
    c.args.event.now c.requires.event
