use Rattle.std.proofs.Common.{[], ◌∷◌, cond, not, arith, ap, subst, ◌∙◌, sym}
use Rattle.mk_states.specs.States.{numbers_below}
use Rattle.mk_scope.specs.Scopes.{ScopeOf, IsScope}
use Rattle.mk_scope.specs.inner.Strides.{repeated, values_moved, is_moved}
use Rattle.mk_scope.specs.Runs.{runs_of}
use Rattle.mk_scope.proofs.Listed.{ready_kept, values_of_moved}
use Rattle.mk_scope.proofs.Ready.{HasReadyRuns, ready_runs, tail_some, all_passed}
use Rattle.mk_scope.proofs.Runs.{runs_first}
use Rattle.mk_scope.proofs.scope.Scope.cells_moved.Goals as goal
use Rattle.mk_scope.proofs.scope.Scope.cells_moved.Goals.{After-index-in-loop-passed}

ready : (c : After-index-in-loop-passed) →
    HasReadyRuns c.args.self.now (values_moved c.args.self.now c.args.part.now c.args.inside)
    c.args.tail.cells c.loop-passed.passed
    c.index.result.now c.index-in-loop-passed.result.now
    c.loop-passed.stride c.loop-passed.cells.items
ready c =
    let scope = c.args.self.now in
    let is = subst (λ (s : ScopeOf). IsScope s) c.self.view_is c.self.invariant.scope_is in
    let values = values_moved c.args.self.now c.args.part.now c.args.inside in
    ready_runs scope values c.args.tail.cells
    (tail_some scope is values c.args.tail.variables c.args.tail.cells c.requires)
    c.loop-passed.passed _ _ _ _
    (ready_kept _ scope c.self.invariant.scope_is c.self.view_is values
    (values_of_moved scope c.args.part.now is c.args.inside)
    c.len.result c.loop-passed.passed _ _ _ _
    (omega (arith, c.self.inside.variables.ok.0))
    (omega (arith, c.self.inside.variables.ok.0, c.loop-passed-test.true))
    c.index.ensures c.index-in-loop-passed.ensures
    c.loop-passed.invariant.stride c.loop-passed.invariant.cells)

pub take_moved-requires : goal.take_moved-requires
take_moved-requires c =
    (ready (goal.at.take_moved-requires c).After-index-in-loop-passed).may_repeat

pub overflow_mul-stride : goal.overflow_mul-stride
overflow_mul-stride c =
    let r = ready (goal.at.overflow_mul-stride c).After-index-in-loop-passed in
    omega (arith, r.may_repeat.fits)

pub loop-passed-preserved : goal.loop-passed-preserved
loop-passed-preserved c =
    let r = ready (goal.at.loop-passed-preserved c).After-index-in-loop-passed in
    let x = c.index-in-loop-passed.result.now in let part = c.args.part.now in
    let items = c.loop-passed.cells.items in let stride = c.loop-passed.stride in
    record {
      stride = r.next_stride;
      cells = r.next_runs c.take_moved.new.cells.items
          (c.take_moved.ensures
          ∙ ap (λ b. repeated stride (cond b (numbers_below c.index.result.now) (0 ∷ [])) items) (c.is_moved.ensures ∙ ap (λ b. cond c.args.inside b (not b)) c.has-has.ensures)
          ∙ ap (λ n. repeated stride (cond (is_moved part c.args.inside x) (numbers_below n) (0 ∷ [])) items) r.size_is);
    }

pub loop-passed-init : goal.loop-passed-init
loop-passed-init c = record {
  stride = c.requires.counted;
  cells = ap (runs_of c.args.tail.cells) c.begin.ensures ∙ runs_first c.args.tail.cells ∙ sym c.requires.free;
}

pub returns : goal.returns
returns c =
    let scope = c.args.self.now in
    all_passed _ scope c.self.view_is (values_moved scope c.args.part.now c.args.inside)
    c.loop-passed.passed _
    (omega (arith, c.self.inside.variables.ok.0, c.loop-passed-test.false))
    c.loop-passed.invariant.cells
