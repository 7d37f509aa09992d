use Rattle.std.proofs.Common.{arith}
use Rattle.mk_walk.proofs.Rows.{step_small, step_fits, step_number, all_below, row_fits}
use Rattle.mk_walk.proofs.weight.row_of.Goals as goal

pub loop-parent-preserved : goal.loop-parent-preserved
loop-parent-preserved c = record {
  number = rw (c.values.ensures, c.value_of.ensures) (step_number c.args.network.now c.variables.ensures.network c.args.state.now c.requires.state c.args.variable c.requires.variable c.parents-parent-items.result.now c.parents-parent-items.ensures c.loop-parent.parent-index c.loop-parent.row c.loop-parent-test.true c.loop-parent.invariant.number);
  small = rw (c.values.ensures, c.value_of.ensures) (step_small c.args.network.now c.variables.ensures.network c.args.state.now c.requires.state c.args.variable c.requires.variable c.parents-parent-items.result.now c.parents-parent-items.ensures c.loop-parent.parent-index c.loop-parent.row c.loop-parent-test.true c.loop-parent.invariant.small);
}

pub overflow_cast-result : goal.overflow_cast-result
overflow_cast-result c = let fits = row_fits c.args.network.now c.variables.ensures.network c.args.state.now c.requires.state c.args.variable c.requires.variable c.parents-parent-items.result.now c.parents-parent-items.ensures c.loop-parent.parent-index c.loop-parent.row c.loop-parent.auto.parent-index-end c.loop-parent.invariant.small in omega arith

pub returns-clause-within : goal.returns-clause-within
returns-clause-within c = all_below c.args.network.now c.variables.ensures.network c.args.state.now c.requires.state c.args.variable c.requires.variable c.parents-parent-items.result.now c.parents-parent-items.ensures c.loop-parent.parent-index c.loop-parent.row c.loop-parent-test.false c.loop-parent.invariant.number

pub overflow_mul-row : goal.overflow_mul-row
overflow_mul-row c = rw c.values.ensures (let fits = step_fits c.args.network.now c.variables.ensures.network c.args.state.now c.requires.state c.args.variable c.requires.variable c.parents-parent-items.result.now c.parents-parent-items.ensures c.loop-parent.parent-index c.loop-parent.row c.loop-parent-test.true c.loop-parent.invariant.small in omega arith)

pub overflow_add-row : goal.overflow_add-row
overflow_add-row c = rw (c.values.ensures, c.value_of.ensures) (let fits = step_fits c.args.network.now c.variables.ensures.network c.args.state.now c.requires.state c.args.variable c.requires.variable c.parents-parent-items.result.now c.parents-parent-items.ensures c.loop-parent.parent-index c.loop-parent.row c.loop-parent-test.true c.loop-parent.invariant.small in omega arith)
