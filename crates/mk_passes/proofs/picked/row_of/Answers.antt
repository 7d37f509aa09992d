use Rattle.std.proofs.Common.{arith}
use Rattle.mk_net.specs.Named.{variable_at}
use Rattle.mk_scope.specs.Cells.{values_at}
use Rattle.mk_scope.proofs.Kept.{sized_values}
use Rattle.mk_passes.proofs.Rows.{step_small, step_number, all_number, all_below, row_fits, next_fits}
use Rattle.std.proofs.lemmas.List.Elements.{All-same}
use Rattle.mk_scope.specs.Scopes.{HasSized}
use Rattle.mk_passes.proofs.picked.row_of.Goals as goal

pub value-requires-clause-variable : goal.value-requires-clause-variable
value-requires-clause-variable c =
    let net = c.args.net.now in let scope = c.args.scope.now in
    (All-same (HasSized net scope) c.parents-parent-items.result.now (variable_at net c.args.variable).parents c.parents-parent-items.ensures c.requires.parents c.loop-parent.parent-index 0 c.loop-parent-test.true).there

pub loop-parent-preserved : goal.loop-parent-preserved
loop-parent-preserved c =
    let net = c.args.net.now in let scope = c.args.scope.now in let k = c.args.variable in let i = c.loop-parent.parent-index in
    let fit = sized_values net scope c.args.cell c.requires.cell (variable_at net k).parents c.requires.parents in
    let parents = c.parents-parent-items.result.now in
    rw (c.values.ensures, c.value.ensures) (record {
      number = step_number net c.variables.ensures.network k c.requires.variable (values_at scope c.args.cell) fit parents c.parents-parent-items.ensures i c.loop-parent.row c.loop-parent-test.true c.loop-parent.invariant.number;
      small = step_small net c.variables.ensures.network k c.requires.variable (values_at scope c.args.cell) fit parents c.parents-parent-items.ensures i c.loop-parent.row c.loop-parent-test.true c.loop-parent.invariant.small;
    })

pub overflow_mul-row : goal.overflow_mul-row
overflow_mul-row c =
    let net = c.args.net.now in let scope = c.args.scope.now in let k = c.args.variable in
    let fit = sized_values net scope c.args.cell c.requires.cell (variable_at net k).parents c.requires.parents in
    let fits = next_fits net c.variables.ensures.network k c.requires.variable (values_at scope c.args.cell) fit c.parents-parent-items.result.now c.parents-parent-items.ensures c.loop-parent.parent-index c.loop-parent.row c.loop-parent-test.true c.loop-parent.invariant.small in
    rw c.values.ensures (omega (arith, fits))

pub overflow_add-row : goal.overflow_add-row
overflow_add-row c =
    let net = c.args.net.now in let scope = c.args.scope.now in let k = c.args.variable in
    let fit = sized_values net scope c.args.cell c.requires.cell (variable_at net k).parents c.requires.parents in
    let fits = next_fits net c.variables.ensures.network k c.requires.variable (values_at scope c.args.cell) fit c.parents-parent-items.result.now c.parents-parent-items.ensures c.loop-parent.parent-index c.loop-parent.row c.loop-parent-test.true c.loop-parent.invariant.small in
    rw (c.values.ensures, c.value.ensures) (omega (arith, fits))

pub overflow_cast-result : goal.overflow_cast-result
overflow_cast-result c =
    let net = c.args.net.now in let scope = c.args.scope.now in let k = c.args.variable in
    let fit = sized_values net scope c.args.cell c.requires.cell (variable_at net k).parents c.requires.parents in
    let fits = row_fits net c.variables.ensures.network k c.requires.variable (values_at scope c.args.cell) fit c.parents-parent-items.result.now c.parents-parent-items.ensures c.loop-parent.parent-index c.loop-parent.row c.loop-parent.auto.parent-index-end c.loop-parent.invariant.small in
    omega arith

pub returns : goal.returns
returns c =
    let net = c.args.net.now in let scope = c.args.scope.now in let k = c.args.variable in
    let fit = sized_values net scope c.args.cell c.requires.cell (variable_at net k).parents c.requires.parents in
    let parents = c.parents-parent-items.result.now in
    record {
      number = all_number net c.variables.ensures.network k c.requires.variable (values_at scope c.args.cell) fit parents c.parents-parent-items.ensures c.loop-parent.parent-index c.loop-parent.row c.loop-parent-test.false c.loop-parent.invariant.number;
      within = all_below net c.variables.ensures.network k c.requires.variable (values_at scope c.args.cell) fit parents c.parents-parent-items.ensures c.loop-parent.parent-index c.loop-parent.row c.loop-parent-test.false c.loop-parent.invariant.number;
    }
