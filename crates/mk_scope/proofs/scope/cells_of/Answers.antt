use Rattle.std.proofs.Common.{◌*◌, slice_index, arith, ap}
use Rattle.mk_net.specs.Network.{sizes}
use Rattle.mk_sums.specs.Cells.{cells}
use Rattle.mk_scope.proofs.Writing.{bounds_of, count_small, count_step}
use Rattle.mk_scope.proofs.scope.cells_of.Goals as goal

pub overflow_mul-cells : goal.overflow_mul-cells
overflow_mul-cells c =
    let net = c.args.net.now in let xs = c.args.variables.now in
    let small = count_small (slice_index (sizes net)) xs c.loop-variable.variable-index c.loop-variable.cells (cells (slice_index (sizes net)) xs) (bounds_of net c.variables.ensures.network xs c.requires.of_network) c.loop-variable-test.true c.loop-variable.invariant in
    let e = ap (λ n. c.loop-variable.cells * n) c.values.ensures in
    omega (arith, small, e)

pub loop-variable-preserved : goal.loop-variable-preserved
loop-variable-preserved c =
    let net = c.args.net.now in let xs = c.args.variables.now in
    rw c.values.ensures (count_step (slice_index (sizes net)) xs c.loop-variable.variable-index c.loop-variable.cells (cells (slice_index (sizes net)) xs) c.loop-variable-test.true c.loop-variable.invariant)
