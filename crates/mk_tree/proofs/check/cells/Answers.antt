use Rattle.std.proofs.Common.{◌≤◌, arith}
use Rattle.mk_net.proofs.Networks.{few_values}
use Rattle.mk_tree.proofs.Cells.{first_taken, fewer_members, cells_grow, cells_stop, cells_end, product_fits}
use Rattle.mk_tree.proofs.check.cells.Goals as goal

pub overflow_mul-cells : goal.overflow_mul-cells
overflow_mul-cells c =
    let within = c.loop-variable.invariant.inside c.in-Some.variable c.in-Some.ensures.member in
    let few = few_values c.args.net.now c.in-Some.variable c.requires.network within in
    let values : c.values-cells.result ≤ 16 = omega (arith, few) in
    record { fits = product_fits c.loop-variable.cells c.values-cells.result c.loop-variable.invariant.few values }

pub loop-variable-smaller : goal.loop-variable-smaller
loop-variable-smaller c =
    fewer_members c.args.net.now c.loop-variable.left c.without-left.result c.in-Some.variable (c.loop-variable.invariant.inside c.in-Some.variable c.in-Some.ensures.member)
    (first_taken c.empty.result c.with.result c.loop-variable.left c.without-left.result c.in-Some.variable c.in-Some.ensures.member c.in-Some.ensures.least
    c.empty.ensures.members c.with.ensures.members c.without-left.ensures)

pub loop-variable-preserved : goal.loop-variable-preserved
loop-variable-preserved c =
    cells_grow c.args.net.now c.args.clique.now c.loop-variable.left c.without-left.result c.in-Some.variable c.loop-variable.cells c.values-cells.result
    (first_taken c.empty.result c.with.result c.loop-variable.left c.without-left.result c.in-Some.variable c.in-Some.ensures.member c.in-Some.ensures.least
    c.empty.ensures.members c.with.ensures.members c.without-left.ensures)
    c.values-cells.ensures (omega arith) c.loop-variable.invariant

pub returns-then-cells-gt-MAX_CLIQUE_CELLS : goal.returns-then-cells-gt-MAX_CLIQUE_CELLS
returns-then-cells-gt-MAX_CLIQUE_CELLS c =
    cells_stop c.args.net.now c.args.clique.now c.loop-variable.left c.without-left.result c.in-Some.variable c.loop-variable.cells c.values-cells.result c.requires.network
    (first_taken c.empty.result c.with.result c.loop-variable.left c.without-left.result c.in-Some.variable c.in-Some.ensures.member c.in-Some.ensures.least
    c.empty.ensures.members c.with.ensures.members c.without-left.ensures)
    c.values-cells.ensures c.if-cells-gt-MAX_CLIQUE_CELLS.true c.loop-variable.invariant

pub returns : goal.returns
returns c = cells_end c.args.net.now c.args.clique.now c.loop-variable.left c.loop-variable.cells c.in_default.ensures.none c.loop-variable.invariant
