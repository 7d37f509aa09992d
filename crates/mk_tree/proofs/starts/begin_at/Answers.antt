use Rattle.std.proofs.Common.{arith}
use Rattle.mk_net.specs.Bounds.{max_variables}
use Rattle.mk_tree.proofs.Cells.{first_taken, fewer_kept}
use Rattle.mk_tree.proofs.Begun.{begun_more}
use Rattle.mk_tree.proofs.starts.begin_at.Goals as goal

pub loop-variable-smaller : goal.loop-variable-smaller
loop-variable-smaller c =
    fewer_kept max_variables c.loop-variable.left c.without-left.result c.in-Some.variable
    c.in-Some.ensures.below
    (first_taken c.empty.result c.with.result c.loop-variable.left c.without-left.result
    c.in-Some.variable c.in-Some.ensures.member c.in-Some.ensures.least
    c.empty.ensures.members c.with.ensures.members c.without-left.ensures)

pub loop-variable-preserved : goal.loop-variable-preserved
loop-variable-preserved c =
    begun_more c.args.clique.now c.loop-variable.left c.without-left.result c.args.place
    c.in-Some.variable c.args.starts.now c.loop-variable.starts
    (let below = c.in-Some.ensures.below in omega (arith, below))
    (first_taken c.empty.result c.with.result c.loop-variable.left c.without-left.result
    c.in-Some.variable c.in-Some.ensures.member c.in-Some.ensures.least
    c.empty.ensures.members c.with.ensures.members c.without-left.ensures)
    c.loop-variable.invariant
