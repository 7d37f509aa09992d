use Rattle.std.proofs.Common.{max, arith, refl}
use Rattle.mk_cell.specs.Passes.{plus_below}
use Rattle.mk_cell.proofs.Standing.{absent_stands}
use Rattle.mk_cell.proofs.GreaterCells.{one_more}
use Rattle.mk_cell.proofs.maxima.greatest.Goals as goal

pub loop-c-init : goal.loop-c-init
loop-c-init c = λ k f n all. absent_stands k 0 n refl

pub loop-c-preserved : goal.loop-c-preserved
loop-c-preserved c = λ k f n all.
    rw (one_more c.loop-c.c f)
    (c.greater-most.ensures k (plus_below max c.loop-c.c f) (f c.loop-c.c) n
    (c.loop-c.invariant k f n all) (all.each c.loop-c.c (omega (arith, c))))
