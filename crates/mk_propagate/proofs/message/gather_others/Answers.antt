use Rattle.std.proofs.Common.{sym, ◌∙◌}
use Rattle.mk_propagate.specs.inner.Boards.{product_of}
use Rattle.mk_propagate.proofs.Boards.{product_same}
use Rattle.mk_propagate.proofs.Marks.{marked_but}
use Rattle.mk_propagate.proofs.message.gather_others.Goals as goal

pub returns-then-neighbours-lt2-clause-only : goal.returns-then-neighbours-lt2-clause-only
returns-then-neighbours-lt2-clause-only g c = product_same c.args.board.now c.args.clique

pub returns-then-leaves_out-clause-only : goal.returns-then-leaves_out-clause-only
returns-then-leaves_out-clause-only g c = product_same c.args.board.now c.args.clique

pub returns-then-leaves_out-clause-others : goal.returns-then-leaves_out-clause-others
returns-then-leaves_out-clause-others g c = λ _.
    let board = c.args.board.now in let k = c.args.clique in
    marked_but g.R.Semiring.plus_of c.args.shape.now k board.upward board.downward board.upward
    board.downward (product_of board k) c.args.receiver c.args.gathered.now
    (sym c.leaves_out.ensures ∙ c.if-leaves_out.true) c.requires.marked
