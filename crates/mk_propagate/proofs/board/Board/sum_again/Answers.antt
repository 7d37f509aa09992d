use Rattle.std.proofs.Common.{refl, rules}
use Rattle.mk_propagate.specs.inner.Changes.{IsMarginAgain}
use Rattle.mk_propagate.specs.inner.Boards.{Core, Table}
use Rattle.mk_propagate.proofs.Boards.{puts_of}
use Rattle.mk_propagate.proofs.board.Board.sum_again.Goals as goal

pub returns : goal.returns
returns g c =
    puts_of c.self.invariant c.self.view_is (Table c.args.clique) c.requires.clique refl
    (Core c.args.clique) c.requires.clique c.core_place-core.ensures c.margin_again_into.new.self
    c.margin_again_into.ensures.only (IsMarginAgain g.R.Semiring.plus_of c.args.event.now) (search rules)
