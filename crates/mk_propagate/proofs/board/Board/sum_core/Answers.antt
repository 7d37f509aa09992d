use Rattle.std.proofs.Common.{refl, rules}
use Rattle.mk_propagate.specs.inner.Gathered.{IsMargin}
use Rattle.mk_propagate.specs.inner.Boards.{Core, Table}
use Rattle.mk_propagate.proofs.Boards.{puts_of}
use Rattle.mk_propagate.proofs.board.Board.sum_core.Goals as goal

pub returns : goal.returns
returns g c =
    puts_of c.self.invariant c.self.view_is (Table c.args.clique) c.requires.clique refl
    (Core c.args.clique) c.requires.clique c.core_place-core.ensures c.margin_into.new.self
    c.margin_into.ensures.only (IsMargin g.R.Semiring.plus_of) (search rules)
