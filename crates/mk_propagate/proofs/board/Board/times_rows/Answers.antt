use Rattle.std.proofs.Common.{refl, rules}
use Rattle.mk_engine.specs.Meaning.{RowsOf}
use Rattle.mk_propagate.specs.inner.Changes.{IsTimesFactor}
use Rattle.mk_propagate.specs.inner.Boards.{Table}
use Rattle.mk_propagate.proofs.Boards.{puts}
use Rattle.mk_propagate.proofs.board.Board.times_rows.Goals as goal

pub returns : goal.returns
returns g c =
    puts c.self.invariant c.self.view_is (Table c.args.clique) c.requires.clique refl c.times_rows.new.self
    c.times_rows.ensures.only (IsTimesFactor c.args.net.now (RowsOf c.args.variable)) (search rules)
