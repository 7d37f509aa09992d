use Rattle.std.proofs.Common.{refl, rules}
use Rattle.mk_propagate.specs.inner.Changes.{IsRestricted}
use Rattle.mk_propagate.specs.inner.Boards.{Table}
use Rattle.mk_propagate.proofs.Boards.{puts}
use Rattle.mk_propagate.proofs.board.Board.restrict.Goals as goal

pub returns : goal.returns
returns g c =
    puts c.self.invariant c.self.view_is (Table c.args.clique) c.requires.clique refl c.restrict.new.self
    c.restrict.ensures.only (IsRestricted c.args.pair) (search rules)
