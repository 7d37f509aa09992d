use Rattle.std.proofs.Common.{refl, rules}
use Rattle.mk_engine.specs.Meaning.{SupportOf}
use Rattle.mk_propagate.specs.inner.Changes.{IsTimesFactor}
use Rattle.mk_propagate.specs.inner.Boards.{Table}
use Rattle.mk_propagate.proofs.Boards.{puts}
use Rattle.mk_propagate.proofs.board.Board.times_support.Goals as goal

pub returns : goal.returns
returns g c =
    puts c.self.invariant c.self.view_is (Table c.args.clique) c.requires.clique refl c.times_support.new.self
    c.times_support.ensures.only (IsTimesFactor c.args.net.now (SupportOf c.args.variable)) (search rules)
