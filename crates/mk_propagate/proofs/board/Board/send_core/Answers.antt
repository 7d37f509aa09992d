use Rattle.std.proofs.Common.{rules}
use Rattle.mk_propagate.specs.inner.Gathered.{IsMargin}
use Rattle.mk_propagate.specs.inner.Boards.{Core, Message}
use Rattle.mk_propagate.proofs.Boards.{puts_of}
use Rattle.mk_propagate.proofs.board.Board.send_core.Goals as goal

pub returns : goal.returns
returns g c =
    puts_of c.self.invariant c.self.view_is (Core c.args.from) c.requires.both.one c.core_place-core.ensures
    (Message c.args.from c.args.to) c.requires.both c.message_place-message.ensures c.margin_into.new.self
    c.margin_into.ensures.only (IsMargin g.R.Semiring.plus_of) (search rules)
