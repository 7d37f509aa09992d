use Rattle.std.proofs.Common.{rules}
use Rattle.mk_propagate.specs.inner.Gathered.{IsTimesMessage}
use Rattle.mk_propagate.specs.inner.Boards.{Message, Product}
use Rattle.mk_propagate.proofs.Boards.{puts_of}
use Rattle.mk_propagate.proofs.board.Board.times_message.Goals as goal

pub returns : goal.returns
returns g c =
    puts_of c.self.invariant c.self.view_is (Message c.args.neighbour c.args.clique) c.requires.both c.message_place-message.ensures
    (Product c.args.clique) c.requires.both.other c.product_place-product.ensures c.times_message.new.self
    c.times_message.ensures.only IsTimesMessage (search rules)
