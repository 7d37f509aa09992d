use Rattle.std.proofs.Common.{rules}
use Rattle.mk_propagate.specs.inner.Gathered.{IsMessageAlone}
use Rattle.mk_propagate.specs.inner.Boards.{Message, Product}
use Rattle.mk_propagate.proofs.Boards.{puts_of}
use Rattle.mk_propagate.proofs.board.Board.put_message.Goals as goal

pub returns : goal.returns
returns g c =
    puts_of c.self.invariant c.self.view_is (Message c.args.neighbour c.args.clique) c.requires.both c.message_place-message.ensures
    (Product c.args.clique) c.requires.both.other c.product_place-product.ensures c.put_message.new.self
    c.put_message.ensures.only IsMessageAlone (search rules)
