use Rattle.std.proofs.Common.{rules}
use Rattle.mk_propagate.specs.inner.Changes.{IsCleared}
use Rattle.mk_propagate.specs.inner.Boards.{Product}
use Rattle.mk_propagate.proofs.Boards.{puts}
use Rattle.mk_propagate.proofs.board.Board.clear_product.Goals as goal

pub returns : goal.returns
returns g c =
    puts c.self.invariant c.self.view_is (Product c.args.clique) c.requires c.product_place-product.ensures c.clear.new.self
    c.clear.ensures.only IsCleared (search rules)
