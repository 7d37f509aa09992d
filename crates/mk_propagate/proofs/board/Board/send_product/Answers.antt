use Rattle.std.proofs.Common.{rules}
use Rattle.std.specs.Prelude.{slice_index_or}
use Rattle.mk_propagate.specs.Flows.{no_table}
use Rattle.mk_propagate.specs.inner.Gathered.{IsMarginOfProduct}
use Rattle.mk_propagate.specs.inner.Boards.{board_of, product_of, Core, Product, Message, IsPut}
use Rattle.mk_propagate.proofs.Boards.{seen, puts_of}
use Rattle.mk_propagate.proofs.board.Board.send_product.Goals as goal

pub returns : goal.returns
returns g c =
    let a = c.args.from in let to = Message a c.args.to in let new = c.margin_times_into.new.self in
    let Q = IsMarginOfProduct g.R.Semiring.plus_of in
    seen c.self.invariant c.self.view_is (Core a) c.requires.both.one c.core_place-core.ensures
    (λ t. IsPut (Q t (product_of c.args.self.now a)) to c.args.self.now
    (board_of c.self.inside.cliques new))
    (puts_of c.self.invariant c.self.view_is (Product a) c.requires.both.one
    c.product_place-product.ensures to c.requires.both c.message_place-message.ensures new
    c.margin_times_into.ensures.only
    (Q (slice_index_or c.self.inside.tables c.core_place-core.result no_table)) (search rules))
