use Rattle.std.proofs.Common.{◌-◌, slice_index_or, refl}
use Rattle.mk_propagate.specs.Flows.{no_table}
use Rattle.mk_propagate.specs.inner.Boards.{product_of, Product, Table}
use Rattle.mk_propagate.specs.inner.Totals.{IsTotal}
use Rattle.mk_propagate.proofs.Boards.{seen}
use Rattle.mk_propagate.proofs.board.Board.table_value.Goals as goal

pub returns : goal.returns
returns g c =
    let k = c.args.clique in let R = g.R.Semiring in let into = c.product_place-into in
    seen c.self.invariant c.self.view_is (Table k) c.requires.clique refl (λ t. IsTotal R.encloses R.has_grade R.is_exact R.plus_of t
    (product_of c.args.self.now k) c.args.event.now c.args.grade c.value_of.result)
    (seen c.self.invariant c.self.view_is (Product k) c.requires.clique into.ensures
    (λ t. IsTotal R.encloses R.has_grade R.is_exact R.plus_of
    (slice_index_or c.self.inside.tables (k - 1) no_table) t c.args.event.now c.args.grade
    c.value_of.result)
    c.value_of.ensures)
