use Rattle.mk_propagate.specs.inner.Boards.{table_of, core_of}
use Rattle.mk_propagate.proofs.Prepared.{core_places_there, sums_of}
use Rattle.mk_propagate.proofs.Boards.{core_same}
use Rattle.mk_propagate.proofs.sums.sum_core.Goals as goal

pub sum_core-requires-clause-places : goal.sum_core-requires-clause-places
sum_core-requires-clause-places g c =
    core_places_there c.args.shape.now c.args.board.now c.args.clique c.requires.can
    c.core_places.result.now c.core_places.ensures

pub returns-then-not-summed-clause-sums : goal.returns-then-not-summed-clause-sums
returns-then-not-summed-clause-sums g c = λ p h had.
    let k = c.args.clique in
    sums_of g.R.Semiring.plus_of g.met.R.Semiring.lawful c.args.shape.now k c.requires.can.clique
    (table_of c.args.board.now k) (core_of c.args.board.now k) (core_of c.sum_core.new.self k)
    c.requires.can.of_core c.sum_core.ensures.made p h

pub returns-else-not-summed-clause-only : goal.returns-else-not-summed-clause-only
returns-else-not-summed-clause-only g c = core_same c.args.board.now c.args.clique
