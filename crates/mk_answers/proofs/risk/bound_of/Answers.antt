use Rattle.mk_beliefs.specs.Meanings.{rows_of}
use Rattle.mk_answers.proofs.Homes.{nothing_at_root}
use Rattle.mk_answers.proofs.Losing.{least_left, least_there, encloses_least, graded, exact_where, in_range, at_most_all, covers_least}
use Rattle.mk_answers.proofs.risk.bound_of.Goals as goal

pub belief-requires-clause-held : goal.belief-requires-clause-held
belief-requires-clause-held g c =
    let a = c.requires.rows in
    g.met.A.Engine.held_is_answered c.args.rows.now (rows_of c.args.net.now a.tree a.history) 1
    c.empty.result a.stands
    (nothing_at_root a.tree c.empty.result c.empty.ensures a.is_open.tree_of_it.linked.some)

pub enclosure_of-least-requires : goal.enclosure_of-least-requires
enclosure_of-least-requires g c =
    let a = c.requires.rows in let network = c.args.net.now in
    least_there network a.tree a.history a.is_open c.empty.result c.belief.result c.empty.ensures (c.belief.ensures.belief (rows_of network a.tree a.history) a.stands)

pub bound-requires-clause-range : goal.bound-requires-clause-range
bound-requires-clause-range g c =
    let a = c.requires.rows in let network = c.args.net.now in
    in_range network a.tree a.history a.is_open c.empty.result c.belief.result c.empty.ensures (c.belief.ensures.belief (rows_of network a.tree a.history) a.stands)
    c.enclosure_of-least.result c.enclosure_of-least.ensures

pub returns-clause-covers : goal.returns-clause-covers
returns-clause-covers g c = λ tree H stands is_open.
    let network = c.args.net.now in let found = c.belief.ensures.belief (rows_of network tree H) stands in
    let least = c.enclosure_of-least.result in let is = c.enclosure_of-least.ensures in
    covers_least network tree H is_open c.args.points_per_bit c.bound.result.0 c.bound.result.1
    (rw c.variables.ensures.count at c.bound.ensures.covers (least_left network tree H is_open)
    (encloses_least network tree H is_open c.empty.result c.belief.result c.empty.ensures found least is)
    (at_most_all network tree H is_open)
    (graded network tree H is_open c.empty.result c.belief.result c.empty.ensures found least is)
    (exact_where network tree H is_open c.empty.result c.belief.result c.empty.ensures found least is))
