use Rattle.mk_exact.proofs.Millions.{initial_total_is}
use Rattle.mk_beliefs.specs.Meanings.{rows_of}
use Rattle.mk_answers.proofs.Homes.{nothing_at_root}
use Rattle.mk_answers.proofs.Losing.{least_left, is_left, least_there, encloses_least}
use Rattle.mk_answers.proofs.Losing.{in_range, at_most_all}
use Rattle.mk_answers.proofs.Regraded.{graded_within, held_grade}
use Rattle.mk_answers.proofs.evidence.least_weight_of.Goals as goal

pub belief-requires-clause-held : goal.belief-requires-clause-held
belief-requires-clause-held g c =
    let a = c.requires in
    g.met.A.Engine.held_is_answered c.args.rows.now (rows_of c.args.net.now a.tree a.history) 1
    c.empty.result a.stands
    (nothing_at_root a.tree c.empty.result c.empty.ensures a.is_open.tree_of_it.linked.some)

pub enclosure_of-requires : goal.enclosure_of-requires
enclosure_of-requires g c =
    let a = c.requires in let network = c.args.net.now in
    least_there network a.tree a.history a.is_open c.empty.result c.belief.result c.empty.ensures
    (c.belief.ensures.belief (rows_of network a.tree a.history) a.stands)

pub returns-clause-least : goal.returns-clause-least
returns-clause-least g c = λ tree H most stands is_open room.
    let network = c.args.net.now in let m = rows_of network tree H in
    let of = g.A.Engine.grade_of m in
    let found = c.belief.ensures.belief (rows_of network tree H) stands in
    let least = c.enclosure_of.result in let is = c.enclosure_of.ensures in
    record {
      weight = least_left network tree H is_open;
      is_least = (is_left network tree H is_open).0;
      encloses = encloses_least network tree H is_open c.empty.result c.belief.result
          c.empty.ensures found least is;
      part = at_most_all network tree H is_open;
      whole = initial_total_is network is_open.legal;
      range = in_range network tree H is_open c.empty.result c.belief.result c.empty.ensures found
          least is;
      graded = graded_within least of most room (held_grade c.belief.result least of is
          (c.belief.ensures.graded m stands));
    }
