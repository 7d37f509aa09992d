use Rattle.std.proofs.Common.{◌+◌, ◌*◌, IsTrue, arith, sym, ◌∙◌}
use Rattle.mk_cell.specs.Cell.{IsOwnAt}
use Rattle.mk_table.specs.Lists.{table_in}
use Rattle.mk_joint.proofs.Tables.{has_event, has_room}
use Rattle.mk_joint.proofs.Beliefs.{totalled, total_stands, total_own, untouched_apart, own_at_most, belief_of}
use Rattle.mk_joint.proofs.joint.JointEngineEngine.belief.Goals as goal

pub total-total-requires-clause-event : goal.total-total-requires-clause-event
total-total-requires-clause-event g c =
    let a = c.requires in
    has_event a.meaning.network (table_in c.args.self.now.tables 0).scope a.stands.joint.scope c.args.event.now a.in_range

pub total-total-requires-clause-room : goal.total-total-requires-clause-room
total-total-requires-clause-room g c =
    let a = c.requires in
    has_room (table_in c.args.self.now.tables 0) c.args.self.now.factors a.meaning a.stands.joint _ (omega (arith, a.stands.joint.few_cells))

pub of_cell-requires-clause-stands : goal.of_cell-requires-clause-stands
of_cell-requires-clause-stands g c =
    let plus = g.R.Semiring.plus_of in let table = table_in c.args.self.now.tables 0 in let factors = c.args.self.now.factors in let a = c.requires in let event = c.args.event.now in (
      totalled plus table factors a.meaning event a.stands.joint,
      rw c.shift.ensures (total_stands plus table factors a.meaning event a.stands.joint c.total-total.result.digits c.total-total.result.exponent c.total-total.ensures.stands),
    )

pub returns-clause-belief : goal.returns-clause-belief
returns-clause-belief g c = λ m h.
    let R = g.R.Semiring in let law = g.met.R.Semiring in let table = table_in c.args.self.now.tables 0 in let factors = c.args.self.now.factors in let event = c.args.event.now in
    let stands = rw (sym c.shift.ensures) at (total_stands R.plus_of table factors m event h.joint c.total-total.result.digits c.total-total.result.exponent c.total-total.ensures.stands) in
    let v = totalled R.plus_of table factors m event h.joint in
    let own : IsTrue c.is_untouched-untouched.result → IsOwnAt c.shift.result c.total-total.result.digits c.total-total.result.exponent v (3 * (factors + 4096)) =
    λ t. rw c.shift.ensures (total_own R.plus_of table factors m event h.joint c.total-total.result.digits c.total-total.result.exponent (c.total-total.ensures.own (sym c.is_untouched-untouched.ensures ∙ t))) in
    belief_of R.plus_of table factors m event h.joint R.encloses R.has_grade R.is_exact law.grade_more law.lawful c.of_cell.result
    (c.of_cell.ensures.value v stands own) c.of_cell.ensures.grade (c.of_cell.ensures.exact v stands)

pub of_cell-requires-clause-own : goal.of_cell-requires-clause-own
of_cell-requires-clause-own g c = λ t.
    let plus = g.R.Semiring.plus_of in let table = table_in c.args.self.now.tables 0 in let factors = c.args.self.now.factors in let a = c.requires in let event = c.args.event.now in
    let own = total_own plus table factors a.meaning event a.stands.joint c.total-total.result.digits c.total-total.result.exponent (c.total-total.ensures.own (sym c.is_untouched-untouched.ensures ∙ t)) in
    (own.own, own.stands)

pub returns-clause-apart : goal.returns-clause-apart
returns-clause-apart g c = λ m h apart small.
    let R = g.R.Semiring in let law = g.met.R.Semiring in let table = table_in c.args.self.now.tables 0 in let factors = c.args.self.now.factors in let event = c.args.event.now in let a = c.requires in
    let untouched = untouched_apart R.plus_of table factors m event h.joint apart (has_event a.meaning.network table.scope a.stands.joint.scope event a.in_range) in
    let own = total_own R.plus_of table factors m event h.joint c.total-total.result.digits c.total-total.result.exponent (c.total-total.ensures.own untouched) in
    let within = own_at_most R.plus_of table factors m event h.joint apart law.lawful own.own own.scaled in
    c.of_cell.ensures.own_exact own.own (c.is_untouched-untouched.ensures ∙ untouched) own.stands (omega (arith, within, small))
