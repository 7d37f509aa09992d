use Rattle.std.proofs.Common.{◌-◌}
use Rattle.mk_net.specs.Bounds.{grade_room}
use Rattle.mk_exact.specs.Weight.{IsSmall}
use Rattle.mk_answers.proofs.Presence.{some_weight}
use Rattle.mk_answers.proofs.Bounding.{at_value, IsSumOf, sum_fits, sum_is_whole, sum_graded}
use Rattle.mk_answers.proofs.Regraded.{held_grade, graded_of_present}
use Rattle.mk_answers.proofs.Weights.{ends_in_order, interval_covers}
use Rattle.mk_answers.proofs.Sided.{priced, unpriced, priced_never, priced_sure}
use Rattle.mk_answers.proofs.price.price_of_sides.Goals as goal

pub add-requires : goal.add-requires
add-requires c =
    let a = c.requires in let w = c.in-Present-Present in
    sum_fits w.part w.rest (IsSmall a.network a.history) _ _ (at_value _ _ _ _ w.is-0 a.sides.hit) (at_value _ _ _ _ w.is-1 a.sides.miss)

pub returns-in-Absent-Absent : goal.returns-in-Absent-Absent
returns-in-Absent-Absent c = λ network H most_trades asked net proper sides on_part on_rest.
    let w = c.in-Absent-Absent in
    unpriced network H most_trades asked net proper (at_value _ _ _ _ w.is-0 sides.hit).encloses
    (at_value _ _ _ _ w.is-1 sides.miss).encloses

pub returns-in-Absent-Present : goal.returns-in-Absent-Present
returns-in-Absent-Present c = λ network H most_trades asked net proper sides on_part on_rest.
    let w = c.in-Absent-Present in
    priced_never network H most_trades asked (at_value _ _ _ _ w.is-0 sides.hit).encloses
    (some_weight w.field-0-1 _ (at_value _ _ _ _ w.is-1 sides.miss).encloses)

pub returns-in-Present-Absent : goal.returns-in-Present-Absent
returns-in-Present-Absent c = λ network H most_trades asked net proper sides on_part on_rest.
    let w = c.in-Present-Absent in
    priced_sure network H most_trades asked
    (some_weight w.field-0-0 _ (at_value _ _ _ _ w.is-0 sides.hit).encloses)
    (at_value _ _ _ _ w.is-1 sides.miss).encloses

pub parts-requires-clause-part : goal.parts-requires-clause-part
parts-requires-clause-part c =
    let a = c.requires in let w = c.in-Present-Present in
    let hit = at_value _ _ _ _ w.is-0 a.sides.hit in
    ends_in_order a.network a.history a.asked w.part c.add.result hit
    (sum_is_whole a.network a.history a.asked w.part w.rest c.add.result hit (at_value _ _ _ _ w.is-1 a.sides.miss)
    (record { encloses = c.add.ensures.encloses; grade = c.add.ensures.grade; exact = c.add.ensures.exact }))

pub returns-in-Present-Present : goal.returns-in-Present-Present
returns-in-Present-Present c = λ network H most_trades asked net proper sides on_part on_rest.
    let w = c.in-Present-Present in
    let hit = at_value _ _ _ _ w.is-0 sides.hit in let miss = at_value _ _ _ _ w.is-1 sides.miss in
    let is : IsSumOf w.part w.rest c.add.result =
    record {
      encloses = c.add.ensures.encloses;
      grade = c.add.ensures.grade;
      exact = c.add.ensures.exact;
    } in
    let whole = sum_is_whole network H asked w.part w.rest c.add.result hit miss is in
    priced network H most_trades asked (some_weight c.add.result _ whole.encloses) c.parts.result
    (interval_covers network H asked w.part c.add.result hit whole most_trades
    (graded_of_present c.args.part.now w.part most_trades w.is-0 on_part)
    (sum_graded w.part w.rest c.add.result is most_trades
    (held_grade c.args.part.now w.part (grade_room most_trades - 1) w.is-0 on_part)
    (held_grade c.args.rest.now w.rest (grade_room most_trades - 1) w.is-1 on_rest))
    (some_weight w.rest _ miss.encloses) c.parts.result.0 c.parts.result.1
    (assumption c.parts.ensures))
