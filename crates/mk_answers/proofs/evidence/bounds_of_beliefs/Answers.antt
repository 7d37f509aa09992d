use Rattle.std.proofs.Common.{◌+◌, max, arith}
use Rattle.mk_exact.specs.Weight.{IsSmall}
use Rattle.mk_answers.proofs.Presence.{some_weight}
use Rattle.mk_answers.proofs.Bounding.{at_value, sum_fits, sum_is_whole}
use Rattle.mk_answers.proofs.Priced.{sum_is_few, unbounded, bounded_never, bounded_always}
use Rattle.mk_answers.proofs.Priced.{bounded_between}
use Rattle.mk_answers.proofs.Regraded.{graded_within, held_grade}
use Rattle.mk_answers.proofs.evidence.bounds_of_beliefs.Goals as goal

pub add-requires : goal.add-requires
add-requires c =
    let a = c.requires in let w = c.in-Present-Present in
    sum_fits w.part w.rest (IsSmall a.network a.history) _ _
    (at_value _ _ _ _ w.is-0 a.sides.hit) (at_value _ _ _ _ w.is-1 a.sides.miss)

pub returns-in-Absent-Absent-clause-bounds : goal.returns-in-Absent-Absent-clause-bounds
returns-in-Absent-Absent-clause-bounds c = λ network H asked net proper sides.
    let w = c.in-Absent-Absent in
    unbounded network H asked net proper (at_value _ _ _ _ w.is-0 sides.hit).encloses
    (at_value _ _ _ _ w.is-1 sides.miss).encloses

pub returns-in-Absent-Present-clause-bounds : goal.returns-in-Absent-Present-clause-bounds
returns-in-Absent-Present-clause-bounds c = λ network H asked net proper sides.
    let w = c.in-Absent-Present in
    bounded_never network H asked (at_value _ _ _ _ w.is-0 sides.hit).encloses
    (some_weight w.field-0-1 _ (at_value _ _ _ _ w.is-1 sides.miss).encloses)

pub returns-in-Present-Absent-clause-bounds : goal.returns-in-Present-Absent-clause-bounds
returns-in-Present-Absent-clause-bounds c = λ network H asked net proper sides.
    let w = c.in-Present-Absent in
    bounded_always network H asked
    (some_weight w.field-0-0 _ (at_value _ _ _ _ w.is-0 sides.hit).encloses)
    (at_value _ _ _ _ w.is-1 sides.miss).encloses

pub returns-in-Present-Present-clause-bounds : goal.returns-in-Present-Present-clause-bounds
returns-in-Present-Present-clause-bounds c = λ network H asked net proper sides.
    let w = c.in-Present-Present in
    let hit = at_value _ _ _ _ w.is-0 sides.hit in let miss = at_value _ _ _ _ w.is-1 sides.miss in
    bounded_between network H asked w.part c.add.result hit
    (sum_is_whole network H asked w.part w.rest c.add.result hit miss
    (record {
      encloses = c.add.ensures.encloses;
      grade = c.add.ensures.grade;
      exact = c.add.ensures.exact;
    }))
    (some_weight w.rest _ miss.encloses)
    (sum_is_few (IsSmall network H) _ _ w.part w.rest c.add.result hit miss c.add.ensures.upper)

pub returns-in-Present-Present-clause-graded : goal.returns-in-Present-Present-clause-graded
returns-in-Present-Present-clause-graded c = λ g most on_part on_rest room.
    let w = c.in-Present-Present in
    let part = held_grade c.args.part.now w.part g w.is-0 on_part in
    let rest = held_grade c.args.rest.now w.rest g w.is-1 on_rest in (
      graded_within w.part g most (omega arith) part,
      graded_within c.add.result (max g g + 1) most (omega arith)
          (c.add.ensures.grade g g part rest),
    )
