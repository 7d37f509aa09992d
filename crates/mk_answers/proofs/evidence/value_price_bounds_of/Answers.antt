use Rattle.std.proofs.Common.{◌≡◌, ℕ, ◌<◌, slice_index, Option, Some, IsSomeAnd, refl, subst}
use Rattle.std.proofs.Common.{arith}
use Rattle.std.specs.List.{AllZip, range_with_len}
use Rattle.mk_net.specs.Network.{sizes}
use Rattle.mk_states.specs.Events.{holds}
use Rattle.mk_exact.specs.Weight.{cannot_come}
use Rattle.mk_spread.specs.Spreads.{asked_of}
use Rattle.mk_judge.specs.declared.price.PriceBounds.{PriceBounds}
use Rattle.mk_answers.specs.Evidence.{AreBoundsOfPrice, grade_together}
use Rattle.mk_beliefs.specs.Meanings.{weights_of}
use Rattle.mk_quote.specs.Questions.{spread_in}
use Rattle.mk_answers.proofs.Told.{zip_more, answered_at, not_never, room_for_one, some_told, can_price_at}
use Rattle.mk_answers.proofs.evidence.value_price_bounds_of.Goals as goal

pub price_bounds_of-requires : goal.price_bounds_of-requires
price_bounds_of-requires g c = rw c.question_at-question.ensures
    (can_price_at c.requires _ c.loop-value.invariant.kept c.loop-value.value _
    c.values-value-end.ensures c.loop-value-test.true)

pub push-requires : goal.push-requires
push-requires g c =
    let room = room_for_one c.requires.is_open c.requires.answered _ _ _ c.loop-value.invariant.long
    c.values-value-end.ensures c.loop-value-test.true in (omega arith, room)

pub loop-value-preserved : goal.loop-value-preserved
loop-value-preserved g c =
    let so_far = c.loop-value.invariant in let net = c.args.net.now in
    let spread = spread_in c.args.asked.now in let value = c.loop-value.value in
    let within : value < slice_index (sizes net) spread.variable =
    omega (arith, c.values-value-end.ensures, c.loop-value-test.true) in
    record {
      kept = λ m h. c.price_bounds_of.ensures.kept m (so_far.kept m h);
      long = omega (arith, so_far.long, c.push.ensures.len);
      bounded = λ tree H most stands is_open answered room.
          let price = rw c.question_at-question.ensures at
          (c.in-Some.ensures.bounds tree H most (so_far.kept _ stands) is_open) in
          rw c.push.ensures.items
          (zip_more (λ value (price : Option PriceBounds). IsSomeAnd price
          (AreBoundsOfPrice most net H (asked_of spread value))) value c.loop-value.parts.items
          (Some c.in-Some.bounds)
          (so_far.bounded tree H most stands is_open answered room)
          (price (answered_at net tree H spread answered value within) room).bounds);
      comes = λ tree H stands is_open answered some.
          let price = rw c.question_at-question.ensures at
          (c.in-Some.ensures.bounds tree H (grade_together (g.P.Engine.grade_of
          (weights_of net tree H))) (so_far.kept _ stands) is_open) in
          not_never {X = PriceBounds} c.in-Some.bounds (cannot_come net H
          (holds c.args.asked.now.condition)) (price
          (answered_at net tree H spread answered value within) (omega arith)).none;
    }

pub returns-in-None-clause-bounds : goal.returns-in-None-clause-bounds
returns-in-None-clause-bounds g c = λ tree H most stands is_open answered room.
    let so_far = c.loop-value.invariant in let net = c.args.net.now in
    let spread = spread_in c.args.asked.now in let value = c.loop-value.value in
    let within : value < slice_index (sizes net) spread.variable =
    omega (arith, c.values-value-end.ensures, c.loop-value-test.true) in
    let price = rw c.question_at-question.ensures at
    (c.in-None.ensures.bounds tree H most (so_far.kept _ stands) is_open) in
    (price (answered_at net tree H spread answered value within) room).none.0 refl

pub returns-clause-bounds : goal.returns-clause-bounds
returns-clause-bounds g c = λ tree H most stands is_open answered room.
    let net = c.args.net.now in let spread = spread_in c.args.asked.now in
    let all : c.loop-value.value ≡ slice_index (sizes net) spread.variable =
    omega (arith, c.values-value-end.ensures, c.loop-value-test.false, c.loop-value.auto.value-end)
    in
    let bounded = c.loop-value.invariant.bounded tree H most stands is_open answered room in
    let items = c.loop-value.parts.items in (
      c.loop-value.invariant.comes tree H stands is_open answered
          (some_told is_open answered c.loop-value.value all),
      subst (λ (n : ℕ). AllZip (λ value (price : Option PriceBounds). IsSomeAnd price
          (AreBoundsOfPrice most net H (asked_of spread value))) (range_with_len 0 n) items)
          all bounded,
    )
