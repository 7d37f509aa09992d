use Rattle.std.proofs.Common.{◌≡◌, ℕ, ◌<◌, length, slice_index, refl, subst, arith, le_refl}
use Rattle.std.specs.List.{AllZip, range_with_len}
use Rattle.mk_net.specs.Network.{sizes}
use Rattle.mk_states.specs.Events.{holds}
use Rattle.mk_exact.specs.History.{trades}
use Rattle.mk_exact.specs.Weight.{cannot_come}
use Rattle.mk_spread.specs.Told.{CoversValue}
use Rattle.mk_quote.specs.Questions.{spread_in}
use Rattle.mk_answers.proofs.Told.{zip_more, answered_at, not_never, room_for_one, some_told, can_price_at}
use Rattle.mk_answers.proofs.telling.prices_of.Goals as goal

pub price_of-requires : goal.price_of-requires
price_of-requires g c = rw c.question_at-question.ensures
    (can_price_at c.requires _ c.loop-value.invariant.kept c.loop-value.value _
    c.values-value-end.ensures c.loop-value-test.true)

pub push-requires : goal.push-requires
push-requires g c =
    let room = room_for_one c.requires.is_open c.requires.answered _ _ _ c.loop-value.invariant.long
    c.values-value-end.ensures c.loop-value-test.true in (omega arith, room)

pub loop-value-preserved : goal.loop-value-preserved
loop-value-preserved g c =
    let so_far = c.loop-value.invariant in let net = c.args.net.now in
    let spread = spread_in c.args.asked.now in let value = c.loop-value.value in
    let within : value < slice_index (sizes net) spread.variable =
    omega (arith, c.values-value-end.ensures, c.loop-value-test.true) in
    record {
      kept = λ m h. c.price_of.ensures.kept m (so_far.kept m h);
      long = omega (arith, so_far.long, c.push.ensures.len);
      priced = λ tree H most_trades stands is_open fit answered.
          let price = rw c.question_at-question.ensures at
          (c.in-Some.ensures.price tree H most_trades (so_far.kept _ stands) is_open fit) in
          rw c.push.ensures.items
          (zip_more (CoversValue net H most_trades spread) value c.loop-value.intervals.items
          c.in-Some.ends (so_far.priced tree H most_trades stands is_open fit answered)
          (price (answered_at net tree H spread answered value within)).covers);
      comes = λ tree H stands is_open answered some.
          let price = rw c.question_at-question.ensures at
          (c.in-Some.ensures.price tree H (length (trades H)) (so_far.kept _ stands) is_open
          (le_refl _)) in
          not_never {X = ℕ × ℕ} c.in-Some.ends (cannot_come net H
          (holds c.args.asked.now.condition)) (price
          (answered_at net tree H spread answered value within)).none;
    }

pub returns-in-None-clause-prices : goal.returns-in-None-clause-prices
returns-in-None-clause-prices g c = λ tree H most_trades stands is_open fit answered.
    let so_far = c.loop-value.invariant in let net = c.args.net.now in
    let spread = spread_in c.args.asked.now in let value = c.loop-value.value in
    let within : value < slice_index (sizes net) spread.variable =
    omega (arith, c.values-value-end.ensures, c.loop-value-test.true) in
    let price = rw c.question_at-question.ensures at
    (c.in-None.ensures.price tree H most_trades (so_far.kept _ stands) is_open fit) in
    (price (answered_at net tree H spread answered value within)).none.0 refl

pub returns-clause-prices : goal.returns-clause-prices
returns-clause-prices g c = λ tree H most_trades stands is_open fit answered.
    let net = c.args.net.now in let spread = spread_in c.args.asked.now in
    let all : c.loop-value.value ≡ slice_index (sizes net) spread.variable =
    omega (arith, c.values-value-end.ensures, c.loop-value-test.false, c.loop-value.auto.value-end)
    in
    let priced = c.loop-value.invariant.priced tree H most_trades stands is_open fit answered in
    let items = c.loop-value.intervals.items in (
      c.loop-value.invariant.comes tree H stands is_open answered
          (some_told is_open answered c.loop-value.value all),
      subst (λ (n : ℕ). AllZip (CoversValue net H most_trades spread) (range_with_len 0 n) items)
          all priced,
    )
