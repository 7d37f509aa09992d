use Rattle.std.proofs.Common.{◌<◌, None, IsSomeAnd, length, get_or, slice_index, refl, sym, ◌∙◌, arith}
use Rattle.mk_net.specs.Network.{sizes}
use Rattle.std.proofs.lemmas.Option.{slice_get_read, slice_get-get_or}
use Rattle.mk_states.specs.Events.{with_target}
use Rattle.mk_spread.specs.Spreads.{asked_of}
use Rattle.mk_spread.specs.Told.{IsSureOf}
use Rattle.mk_verify.specs.Clear.{IsLeastCashOpen}
use Rattle.mk_verify.proofs.Places.{first_at, ranged_long, one_more, all_judged}
use Rattle.mk_verify.proofs.each.judge_each_position.Goals as goal

pub returns-then-factors-told : goal.returns-then-factors-told
returns-then-factors-told c market H u spread tells sound trades points evidence covers =
    let one = ranged_long _ 0 _ c.args.factors.now evidence in
    let other = ranged_long _ 0 _ c.args.told.now covers in
    absurd (omega (arith, one, other))

pub loop-value-preserved : goal.loop-value-preserved
loop-value-preserved c market H u spread tells sound trades points evidence =
    let n = c.loop-value.value in
    let told = c.args.told.now in
    let within : n < length told = omega arith in
    let found = slice_get_read c.args.factors.now (length c.args.factors.now) n
    c.index-factors-value.result refl c.loop-value-test.true c.index-factors-value.is in
    rw c.and-judged.ensures (one_more told
    (IsSureOf market.network H market.max_trades u market.points_per_bit spread)
    (λ value ends. IsSomeAnd ends
    (IsLeastCashOpen market H u (with_target (asked_of spread value)))) c.loop-value.judged
    c.judge_value_cash.result n (get_or told n None) (slice_get-get_or told n None within)
    (c.loop-value.invariant market H u spread tells sound trades points evidence)
    (c.judge_value_cash.ensures market H u n spread tells sound trades points
    (first_at _ _ c.args.factors.now evidence n c.index-factors-value.result found)))

pub returns : goal.returns
returns c market H u spread tells sound trades points evidence =
    let long = ranged_long _ 0 _ c.args.factors.now evidence in
    let count = slice_index (sizes market.network) spread.variable in
    all_judged c.args.told.now
    (IsSureOf market.network H market.max_trades u market.points_per_bit spread)
    (λ value ends. IsSomeAnd ends
    (IsLeastCashOpen market H u (with_target (asked_of spread value)))) c.loop-value.judged
    c.loop-value.value count (sym c.if-factors-told.false ∙ long) (omega (arith, long))
    (c.loop-value.invariant market H u spread tells sound trades points evidence)
