use Rattle.std.proofs.Common.{◌<◌, length, get_or, slice_index, refl, sym, ◌∙◌, arith}
use Rattle.mk_net.specs.Network.{sizes}
use Rattle.std.proofs.lemmas.Option.{slice_get_read, slice_get-get_or}
use Rattle.mk_spread.specs.Spreads.{asked_of}
use Rattle.mk_spread.specs.Told.{CoversValue}
use Rattle.mk_verify.specs.Clear.{IsPriceOpen}
use Rattle.mk_verify.proofs.Places.{first_at, ranged_long, one_more, all_judged}
use Rattle.mk_verify.proofs.each.judge_each_price.Goals as goal

pub returns-then-bounds-told : goal.returns-then-bounds-told
returns-then-bounds-told c market H spread tells trades evidence covers =
    let one = ranged_long _ 0 _ c.args.bounds.now evidence in
    let other = ranged_long _ 0 _ c.args.told.now covers in
    absurd (omega (arith, one, other))

pub loop-value-preserved : goal.loop-value-preserved
loop-value-preserved c market H spread tells trades evidence =
    let n = c.loop-value.value in
    let told = c.args.told.now in
    let within : n < length told = omega arith in
    let found = slice_get_read c.args.bounds.now (length c.args.bounds.now) n
    c.index-bounds-value.result refl c.loop-value-test.true c.index-bounds-value.is in
    rw c.and-judged.ensures (one_more told (CoversValue market.network H market.max_trades spread)
    (λ value ends. IsPriceOpen market H (asked_of spread value) ends) c.loop-value.judged
    c.judge_value_price.result n (get_or told n (0, 0)) (slice_get-get_or told n (0, 0) within)
    (c.loop-value.invariant market H spread tells trades evidence)
    (c.judge_value_price.ensures market H (asked_of spread n) tells trades
    (first_at _ _ c.args.bounds.now evidence n c.index-bounds-value.result found)))

pub returns : goal.returns
returns c market H spread tells trades evidence =
    let long = ranged_long _ 0 _ c.args.bounds.now evidence in
    let count = slice_index (sizes market.network) spread.variable in
    all_judged c.args.told.now (CoversValue market.network H market.max_trades spread)
    (λ value ends. IsPriceOpen market H (asked_of spread value) ends) c.loop-value.judged
    c.loop-value.value count (sym c.if-bounds-told.false ∙ long) (omega (arith, long))
    (c.loop-value.invariant market H spread tells trades evidence)
