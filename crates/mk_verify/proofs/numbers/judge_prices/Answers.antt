use Rattle.mk_verify.proofs.ToldValues.{prices_in_range, prices_told}
use Rattle.mk_verify.proofs.numbers.judge_prices.Goals as goal

pub judge_each_price-requires : goal.judge_each_price-requires
judge_each_price-requires g c = record {
  range = rw c.as_slice.ensures.value (prices_in_range c.args.market.now.market
      c.args.market.now.standing.history _ c.in-Ok.bounds.items (c.in-Ok.ensures.evidence.1));
}

pub returns-in-Prices-clause-judged : goal.returns-in-Prices-clause-judged
returns-in-Prices-clause-judged g c =
    let market = c.args.market.now.market in
    let H = c.args.market.now.standing.history in
    let found = c.in-Ok.ensures.evidence in
    let trades = rw c.prices_evidence.ensures.same at c.max_trades.ensures in
    let judged = rw (c.as_slice.ensures.value, c.as_slice-in-Prices.ensures.value) at
    (c.judge_each_price.ensures market H) in
    rw c.in-Prices.is (prices_told market H c.args.variable.now c.args.condition.now (found.0)
    c.in-Ok.bounds.items c.in-Prices.intervals c.judge_each_price.result (found.1)
    (λ spread its. judged spread c.requires.small trades its))
