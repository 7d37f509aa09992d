use Rattle.mk_verify.proofs.Exactness.{price_judged}
use Rattle.mk_verify.proofs.each.judge_value_price.Goals as goal

pub returns-in-Some : goal.returns-in-Some
returns-in-Some c market H asked tells trades evidence =
    let says = c.judge_price.ensures in
    price_judged market H asked c.in-Some.bounds c.args.small c.args.most_trades (c.args.told.0)
    (c.args.told.1) c.judge_price.result tells (rw c.in-Some.is at evidence) trades
    (record {
      allowed = says.allowed;
      wrong = says.wrong;
      unclear = says.unclear;
      clear = says.clear;
    })
