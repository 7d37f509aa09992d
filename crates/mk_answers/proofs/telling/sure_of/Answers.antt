use Rattle.std.proofs.Common.{arith}
use Rattle.mk_answers.specs.Open.{holding_of}
use Rattle.mk_answers.proofs.Told.{none_found, in_range, sure, sure_asked, none_asked}
use Rattle.mk_answers.proofs.telling.sure_of.Goals as goal

pub cash-requires-clause-range : goal.cash-requires-clause-range
cash-requires-clause-range g c =
    let a = c.requires.assets in let net = c.args.net.now in
    in_range net a.tree a.history a.user a.is_open c.event.result _ c.least.result
    (c.least.ensures.least (holding_of net a.tree a.history a.user) a.owns)
    c.in-Some.factor c.in-Some.is (omega arith) a.owns.few_in a.owns.few_out
    c.args.points_per_bit c.requires.few_points

pub returns-in-None-clause-sure : goal.returns-in-None-clause-sure
returns-in-None-clause-sure g c = λ tree H most_trades u owns is_open fit sound.
    let net = c.args.net.now in
    none_asked net H u c.args.asked.now c.event.result c.event.ensures.pairs
    (none_found net tree H u is_open c.event.result _ c.least.result
    (c.least.ensures.least (holding_of net tree H u) owns) c.in-None.is)

pub returns-in-Some-clause-sure : goal.returns-in-Some-clause-sure
returns-in-Some-clause-sure g c = λ tree H most_trades u owns is_open fit sound.
    let net = c.args.net.now in let ends = c.cash.result in
    sure_asked net H most_trades u c.args.points_per_bit c.args.asked.now c.event.result ends
    c.event.ensures.pairs
    (sure net tree H u is_open c.event.result _ c.least.result
    (c.least.ensures.least (holding_of net tree H u) owns) c.in-Some.factor c.in-Some.is
    (omega arith) most_trades fit sound c.args.points_per_bit (ends.0) (ends.1)
    c.cash.ensures.covers)
