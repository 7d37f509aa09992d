use Rattle.std.proofs.Common.{subst}
use Rattle.mk_parts.proofs.Markets.{market_is}
use Rattle.mk_market.proofs.Openings.{opening_kept, opening_weights}
use Rattle.mk_market.proofs.market.Market.with_plans.Goals as goal

pub invariant_of-result : goal.invariant_of-result
invariant_of-result g c =
    opening_kept g.P.Engine.stands_for g.A.Engine.stands_for g.A.Engine.plan_for c.args.file c.in_ok-prices.prices c.in_ok-rows.rows c.args.assets c.none.result c.in_ok-ledger.ledger
    c.in_ok-journal.journal c.in_ok-payments.payments c.in_ok-till.till c.in_ok-prices.ensures.network c.requires.tree c.requires.assets
    (subst (g.P.Engine.stands_for c.in_ok-prices.prices) (opening_weights c.args.file.net c.args.file.tree) c.in_ok-prices.ensures.stands) c.in_ok-rows.ensures.stands
    c.none.ensures c.in_ok-ledger.ensures c.in_ok-journal.ensures c.in_ok-payments.ensures c.in_ok-till.ensures

pub returns-clause-is_market : goal.returns-clause-is_market
returns-clause-is_market g c =
    market_is c.args.file c.in_ok-prices.ensures.network c.requires.tree
