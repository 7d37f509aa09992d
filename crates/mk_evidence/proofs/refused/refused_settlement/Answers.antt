use Rattle.mk_evidence.proofs.Evidenced.{outcome_where}
use Rattle.mk_evidence.proofs.refused.refused_settlement.Goals as goal

pub returns-clause-outcome : goal.returns-clause-outcome
returns-clause-outcome g c =
    let i = c.market.inside in
    rw (← c.market.view_is) (outcome_where i.file.net i.journal.history c.market.invariant.legal
    c.market.invariant.safe.proper c.refuse_settle.result c.refuse_settle.ensures.resolved)
