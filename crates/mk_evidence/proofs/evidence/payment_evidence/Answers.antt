use Rattle.mk_evidence.proofs.Evidenced.{payment_found}
use Rattle.mk_evidence.proofs.evidence.payment_evidence.Goals as goal

pub returns-clause-evidence : goal.returns-clause-evidence
returns-clause-evidence g c =
    let old = c.args.market.now in
    payment_found old.market old.standing.history c.args.user c.user_factor.result
    c.user_factor.ensures.least
