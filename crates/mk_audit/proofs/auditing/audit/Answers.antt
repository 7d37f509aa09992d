use Rattle.std.proofs.Common.{ap, subst}
use Rattle.mk_exact.specs.Market.{Market}
use Rattle.mk_market.specs.Trading.{Trading}
use Rattle.mk_audit.specs.Verdicts.{AuditEnds}
use Rattle.mk_audit.proofs.auditing.audit.Goals as goal

pub returns-in-Ok-clause-ends : goal.returns-in-Ok-clause-ends
returns-in-Ok-clause-ends g c = λ all told.
    subst (λ (m : Market). AuditEnds c.audit_market-ended.result m all c.args.transcript.now)
    (ap (λ (t : Trading _). t.market) c.in-Ok.ensures.opened)
    (c.audit_market-ended.ensures.ends all told)
