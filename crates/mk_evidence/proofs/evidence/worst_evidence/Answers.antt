use Rattle.mk_command.specs.declared.command.Command.TheVariants.{Worst}
use Rattle.mk_file.specs.MarketOf.{market_of}
use Rattle.mk_evidence.proofs.Evidenced.{asked_refused, worst_found}
use Rattle.mk_evidence.proofs.evidence.worst_evidence.Goals as goal

pub returns-in_err-user-clause-evidence : goal.returns-in_err-user-clause-evidence
returns-in_err-user-clause-evidence g c = asked_refused c.args.market.now _ c.market.view_is
    (Worst c.args.name.now) c.in_err-user.field-0.0 c.from_residual.result _
    c.from_residual.ensures.1 (c.in_err-user.ensures.refusal (market_of c.market.inside.file))

pub returns-clause-evidence : goal.returns-clause-evidence
returns-clause-evidence g c =
    worst_found c.market.view_is (Worst c.args.name.now) c.args.name.now c.in_ok-user.user
    c.user_factor.result c.in_ok-user.ensures.user
    (c.in_ok-user.ensures.refusal (market_of c.market.inside.file)) c.user_factor.ensures.least
