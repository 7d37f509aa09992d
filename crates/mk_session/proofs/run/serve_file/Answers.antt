use Rattle.std.proofs.Common.{ap, subst, Ok}
use Rattle.mk_exact.specs.Market.{Market}
use Rattle.mk_market.specs.Trading.{Trading}
use Rattle.mk_session.specs.Outcome.{Opened}
use Rattle.mk_session.proofs.run.serve_file.Goals as goal

pub returns-in-Ok-clause-outcome : goal.returns-in-Ok-clause-outcome
returns-in-Ok-clause-outcome g c = λ all told.
    subst (λ (m : Market). Opened c.answer_market-status.result (Ok m) all
    (g.I.Inputs.commands c.answer_market-status.new.inputs)
    (g.S.Sink.written c.args.out.now) (g.S.Sink.written c.answer_market-status.new.out))
    (ap (λ (t : Trading _). t.market) c.in-Ok.ensures.opened)
    (c.answer_market-status.ensures.outcome all told)
