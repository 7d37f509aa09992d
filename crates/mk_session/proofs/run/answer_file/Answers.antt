use Rattle.std.proofs.Common.{ap, subst, Ok}
use Rattle.mk_exact.specs.Market.{Market}
use Rattle.mk_market.specs.Trading.{Trading}
use Rattle.mk_session.specs.Outcome.{IsHandedBack, Opened}
use Rattle.mk_session.proofs.run.answer_file.Goals as goal

pub returns-in-Done-clause-outcome : goal.returns-in-Done-clause-outcome
returns-in-Done-clause-outcome g c = λ all told.
    subst (λ (m : Market). IsHandedBack c.answer_market.new.market (Ok m) all
    (g.I.Inputs.commands c.answer_market.new.inputs)
    (g.S.Sink.written c.args.out.now) (g.S.Sink.written c.answer_market.new.out))
    (ap (λ (t : Trading _). t.market) c.in-Ok.ensures.opened)
    (c.answer_market.ensures.done c.in-Done.is all told)

pub returns-in_default-clause-outcome : goal.returns-in_default-clause-outcome
returns-in_default-clause-outcome g c = λ all told.
    subst (λ (m : Market). Opened c.answer_market.result (Ok m) all
    (g.I.Inputs.commands c.answer_market.new.inputs)
    (g.S.Sink.written c.args.out.now) (g.S.Sink.written c.answer_market.new.out))
    (ap (λ (t : Trading _). t.market) c.in-Ok.ensures.opened)
    (c.answer_market.ensures.outcome all told)
