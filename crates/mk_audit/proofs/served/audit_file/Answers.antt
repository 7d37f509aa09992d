use Rattle.std.proofs.Common.{◌∙◌}
use Rattle.mk_file.specs.MarketOf.{market_of}
use Rattle.mk_audit.proofs.Telling.{told_of_part}
use Rattle.mk_audit.proofs.served.audit_file.Goals as goal

pub returns-in-Ok-clause-outcome : goal.returns-in-Ok-clause-outcome
returns-in-Ok-clause-outcome g c = λ text all told_text told_all.
    told_of_part c.audit_text.result (market_of c.args.file) all c.in-Ok.text.items text
    (g.S.Sink.written c.args.out.now) (g.S.Sink.written c.audit_text.new.out)
    (c.in-Ok.ensures.bytes text told_text)
    (c.audit_text.ensures.outcome all (c.load_within.ensures.commands ∙ told_all))

pub returns-in-Ok-clause-complete : goal.returns-in-Ok-clause-complete
returns-in-Ok-clause-complete g c = λ all told_all within inputs_steady sink_steady.
    c.audit_text.ensures.complete all (c.load_within.ensures.commands ∙ told_all) within
    (rw c.in-Ok.ensures.cause inputs_steady) sink_steady
