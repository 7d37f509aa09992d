use Rattle.std.proofs.Common.{refl}
use Rattle.mk_file.specs.MarketOf.{market_of}
use Rattle.mk_audit.specs.AuditOutcome.{AuditsTo}
use Rattle.mk_io.specs.declared.status.Status.TheVariants.{TooMany}
use Rattle.mk_session.proofs.Serving.{adds_nothing}
use Rattle.mk_audit.proofs.Telling.{ends_told}
use Rattle.mk_audit.proofs.served.audit_text.Goals as goal

pub returns-then-len-gt-MAX_TRANSCRIPT_BYTES-clause-complete :
    goal.returns-then-len-gt-MAX_TRANSCRIPT_BYTES-clause-complete
returns-then-len-gt-MAX_TRANSCRIPT_BYTES-clause-complete g c = λ all told within inputs_steady
    sink_steady.
    ends_told c.tell.result _ (g.S.Sink.written c.args.out.now) (g.S.Sink.written c.tell.new.out)
    (g.S.Sink.faults c.args.out.now) (g.S.Sink.faults c.tell.new.out) c.tell.ensures.output
    (c.tell.ensures.causes 0) sink_steady

pub returns-in-Ok-clause-complete : goal.returns-in-Ok-clause-complete
returns-in-Ok-clause-complete g c = λ all told within inputs_steady sink_steady.
    ends_told c.tell-in-Ok.result _ (g.S.Sink.written c.args.out.now)
    (g.S.Sink.written c.tell-in-Ok.new.out) (g.S.Sink.faults c.args.out.now)
    (g.S.Sink.faults c.tell-in-Ok.new.out) c.tell-in-Ok.ensures.output
    (c.tell-in-Ok.ensures.causes 0) sink_steady

pub returns-in-Err-TooMany-clause-outcome : goal.returns-in-Err-TooMany-clause-outcome
returns-in-Err-TooMany-clause-outcome g c = λ all told.
    let ends = rw c.in-Err-TooMany.field-0-is at c.in-Err-TooMany.ensures.ends in
    adds_nothing (g.S.Sink.written c.args.out.now)
    (AuditsTo TooMany (market_of c.args.file) all c.args.text.items) (refl, ends all told)

pub returns-in-Err-TooMany-clause-complete : goal.returns-in-Err-TooMany-clause-complete
returns-in-Err-TooMany-clause-complete g c = λ all told within inputs_steady sink_steady.
    let ends = rw c.in-Err-TooMany.field-0-is at c.in-Err-TooMany.ensures.ends in
    absurd (ends all told within)
