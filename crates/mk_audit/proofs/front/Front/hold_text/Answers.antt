use Rattle.std.proofs.Common.{refl, sym, ◌∙◌}
use Rattle.mk_io.specs.Stream.{text}
use Rattle.mk_audit.specs.inner.Progress.{standing_at, left_of}
use Rattle.mk_audit.proofs.Found.{blank_passed, syntax_found, busy_line}
use Rattle.mk_audit.proofs.front.Front.hold_text.Goals as goal

pub returns-then-is_blank-clause-found : goal.returns-then-is_blank-clause-found
returns-then-is_blank-clause-found c =
    let m = c.args.market.now in
    blank_passed m.market (standing_at m.standing c.args.self.now) (text c.args.line.now)
    (left_of c.args.transcript.now c.args.self.now) c.args.self.now.right
    (rw (sym c.is_blank.ensures ∙ c.if-is_blank.true) refl)

pub returns-in-Err-clause-found : goal.returns-in-Err-clause-found
returns-in-Err-clause-found c =
    let m = c.args.market.now in
    syntax_found c.hold_bytes.result m.market m.standing c.args.line.now c.args.transcript.now
    c.args.self.now c.hold_bytes.new.self (sym c.is_blank.ensures ∙ c.if-is_blank.false)
    c.in-Err.ensures.none c.hold_bytes.ensures.known c.hold_bytes.ensures.found

pub returns-in-Ok-clause-found : goal.returns-in-Ok-clause-found
returns-in-Ok-clause-found c =
    c.hold_command.ensures.found (text c.args.line.now)
    (busy_line c.args.line.now (sym c.is_blank.ensures ∙ c.if-is_blank.false)) c.in-Ok.ensures.found
