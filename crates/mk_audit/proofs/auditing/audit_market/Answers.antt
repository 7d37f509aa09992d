use Rattle.std.proofs.Common.{refl}
use Rattle.mk_audit.specs.declared.front.Front.{Front}
use Rattle.mk_audit.specs.Verdicts.{Unready}
use Rattle.mk_session.proofs.Present.{at_first}
use Rattle.mk_audit.proofs.Endings.{stands_at_opening, held_at_start}
use Rattle.mk_audit.proofs.auditing.audit_market.Goals as goal

pub returns-in_default-clause-ends : goal.returns-in_default-clause-ends
returns-in_default-clause-ends g c = λ all told. Unready c.in_default.ensures.begins

pub hold_lines-requires-clause-known : goal.hold_lines-requires-clause-known
hold_lines-requires-clause-known g c =
    let m = c.args.market.now in
    let front : Front =
    record { known = c.at_opening.result; place = c.in-Some.place; right = 1 } in
    stands_at_opening m.market c.requires.is_market m.standing front c.requires.opening
    c.at_opening.ensures.known c.at_opening.ensures.unquoted

pub returns-clause-ends : goal.returns-clause-ends
returns-clause-ends g c = λ all told.
    let m = c.args.market.now in
    let front : Front =
    record { known = c.at_opening.result; place = c.in-Some.place; right = 1 } in
    c.hold_lines.ensures.ends m.market all c.requires.is_market (at_first m c.requires.opening)
    (held_at_start m.market m.standing c.args.transcript.now all
    c.new.result (g.I.Inputs.commands c.args.inputs.now) front c.new.ensures told c.requires.opening
    c.at_opening.ensures.unquoted refl c.in-Some.ensures.begins)
