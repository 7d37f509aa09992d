use Rattle.mk_io.specs.Stream.{text, long}
use Rattle.mk_io.specs.declared.lines.Next.TheVariants.{Line, Long, TooMany}
use Rattle.mk_session.proofs.Endings.{going_answer, none_left, not_within}
use Rattle.mk_audit.proofs.Held.{goes_on_behind, ends_behind}
use Rattle.mk_audit.proofs.Found.{long_found}
use Rattle.mk_audit.proofs.Endings.{means_at_end}
use Rattle.mk_audit.proofs.auditing.Auditor.take_line.Goals as goal

pub returns-in-Line-clause-so_far : goal.returns-in-Line-clause-so_far
returns-in-Line-clause-so_far g c =
    let source = g.I.Inputs.commands c.args.inputs.now in
    let rest = g.I.Inputs.commands c.next.new.inputs in
    let going = going_answer Line c.args.self.now.lines c.next.new.self source rest (λ e. (cc))
    c.requires.goes_on c.in-Line.ensures.answer in
    goes_on_behind c.hold_text.result c.args.market.now.market (text c.line-line.result.now)
    c.args.self.now.lines c.next.new.self source rest c.args.market.now.standing
    c.hold_text.new.market.standing c.args.transcript.now c.args.self.now.front
    c.hold_text.new.self going.0 c.next.ensures.within (rw c.line-line.ensures going.1)
    c.hold_text.ensures.found

pub returns-in-Line-clause-ended : goal.returns-in-Line-clause-ended
returns-in-Line-clause-ended g c =
    let source = g.I.Inputs.commands c.args.inputs.now in
    let rest = g.I.Inputs.commands c.next.new.inputs in
    let going = going_answer Line c.args.self.now.lines c.next.new.self source rest (λ e. (cc))
    c.requires.goes_on c.in-Line.ensures.answer in
    ends_behind c.hold_text.result c.args.market.now.market (text c.line-line.result.now)
    c.args.self.now.lines c.next.new.self source rest c.args.market.now.standing
    c.hold_text.new.market.standing c.args.transcript.now c.args.self.now.front
    c.hold_text.new.self going.0 (rw c.line-line.ensures going.1) c.hold_text.ensures.found

pub returns-in-Long-clause-so_far : goal.returns-in-Long-clause-so_far
returns-in-Long-clause-so_far g c =
    let source = g.I.Inputs.commands c.args.inputs.now in
    let rest = g.I.Inputs.commands c.next.new.inputs in
    let going = going_answer Long c.args.self.now.lines c.next.new.self source rest (λ e. (cc))
    c.requires.goes_on c.in-Long.ensures.answer in
    goes_on_behind c.hold_bytes.result c.args.market.now.market long c.args.self.now.lines
    c.next.new.self source rest c.args.market.now.standing c.args.market.now.standing
    c.args.transcript.now c.args.self.now.front c.hold_bytes.new.self going.0 c.next.ensures.within
    going.1.0 (long_found c.hold_bytes.result c.args.market.now.market c.args.market.now.standing
    c.args.transcript.now c.args.self.now.front c.hold_bytes.new.self c.hold_bytes.ensures.known
    c.hold_bytes.ensures.found)

pub returns-in-Long-clause-ended : goal.returns-in-Long-clause-ended
returns-in-Long-clause-ended g c =
    let source = g.I.Inputs.commands c.args.inputs.now in
    let rest = g.I.Inputs.commands c.next.new.inputs in
    let going = going_answer Long c.args.self.now.lines c.next.new.self source rest (λ e. (cc))
    c.requires.goes_on c.in-Long.ensures.answer in
    ends_behind c.hold_bytes.result c.args.market.now.market long c.args.self.now.lines
    c.next.new.self source rest c.args.market.now.standing c.args.market.now.standing
    c.args.transcript.now c.args.self.now.front c.hold_bytes.new.self going.0 going.1.0
    (long_found c.hold_bytes.result c.args.market.now.market c.args.market.now.standing
    c.args.transcript.now c.args.self.now.front c.hold_bytes.new.self c.hold_bytes.ensures.known
    c.hold_bytes.ensures.found)

pub returns-in-End-clause-ended : goal.returns-in-End-clause-ended
returns-in-End-clause-ended g c = λ start all is_market at far.
    let source = g.I.Inputs.commands c.args.inputs.now in
    let empty = none_left c.args.self.now.lines c.next.new.self source
    (g.I.Inputs.commands c.next.new.inputs) far.done far.left c.requires.goes_on
    c.in-End.ensures.answer far.known far.between in
    means_at_end c.end.result start is_market all
    c.args.self.now.lines source c.args.market.now.standing c.args.transcript.now
    c.args.self.now.front c.end.ensures far empty

pub returns-in-TooMany-clause-ended : goal.returns-in-TooMany-clause-ended
returns-in-TooMany-clause-ended g c = λ start all is_market at far.
    let source = g.I.Inputs.commands c.args.inputs.now in
    let rest = g.I.Inputs.commands c.next.new.inputs in
    let going = going_answer TooMany c.args.self.now.lines c.next.new.self source rest (λ e. (cc))
    c.requires.goes_on c.in-TooMany.ensures.answer in
    not_within all c.args.self.now.lines c.next.new.self source rest _ going.0 going.1 far
