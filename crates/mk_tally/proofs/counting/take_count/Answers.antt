use Rattle.std.proofs.Common.{Some}
use Rattle.mk_io.specs.Stream.{text, long}
use Rattle.mk_io.specs.declared.lines.Next.TheVariants.{Line, Long, TooMany}
use Rattle.mk_market.specs.Trading.{IsAt}
use Rattle.mk_session.proofs.Endings.{going_answer, none_left, not_within}
use Rattle.mk_tally.proofs.Counted.{counts_on, counted_so_far_next, tally_of}
use Rattle.mk_tally.proofs.counting.take_count.Goals as goal

pub returns-in-Line-clause-so_far : goal.returns-in-Line-clause-so_far
returns-in-Line-clause-so_far c =
    let going = going_answer Line c.args.lines.now c.next.new.self (Some c.args.inputs.now.commands)
    (Some c.next.new.inputs.commands) (λ e. (cc)) c.requires.goes_on c.in-Line.ensures.answer in
    counts_on c.count_text.result c.end_where_short.result (λ start. IsAt start c.args.market.now)
    (text c.line.result.now) c.args.lines.now c.next.new.self
    c.args.inputs.now.commands c.next.new.inputs.commands c.args.market.now.standing
    c.count_text.new.market.standing c.args.tally.now c.count_text.new.tally
    c.end_where_short.ensures going.0 c.next.ensures.within (rw c.line.ensures going.1)
    c.count_text.ensures.counted

pub returns-in-Long-clause-so_far : goal.returns-in-Long-clause-so_far
returns-in-Long-clause-so_far c = λ start all here far.
    let going = going_answer Long c.args.lines.now c.next.new.self (Some c.args.inputs.now.commands)
    (Some c.next.new.inputs.commands) (λ e. (cc)) c.requires.goes_on c.in-Long.ensures.answer in
    counted_so_far_next start all long c.args.lines.now c.next.new.self
    c.args.inputs.now.commands c.next.new.inputs.commands
    c.args.market.now.standing c.args.market.now.standing c.args.tally.now c.count_long.new.tally
    going.0 c.next.ensures.within going.1.0 (c.count_long.ensures.counted start
    c.args.market.now.standing) far

pub returns-in-End-clause-ended : goal.returns-in-End-clause-ended
returns-in-End-clause-ended c = λ start all here far.
    let empty = none_left c.args.lines.now c.next.new.self (Some c.args.inputs.now.commands)
    (Some c.next.new.inputs.commands) far.done far.left c.requires.goes_on
    c.in-End.ensures.answer far.known far.between in
    tally_of start all c.args.lines.now c.args.inputs.now.commands
    c.args.market.now.standing c.args.tally.now far empty

pub returns-in-TooMany-clause-ended : goal.returns-in-TooMany-clause-ended
returns-in-TooMany-clause-ended c = λ start all here far.
    let going = going_answer TooMany c.args.lines.now c.next.new.self
    (Some c.args.inputs.now.commands) (Some c.next.new.inputs.commands) (λ e. (cc))
    c.requires.goes_on c.in-TooMany.ensures.answer in
    not_within all c.args.lines.now c.next.new.self (Some c.args.inputs.now.commands)
    (Some c.next.new.inputs.commands) _ going.0 going.1 far
