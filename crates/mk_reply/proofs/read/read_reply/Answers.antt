use Rattle.std.proofs.Common.{sym}
use Rattle.mk_reply.proofs.ReplyLaws.{nothing_found, whole_line, more_left}
use Rattle.mk_reply.proofs.read.read_reply.Goals as goal

pub returns-in_default-clause-unread : goal.returns-in_default-clause-unread
returns-in_default-clause-unread c = nothing_found c.in_ok-reply.field-0 c.args.line.now c.reply.new.reader c.in_default.is
    (rw (← c.new-reader.ensures) c.in_ok-reply.ensures.found)

pub returns-then-is_at_end-clause-found : goal.returns-then-is_at_end-clause-found
returns-then-is_at_end-clause-found c = whole_line c.in_ok-reply.field-0 c.in-Some.reply c.args.line.now c.reply.new.reader c.in-Some.is
    (rw (← c.new-reader.ensures) c.in_ok-reply.ensures.found) (sym c.if-is_at_end.ensures)

pub returns-else-is_at_end-clause-unread : goal.returns-else-is_at_end-clause-unread
returns-else-is_at_end-clause-unread c = more_left c.in_ok-reply.field-0 c.in-Some.reply c.args.line.now c.reply.new.reader c.in-Some.is
    (rw (← c.new-reader.ensures) c.in_ok-reply.ensures.found) (sym c.if-is_at_end.ensures)
