use Rattle.mk_command.specs.Commands.{command_of}
use Rattle.mk_durable.proofs.Taking.{no_line, no_command, no_reply, both_read, unfit_record}
use Rattle.mk_durable.proofs.Moving.{at_tried}
use Rattle.mk_durable.proofs.record.take_back.Goals as goal

pub restore-requires-clause-prices : goal.restore-requires-clause-prices
restore-requires-clause-prices g c _ _ _ _ tree is = c.requires.prices _ tree is

pub restore-requires-clause-assets : goal.restore-requires-clause-assets
restore-requires-clause-assets g c _ _ _ _ tree is = c.requires.assets _ tree is

pub returns-in_default-clause-unfit : goal.returns-in_default-clause-unfit
returns-in_default-clause-unfit g c = λ same. no_line _ _ c.args.bytes.now c.in_default.ensures

pub returns-in_default-read_command-clause-unfit :
    goal.returns-in_default-read_command-clause-unfit
returns-in_default-read_command-clause-unfit g c = λ same.
    no_command _ _ c.args.bytes.now c.in-Some.line.now c.in-Some.text.now
    c.in-Some.ensures.0 c.in-Some.ensures.1 c.in_default-read_command.ensures.none

pub returns-in-Err-Syntax-clause-unfit : goal.returns-in-Err-Syntax-clause-unfit
returns-in-Err-Syntax-clause-unfit g c = λ same.
    no_reply _ _ c.args.bytes.now c.in-Some.line.now c.in-Some.text.now
    c.in-Some.ensures.0 c.in-Some.ensures.1
    (rw c.in-Err-Syntax.field-0-is at c.in-Err-Syntax.ensures.unread)

pub returns-in-Ok-read_reply-clause-unfit : goal.returns-in-Ok-read_reply-clause-unfit
returns-in-Ok-read_reply-clause-unfit g c = λ failed.
    unfit_record _ _ c.args.bytes.now (command_of c.in-Ok.command) c.in-Ok-read_reply.reply
    (both_read c.args.bytes.now c.in-Some.line.now c.in-Some.text.now (command_of c.in-Ok.command)
    c.in-Ok-read_reply.reply c.in-Some.ensures.1 c.in-Ok.ensures.found
    c.in-Ok-read_reply.ensures.found) (c.restore.ensures.unfit failed)

pub returns-in-Ok-read_reply-clause-market : goal.returns-in-Ok-read_reply-clause-market
returns-in-Ok-read_reply-clause-market g c = λ start.
    at_tried start c.args.market.now c.restore.new.self (command_of c.in-Ok.command)
    c.in-Ok-read_reply.reply c.restore.result c.restore.ensures.market c.restore.ensures.next
    c.restore.ensures.same
