use Rattle.mk_reply.proofs.ReplyLaws.{settlement_begins, dated_settlement}
use Rattle.mk_reply.proofs.read.reply.Goals as goal

pub returns-then-skip-clause-memory : goal.returns-then-skip-clause-memory
returns-then-skip-clause-memory c = settlement_begins c.settled.result c.args.reader.now c.skip.new.self c.if-skip.ensures.passed

pub returns-then-skip-clause-begins : goal.returns-then-skip-clause-begins
returns-then-skip-clause-begins c = dated_settlement c.settled.result c.args.reader.now
    c.skip.new.self c.if-skip.ensures.passed c.settled.ensures.begins
