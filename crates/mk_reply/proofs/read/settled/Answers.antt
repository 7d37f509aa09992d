use Rattle.mk_reply.proofs.ReplyLaws.{revision_read}
use Rattle.mk_reply.proofs.read.settled.Goals as goal

pub returns-in_err-payments-clause-begins : goal.returns-in_err-payments-clause-begins
returns-in_err-payments-clause-begins c = revision_read c.from_residual.result c.args.reader.now
    c.revision.new.reader c.in-Some.at c.in-Some.ensures
