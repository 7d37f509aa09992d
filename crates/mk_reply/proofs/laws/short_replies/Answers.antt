use Rattle.mk_reply.proofs.LengthLaws.{reply_length}
use Rattle.mk_reply.proofs.laws.short_replies.Goals as goal

pub returns : goal.returns
returns c = reply_length
