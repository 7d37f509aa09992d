use Rattle.mk_text.proofs.ReadingLaws.{whole_one}
use Rattle.mk_reply.proofs.ReplyLaws.{form_tells}
use Rattle.mk_reply.proofs.laws.one_reply_each.Goals as goal

pub returns : goal.returns
returns c = whole_one form_tells
