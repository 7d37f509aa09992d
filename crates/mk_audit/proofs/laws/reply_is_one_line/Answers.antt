use Rattle.mk_audit.proofs.OneLine.{reply_is_one_line}
use Rattle.mk_audit.proofs.laws.reply_is_one_line.Goals as goal

pub returns : goal.returns
returns c = reply_is_one_line
