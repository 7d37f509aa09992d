use Rattle.mk_sums.proofs.Unread as reads
use Rattle.mk_sums.proofs.messages.message_reads.Goals as goal

pub returns : goal.returns
returns c = reads.message_reads
