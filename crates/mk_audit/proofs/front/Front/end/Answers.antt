use Rattle.mk_audit.proofs.Endings.{longer_ends}
use Rattle.mk_audit.proofs.front.Front.end.Goals as goal

pub returns-else-self-transcript : goal.returns-else-self-transcript
returns-else-self-transcript c = longer_ends c.wrong.result c.args.transcript.now c.args.self.now
    c.wrong.ensures c.requires.place c.if-self-transcript.false
