use Rattle.mk_io.proofs.AtOnce.{passed_over}
use Rattle.mk_io.proofs.pending.Pending.pass.Goals as goal

pub returns : goal.returns
returns c = passed_over c.self.inside.buf _ c.self.inside.from c.self.inside.to c.args.count c.self.view_is c.requires
