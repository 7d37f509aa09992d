use Rattle.std.proofs.Common.{◌∙◌, sym}
use Rattle.mk_net.proofs.StoredReads.{parents_stored}
use Rattle.mk_net.proofs.network.Network.parents.Goals as goal

pub returns : goal.returns
returns c = c.as_slice.ensures.value ∙ sym (parents_stored c.self.inside.variables.entries _ c.self.view_is c.args.variable c.index.result.now c.index.ensures)
