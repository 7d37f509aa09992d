use Rattle.std.specs.Prelude.{◌≡◌, slice_index}
use Rattle.std.proofs.Common.{arith, ◌∙◌, sym}
use Rattle.mk_net.specs.Network.{sizes}
use Rattle.mk_net.proofs.Networks.{few_values}
use Rattle.mk_net.proofs.StoredReads.{size_stored}
use Rattle.mk_net.proofs.network.Network.values.Goals as goal

size : (c : goal.After-len) → c.len.result ≡ slice_index (sizes c.args.self.now) c.args.variable
size c = c.len.ensures.len ∙ sym (size_stored c.self.inside.variables.entries _ c.self.view_is c.args.variable c.index.result.now c.requires c.index.ensures)

pub overflow_cast-result : goal.overflow_cast-result
overflow_cast-result c = omega (arith, size c, few_values c.args.self.now c.args.variable (rw c.self.view_is at c.self.invariant.network) c.requires)

pub returns : goal.returns
returns c = size c
