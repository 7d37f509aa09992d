use Rattle.std.proofs.Common.{◌≡◌, map, take}
use Rattle.mk_net.specs.Checked.{share}
use Rattle.mk_net.proofs.network.build.shares.Given as goal

abbrev pub invariant-columns : goal.invariant-columns
invariant-columns l = l.shares.items ≡ map share (take l.entry-index l.row)
