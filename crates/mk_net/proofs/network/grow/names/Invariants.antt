use Rattle.std.proofs.Common.{◌≡◌, take, All}
use Rattle.mk_names.specs.Name.{IsName}
use Rattle.mk_net.proofs.network.grow.names.Given as goal

abbrev pub invariant-names : goal.invariant-names
invariant-names l = (l.set.keys ≡ take l.name-index l.names)
    × All IsName (take l.name-index l.names)
