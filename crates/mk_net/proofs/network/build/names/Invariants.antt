use Rattle.std.proofs.Common.{◌≡◌, map, take, string_bytes}
use Rattle.mk_net.proofs.network.build.names.Given as goal

abbrev pub invariant-texts : goal.invariant-texts
invariant-texts l = l.names.keys ≡ map string_bytes (take l.text-index l.texts)
