use Rattle.std.proofs.Common.{◌≡◌, map, take, string_bytes}
use Rattle.mk_net.specs.Drafts.{drafts_of}
use Rattle.mk_net.specs.Checked.{number_of}
use Rattle.mk_net.proofs.network.build.numbers.Given as goal

abbrev pub invariant-names : goal.invariant-names
invariant-names l = l.numbers.items ≡ map (number_of (drafts_of l.draft)) (map string_bytes (take l.name-index l.names))
