use Rattle.std.proofs.Common.{map, take, string_bytes}
use Rattle.mk_file.proofs.Cliqued.{ReadsClique}
use Rattle.mk_file.proofs.cliques.read_clique.Given as goal

abbrev pub invariant-names : goal.invariant-names
invariant-names l = ReadsClique l.net (map (λ s. string_bytes s) (take l.name-index l.names)) l.set
