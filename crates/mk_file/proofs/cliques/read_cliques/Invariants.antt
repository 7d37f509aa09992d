use Rattle.std.proofs.Common.{◌≡◌, ◌+◌, map, drop, take, All}
use Rattle.mk_net.specs.Drafts.{texts_of}
use Rattle.mk_net.specs.Firsts.{first_in}
use Rattle.mk_file.specs.inner.Known.{clique_in, set_in, IsSetOf}
use Rattle.mk_file.proofs.cliques.read_cliques.Given as goal

abbrev pub invariant-cliques : goal.invariant-cliques
invariant-cliques l = record {
  counted : l.clique ≡ l.names-index;
  left : first_in (clique_in l.net) 1 (map texts_of l.cliques) ≡ first_in (clique_in l.net) (l.clique + 1) (map texts_of (drop l.names-index l.cliques));
  sets : l.read.items ≡ map (set_in l.net) (map texts_of (take l.names-index l.cliques));
  within : All (λ set. IsSetOf l.net set) l.read.items;
}
