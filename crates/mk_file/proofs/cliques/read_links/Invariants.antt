use Rattle.std.proofs.Common.{◌≡◌, ◌+◌, map, drop, take}
use Rattle.std.specs.Prelude.{nat_abs}
use Rattle.mk_net.specs.Firsts.{first_in}
use Rattle.mk_file.specs.Cliques.{link_at}
use Rattle.mk_file.proofs.cliques.read_links.Given as goal

abbrev pub invariant-links : goal.invariant-links
invariant-links l = record {
  counted : l.clique ≡ l.link-index + 1;
  left : first_in link_at 2 l.links ≡ first_in link_at (l.clique + 1) (drop l.link-index l.links);
  read : l.read.items ≡ map nat_abs (take l.link-index l.links);
}
