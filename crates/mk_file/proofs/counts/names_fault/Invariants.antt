use Rattle.std.proofs.Common.{◌≡◌, ◌+◌, map, drop}
use Rattle.mk_net.specs.Drafts.{texts_of}
use Rattle.mk_net.specs.Firsts.{first_in}
use Rattle.mk_file.specs.Counts.{names_at}
use Rattle.mk_file.proofs.counts.names_fault.Given as goal

abbrev pub invariant-cliques : goal.invariant-cliques
invariant-cliques l =
    (l.place ≡ l.names-index)
    × (first_in names_at 1 (map texts_of l.cliques) ≡ first_in names_at (l.place + 1) (map texts_of (drop l.names-index l.cliques)))
