use Rattle.std.proofs.Common.{◌≡◌, take, sum_by}
use Rattle.mk_tree.specs.Tests.{cells_of}
use Rattle.mk_tree.proofs.check.total_cells.Given as goal

abbrev pub invariant-cliques : goal.invariant-cliques
invariant-cliques l = l.total ≡ sum_by (cells_of l.net) (take l.clique-index l.cliques)
