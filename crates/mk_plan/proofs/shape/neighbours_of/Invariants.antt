use Rattle.std.proofs.Common.{◌≡◌, length, filter}
use Rattle.std.specs.List.{range_with_len}
use Rattle.mk_sums.specs.Trees.{linked_to}
use Rattle.mk_tree.specs.Given.{link_of}
use Rattle.mk_plan.proofs.shape.neighbours_of.Given as goal

abbrev pub invariant-loop-passed : goal.invariant-loop-passed
invariant-loop-passed l = l.list.items ≡ filter (linked_to (link_of l.tree) (length l.tree.cliques) l.k) (range_with_len 1 l.passed)
