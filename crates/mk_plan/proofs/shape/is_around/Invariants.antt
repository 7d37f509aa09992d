use Rattle.std.proofs.Common.{◌≡◌, take}
use Rattle.std.specs.List.{list_any}
use Rattle.mk_tree.specs.Given.{holds}
use Rattle.mk_plan.specs.Shapes.{neighbours}
use Rattle.mk_plan.proofs.shape.is_around.Given as goal

-- of the neighbours so far
abbrev pub invariant-loop-neighbour : goal.invariant-loop-neighbour
invariant-loop-neighbour l = l.found ≡ list_any (λ i. holds l.tree i l.variable) (take l.neighbour-index (neighbours l.tree l.k))
