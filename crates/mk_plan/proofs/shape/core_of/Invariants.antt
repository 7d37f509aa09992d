use Rattle.std.proofs.Common.{◌≡◌, ℕ, take}
use Rattle.std.specs.List.{list_any}
use Rattle.mk_sets.specs.Sets.{is_member}
use Rattle.mk_tree.specs.Given.{holds}
use Rattle.mk_plan.specs.Shapes.{neighbours}
use Rattle.mk_plan.proofs.shape.core_of.Given as goal

-- the variables of the neighbours so far
abbrev pub invariant-loop-neighbour : goal.invariant-loop-neighbour
invariant-loop-neighbour l = (x : ℕ) → is_member l.around x ≡ list_any (λ i. holds l.tree i x) (take l.neighbour-index (neighbours l.tree l.k))
