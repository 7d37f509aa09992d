-- Tables in which nothing was multiplied.
use Rattle.std.specs.Prelude.{◌≡◌, ℕ, ◌+◌, ◌-◌, ◌<◌, List, length, slice_index_or}
use Rattle.mk_scope.specs.Scopes.{ScopeOf}
use Rattle.mk_table.specs.Tables.{TableOf}
use Rattle.mk_table.specs.Lists.{IsOnes}
use Rattle.mk_plan.specs.Shapes.{ShapeOf, clique_scope, core_scope, separator_scope}
use Rattle.mk_propagate.specs.Flows.{no_table}
use Rattle.mk_propagate.specs.inner.Boards.{BoardOf}

-- a table of ones over each of the scopes from number `first` on, so many of them
pub record AreOnes (scope : ℕ → ScopeOf) (first count : ℕ) (ts : List TableOf) : Type 0 where
  pub long : length ts ≡ count
  pub each : (i : ℕ) → i < count → IsOnes (scope (first + i)) (slice_index_or ts i no_table)

-- a board with a table of ones over each scope of a shape
pub record IsStart (shape : ShapeOf) (board : BoardOf) : Type 0 where
  pub tables : AreOnes (clique_scope shape) 1 (length shape.tree.cliques) board.tables
  pub cores : AreOnes (core_scope shape) 1 (length shape.tree.cliques) board.cores
  pub products : AreOnes (core_scope shape) 1 (length shape.tree.cliques) board.products
  pub upward : AreOnes (separator_scope shape) 2 (length shape.tree.cliques - 1) board.upward
  pub downward : AreOnes (separator_scope shape) 2 (length shape.tree.cliques - 1) board.downward
