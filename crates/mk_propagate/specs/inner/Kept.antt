-- How a flow is kept: its tables and messages lie over the scopes of its shape, and a core that was summed has the shift of its clique's table. Beside them it keeps, over the core of each clique, a product of messages,
-- with a mark of whose messages it has.
use Rattle.std.specs.Prelude.{◌≡◌, ℕ, ◌+◌, ◌-◌, ◌<◌, true, List, length, slice_index_or}
use Rattle.mk_sums.specs.Trees.{sum_of}
use Rattle.mk_scope.specs.Scopes.{cells_in}
use Rattle.mk_table.specs.Tables.{TableOf}
use Rattle.mk_tree.specs.Given.{GivenTree, AreLinked}
use Rattle.mk_plan.specs.Shapes.{IsClique, clique_scope, core_scope, separator_scope}
use Rattle.mk_propagate.specs.Flows.{FlowOf, table_at, core_at, is_summed, no_table}
use Rattle.mk_propagate.specs.declared.gathered.Gathered.{Gathered}
use Rattle.mk_propagate.specs.declared.gathered.Gathered.TheVariants.{Nothing}
use Rattle.mk_propagate.specs.inner.Gathered.{HasMarked}

-- a table over the core of each clique
pub record AreOverCores (flow : FlowOf) (tables : List TableOf) : Type 0 where
  pub one_each : length tables ≡ length flow.shape.tree.cliques
  pub scopes : (k : ℕ) → IsClique flow.shape.tree k → (slice_index_or tables (k - 1) no_table).scope ≡ core_scope flow.shape k

pub record IsKept (flow : FlowOf) (products : List TableOf) (cells : ℕ) : Type 0 where
  pub linked : AreLinked flow.shape.tree
  pub one_each : length flow.tables ≡ length flow.shape.tree.cliques
  pub one_less_up : length flow.upward + 1 ≡ length flow.shape.tree.cliques
  pub one_less_down : length flow.downward + 1 ≡ length flow.shape.tree.cliques
  pub table_scopes : (k : ℕ) → IsClique flow.shape.tree k → (table_at flow k).scope ≡ clique_scope flow.shape k
  pub cores_are : AreOverCores flow flow.cores
  pub one_mark_each : length flow.summed ≡ length flow.shape.tree.cliques
  pub core_shifts : (k : ℕ) → IsClique flow.shape.tree k → is_summed flow k ≡ true → (core_at flow k).shift ≡ (table_at flow k).shift
  pub products_are : AreOverCores flow products
  pub upward_scopes : (k : ℕ) → IsClique flow.shape.tree k → 1 < k → (slice_index_or flow.upward (k - 2) no_table).scope ≡ separator_scope flow.shape k
  pub downward_scopes : (k : ℕ) → IsClique flow.shape.tree k → 1 < k → (slice_index_or flow.downward (k - 2) no_table).scope ≡ separator_scope flow.shape k
  pub cells_are : cells ≡ sum_of (λ k. true) (length flow.shape.tree.cliques) (λ k. cells_in (clique_scope flow.shape k))

-- a mark for each clique, and P holds of each clique's mark and table
pub record AreMarked (M : Type 0) (tree : GivenTree) (none : M) (P : ℕ → M → TableOf → Type 0) (tables : List TableOf) (marks : List M) : Type 0 where
  pub one_mark_each : length marks ≡ length tree.cliques
  pub marked_is : (k : ℕ) → IsClique tree k → P k (slice_index_or marks (k - 1) none) (slice_index_or tables (k - 1) no_table)

-- a table has the messages to clique k that its mark tells of
abbrev pub IsGathered : (ℕ → ℕ → ℕ) → FlowOf → ℕ → Gathered → TableOf → Type 0
IsGathered plus flow k mark t = HasMarked plus flow.shape flow.upward flow.downward k mark t

pub record IsFlow (plus : ℕ → ℕ → ℕ) (flow : FlowOf) (products : List TableOf) (gathered : List Gathered) (cells : ℕ) : Type 0 where
  pub kept : IsKept flow products cells
  pub gathered_are : AreMarked Gathered flow.shape.tree Nothing (IsGathered plus flow) products gathered
