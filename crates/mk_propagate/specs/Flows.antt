-- Flows: a table for each clique, and a message each way between linked cliques.
use Rattle.std.specs.Prelude.{◌≡◌, ◌≢◌, ℕ, ◌+◌, ◌-◌, ◌*◌, ◌<◌, ◌≤◌, ◌&&◌, not, Bool, List, [], length, true, false, min, None, nat_lt, if◌then◌else◌, slice_index, slice_index_or}
use Rattle.mk_net.specs.declared.words.Pair.{Pair}
use Rattle.mk_net.specs.Bounds.{number_limit}
use Rattle.mk_net.specs.Network.{Variable, sizes}
use Rattle.mk_sums.specs.Sums.{over}
use Rattle.mk_sums.specs.Joint.{variables}
use Rattle.mk_sums.specs.Trees.{linked_to, linked_but, right_message, message_grade, sum_of}
use Rattle.mk_scope.specs.Scopes.{ScopeOf}
use Rattle.mk_scope.specs.Cells.{values_at, cells_beside}
use Rattle.mk_table.specs.Tables.{TableOf, HasNumbers}
use Rattle.mk_table.specs.Ratios.{HasRatios}
use Rattle.mk_tree.specs.Given.{GivenTree, clique_at, holds, link_of, holds_event}
use Rattle.mk_engine.specs.Meaning.{exact_belief, whole_sum, max_factors}
use Rattle.mk_engine.specs.Apart.{IsApart, without_ratios}
use Rattle.mk_plan.specs.Shapes.{ShapeOf, IsShapeFor, IsClique, are_linked, is_behind, next_on_way, clique_scope, core_scope, separator_between, clique_cells, no_scope, scope_within, in_core}
use Rattle.mk_propagate.specs.Placings.{Placing, IsPlacing, IsCommon, placed_there, factors_in, ratios_in, meaning_of}

-- Beside the table of each clique lies one over its core, and whether that was summed. Upward are the messages of the cliques from 2 on to
-- their links, and downward those of the links to them. `factors` counts the factors that are placed, and `computed` the messages that were made.
pub record FlowOf : Type 0 where
  pub shape : ShapeOf
  pub tables : List TableOf
  pub cores : List TableOf
  pub summed : List Bool
  pub upward : List TableOf
  pub downward : List TableOf
  pub factors : ℕ
  pub computed : ℕ

abbrev pub no_table : TableOf
no_table = record { scope = no_scope; shift = 0; digits = []; exponents = []; touched = None }

abbrev pub table_at : FlowOf → ℕ → TableOf
table_at flow k = slice_index_or flow.tables (k - 1) no_table

abbrev pub core_at : FlowOf → ℕ → TableOf
core_at flow k = slice_index_or flow.cores (k - 1) no_table

abbrev pub is_summed : FlowOf → ℕ → Bool
is_summed flow k = slice_index_or flow.summed (k - 1) false

-- the message from a clique to one that is linked to it
abbrev pub message_at : FlowOf → ℕ → ℕ → TableOf
message_at flow a b = if nat_lt b a then slice_index_or flow.upward (a - 2) no_table else slice_index_or flow.downward (b - 2) no_table

-- A table over a scope whose cells stand for a number of their values after so many steps. No more ratios are in it than `factors`,
-- each of which raised its shift by the 40 places of a unit. There are `count` of them, and the common pairs stand in the condition of each.
pub record HasCells (t : TableOf) (scope : ScopeOf) (f : (ℕ → ℕ) → ℕ) (steps factors count : ℕ) (common : Pair → Type 0) : Type 0 where
  pub scope_is : t.scope ≡ scope
  pub numbers : HasNumbers t (λ c. f (values_at t.scope c)) steps
  pub small_shift : t.shift ≤ 40 * factors
  pub ratios : HasRatios t count common

-- what is placed in clique k: the plus over the variables that lie outside its core
abbrev pub core_there : (ℕ → ℕ → ℕ) → GivenTree → Placing → ℕ → (ℕ → ℕ) → ℕ
core_there plus tree p k = over plus (slice_index (sizes p.network)) (λ x. holds tree k x && not (in_core tree k x)) (variables (sizes p.network)) (placed_there p k)

-- how many cells of the clique have the values of one cell of its core
abbrev pub private_cells : List Variable → GivenTree → ℕ → ℕ
private_cells network tree k = cells_beside (scope_within network (in_core tree k)) (scope_within network (holds tree k))

-- the steps that this costs
abbrev pub core_steps : GivenTree → Placing → ℕ → ℕ
core_steps tree p k = factors_in p k + (2 * private_cells p.network tree k - 1)

-- a table over the core of clique k has what is placed in the clique, summed there
abbrev pub HasSums : (ℕ → ℕ → ℕ) → ShapeOf → Placing → ℕ → TableOf → Type 0
HasSums plus shape p k t = HasCells t (core_scope shape k) (core_there plus shape.tree p k) (core_steps shape.tree p k) (factors_in p k) (ratios_in p k) (IsCommon p)

-- The flow has this placed: the table of each clique has the product of what is placed there, in a step for each factor, and so has
-- each core that was summed.
pub record HasPlaced (plus : ℕ → ℕ → ℕ) (flow : FlowOf) (p : Placing) : Type 0 where
  pub shape_is : IsShapeFor flow.shape p.network
  pub placing : IsPlacing flow.shape.tree p
  pub counted : length p.factors ≡ flow.factors
  pub tables : (k : ℕ) → IsClique flow.shape.tree k
      → HasCells (table_at flow k) (clique_scope flow.shape k) (placed_there p k) (factors_in p k) (factors_in p k) (ratios_in p k) (IsCommon p)
  pub sums : (k : ℕ) → IsClique flow.shape.tree k → is_summed flow k ≡ true → HasSums plus flow.shape p k (core_at flow k)

-- the exact message from a to b
abbrev pub exact_message : (ℕ → ℕ → ℕ) → GivenTree → Placing → ℕ → ℕ → (ℕ → ℕ) → ℕ
exact_message plus tree p a b =
    right_message plus (slice_index (sizes p.network)) (variables (sizes p.network)) (holds tree) (placed_there p) (link_of tree) (length tree.cliques) a b

-- the grade that it may have: what is placed on a's side, the cells there, and 2 for each separator between them
abbrev pub exact_message_grade : GivenTree → Placing → ℕ → ℕ → ℕ
exact_message_grade tree p a b = message_grade (factors_in p) (clique_cells p.network tree) (link_of tree) (length tree.cliques) a b

-- how many ratios are placed on a's side
abbrev pub message_ratios : GivenTree → Placing → ℕ → ℕ → ℕ
message_ratios tree p a b = sum_of (is_behind tree a b) (length tree.cliques) (ratios_in p)

-- the message from a to b is right: its cells stand for the exact message, in at most three steps for each of its grade
pub record IsRight (plus : ℕ → ℕ → ℕ) (flow : FlowOf) (p : Placing) (a b : ℕ) : Type 0 where
  pub cells : HasCells (message_at flow a b) (separator_between flow.shape a b) (exact_message plus flow.shape.tree p a b)
      (3 * exact_message_grade flow.shape.tree p a b) (exact_message_grade flow.shape.tree p a b) (message_ratios flow.shape.tree p a b) (IsCommon p)

-- the messages into a are right, but for b's
abbrev pub AreRightBut : (ℕ → ℕ → ℕ) → FlowOf → Placing → ℕ → ℕ → Type 0
AreRightBut plus flow p a b =
    (i : ℕ) → linked_but (link_of flow.shape.tree) (length flow.shape.tree.cliques) a b i ≡ true → IsRight plus flow p i a

-- the messages into a are right
abbrev pub AreRightInto : (ℕ → ℕ → ℕ) → FlowOf → Placing → ℕ → Type 0
AreRightInto plus flow p a = (i : ℕ) → linked_to (link_of flow.shape.tree) (length flow.shape.tree.cliques) a i ≡ true → IsRight plus flow p i a

-- one thing more is placed in a clique; each message that leads towards this clique stays right
pub record Places (plus : ℕ → ℕ → ℕ) (old new : FlowOf) (clique : ℕ) (before after : Placing) : Type 0 where
  pub placed : HasPlaced plus new after
  pub right : (a b : ℕ) → are_linked old.shape.tree a b ≡ true → is_behind old.shape.tree a b clique ≡ false
      → IsRight plus old before a b → IsRight plus new after a b

-- the shape, the messages and the count of messages are as they were
pub record KeepsMessages (old new : FlowOf) : Type 0 where
  pub same_shape : new.shape ≡ old.shape
  pub same_upward : new.upward ≡ old.upward
  pub same_downward : new.downward ≡ old.downward
  pub same_count : new.computed ≡ old.computed

-- the shape, the cliques' tables and the number of factors are as they were, and what was placed still is
pub record KeepsTables (plus : ℕ → ℕ → ℕ) (old new : FlowOf) : Type 0 where
  pub same_shape : new.shape ≡ old.shape
  pub same_tables : new.tables ≡ old.tables
  pub same_factors : new.factors ≡ old.factors
  pub placed : (p : Placing) → HasPlaced plus old p → HasPlaced plus new p

-- the cells of all cliques
abbrev pub all_cells : GivenTree → Placing → ℕ
all_cells tree p = sum_of (λ k. true) (length tree.cliques) (clique_cells p.network tree)

-- the grade of a belief that is read in a clique: the factors, the cells of all cliques, 2 for each separator, and the cells of this clique
abbrev pub reading_grade : GivenTree → Placing → ℕ → ℕ
reading_grade tree p k = length p.factors + all_cells tree p + 2 * (length tree.cliques - 1) + clique_cells p.network tree k

-- what is read in a clique encloses the exact belief in the event, with its grade, and nothing was rounded in the small case; nor was it
-- in that of an event that no ratio changes, where the sum without the ratios is small
pub record IsReading {V : Type 0} (encloses : V → ℕ → Type 0) (has_grade : V → ℕ → Type 0) (is_exact : V → Type 0)
    (plus : ℕ → ℕ → ℕ) (tree : GivenTree) (p : Placing) (k : ℕ) (event : List Pair) (value : V) : Type 0 where
  pub enclosed : encloses value (exact_belief plus (meaning_of tree p) event)
  pub grade : has_grade value (reading_grade tree p k)
  pub exact : whole_sum (meaning_of tree p) < number_limit → is_exact value
  pub apart : IsApart (meaning_of tree p) event → whole_sum (without_ratios (meaning_of tree p)) < number_limit → is_exact value

-- ---- what calls ask

-- a factor more may be placed
pub record CanPlace (plus : ℕ → ℕ → ℕ) (flow : FlowOf) (p : Placing) : Type 0 where
  pub has : HasPlaced plus flow p
  pub room : length p.factors < max_factors

-- a message can be made
pub record CanSend (plus : ℕ → ℕ → ℕ) (flow : FlowOf) (a b : ℕ) : Type 0 where
  pub placing : Placing
  pub has : HasPlaced plus flow placing
  pub linked_too : are_linked flow.shape.tree a b ≡ true
  pub right : AreRightBut plus flow placing a b

-- a belief can be read in a clique
pub record CanRead (plus : ℕ → ℕ → ℕ) (flow : FlowOf) (k : ℕ) (event : List Pair) : Type 0 where
  pub placing : Placing
  pub has : HasPlaced plus flow placing
  pub clique_is : IsClique flow.shape.tree k
  pub holds_it : holds_event event (clique_at flow.shape.tree k) ≡ true
  pub right : AreRightInto plus flow placing k

-- a message towards a clique, or away from it, can be made only where something is placed
pub record CanCollect (plus : ℕ → ℕ → ℕ) (flow : FlowOf) (root : ℕ) : Type 0 where
  pub placing : Placing
  pub has : HasPlaced plus flow placing
  pub clique_is : IsClique flow.shape.tree root

-- each message that leads towards a clique is right
abbrev pub AreRightTowards : (ℕ → ℕ → ℕ) → FlowOf → Placing → ℕ → Type 0
AreRightTowards plus flow p root =
    (k : ℕ) → IsClique flow.shape.tree k → k ≢ root → IsRight plus flow p k (next_on_way flow.shape.tree k root)

-- each message is right
abbrev pub AreAllRight : (ℕ → ℕ → ℕ) → FlowOf → Placing → Type 0
AreAllRight plus flow p = (a b : ℕ) → are_linked flow.shape.tree a b ≡ true → IsRight plus flow p a b

pub record CanDistribute (plus : ℕ → ℕ → ℕ) (flow : FlowOf) (root : ℕ) : Type 0 where
  pub placing : Placing
  pub has : HasPlaced plus flow placing
  pub clique_is : IsClique flow.shape.tree root
  pub right : AreRightTowards plus flow placing root

-- how many messages each flow of a tree has one way
abbrev pub separators_of : GivenTree → ℕ
separators_of tree = length tree.cliques - 1

-- the count of messages after some more, which stands at the last number of 64 digits
abbrev pub counted_on : ℕ → ℕ → ℕ
counted_on computed more = min (computed + more) 18446744073709551615
