-- A board: all tables of a flow in one list. Seen as a board it has five: the tables of the
-- cliques, those over their cores, the
-- products there, and the messages of the cliques from 2 on to their links, and of the links to
-- them.
use Rattle.std.specs.Prelude.{◌≡◌, ◌≢◌, ℕ, ◌+◌, ◌-◌, ◌*◌, ◌<◌, ◌≤◌, List, All, length, take, drop, nat_lt}
use Rattle.std.specs.Prelude.{Bool, Option, if◌then◌else◌, slice_index_or, slice_set}
use Rattle.mk_net.specs.Asked.{TradeRatio, ratio_pairs}
use Rattle.mk_net.specs.Named.{variable_at}
use Rattle.mk_net.specs.Network.{Variable}
use Rattle.mk_scope.specs.Scopes.{PlacesOf, HasEvent, HasOneEach, HasSized, cells_in}
use Rattle.mk_table.specs.Tables.{TableOf, HasRoom}
use Rattle.mk_tree.specs.Given.{max_tree_cliques}
use Rattle.mk_plan.specs.Shapes.{ShapeOf, IsClique, clique_scope, core_scope}
use Rattle.mk_propagate.specs.Flows.{no_table}
use Rattle.mk_propagate.specs.inner.Gathered.{message_in, IsGathering}

pub record BoardOf : Type 0 where
  pub tables : List TableOf
  pub cores : List TableOf
  pub products : List TableOf
  pub upward : List TableOf
  pub downward : List TableOf

-- so many tables of a list, from a number on
abbrev pub part : ℕ → ℕ → List TableOf → List TableOf
part first count ts = take count (drop first ts)

-- the board of a number of cliques
abbrev pub board_of : ℕ → List TableOf → BoardOf
board_of cliques ts = record {
  tables = part 0 cliques ts;
  cores = part cliques cliques ts;
  products = part (2 * cliques) cliques ts;
  upward = part (3 * cliques) (cliques - 1) ts;
  downward = part (4 * cliques - 1) (cliques - 1) ts;
}

-- a list of tables is that of a board
pub record IsBoard (cliques : ℕ) (ts : List TableOf) : Type 0 where
  pub some : 1 ≤ cliques
  pub few : cliques ≤ max_tree_cliques
  pub long : length ts + 2 ≡ 5 * cliques

-- ---- where the tables stand in the list

abbrev pub core_place : ℕ → ℕ → ℕ
core_place cliques k = cliques + (k - 1)

abbrev pub product_place : ℕ → ℕ → ℕ
product_place cliques k = 2 * cliques + (k - 1)

-- that of the message from a to b
abbrev pub message_place : ℕ → ℕ → ℕ → ℕ
message_place cliques a b =
    if nat_lt b a then 3 * cliques + (a - 2) else 4 * cliques - 1 + (b - 2)

-- ---- one table of a board

abbrev pub table_of : BoardOf → ℕ → TableOf
table_of board k = slice_index_or board.tables (k - 1) no_table

abbrev pub core_of : BoardOf → ℕ → TableOf
core_of board k = slice_index_or board.cores (k - 1) no_table

abbrev pub product_of : BoardOf → ℕ → TableOf
product_of board k = slice_index_or board.products (k - 1) no_table

-- the message from a to b
abbrev pub message_of : BoardOf → ℕ → ℕ → TableOf
message_of board a b = message_in board.upward board.downward a b

-- where the cells of one table lie in those of another
abbrev pub places_of : TableOf → TableOf → PlacesOf
places_of whole part = record { whole = whole.scope; part = part.scope }

-- there is room to sum any of a table's cells
abbrev pub CanSum : TableOf → Type 0
CanSum t = HasRoom t (2 * cells_in t.scope)

-- a clique of the board
pub record HasClique (board : BoardOf) (k : ℕ) : Type 0 where
  pub first : 1 ≤ k
  pub last : k ≤ length board.tables

-- two cliques of the board
pub record HasBoth (board : BoardOf) (a b : ℕ) : Type 0 where
  pub one : HasClique board a
  pub other : HasClique board b
  pub apart : a ≢ b

-- a board of the cliques of a shape
abbrev pub IsOver : ShapeOf → BoardOf → Type 0
IsOver shape board = length board.tables ≡ length shape.tree.cliques

-- what is placed in a clique of it can be summed over its core
pub record CanSumCore (shape : ShapeOf) (board : BoardOf) (k : ℕ) : Type 0 where
  pub clique : IsClique shape.tree k
  pub over : IsOver shape board
  pub of_core : (core_of board k).scope ≡ core_scope shape k
  pub of_table : (table_of board k).scope ≡ clique_scope shape k
  pub room : CanSum (table_of board k)

-- ---- a board with one table put anew

abbrev pub with_table : BoardOf → ℕ → TableOf → BoardOf
with_table board k t = record board { tables = slice_set board.tables (k - 1) t }

abbrev pub with_core : BoardOf → ℕ → TableOf → BoardOf
with_core board k t = record board { cores = slice_set board.cores (k - 1) t }

abbrev pub with_product : BoardOf → ℕ → TableOf → BoardOf
with_product board k t = record board { products = slice_set board.products (k - 1) t }

abbrev pub with_upward : BoardOf → ℕ → TableOf → BoardOf
with_upward board k t = record board { upward = slice_set board.upward (k - 2) t }

abbrev pub with_downward : BoardOf → ℕ → TableOf → BoardOf
with_downward board k t = record board { downward = slice_set board.downward (k - 2) t }

-- clique k's product alone is another, and has the messages of the first of its neighbours, once
-- one was taken
pub record IsGatheringIn (plus : ℕ → ℕ → ℕ) (shape : ShapeOf) (before now : BoardOf) (k : ℕ)
    (receiver : Option ℕ)
    (passed : ℕ) (first : Bool) : Type 0 where
  pub only : now ≡ with_product before k (product_of now k)
  pub gathering : IsGathering plus shape before.upward before.downward k receiver passed first
      (product_of now k)

-- with another message from a to b
abbrev pub with_message : BoardOf → ℕ → ℕ → TableOf → BoardOf
with_message board a b t = if nat_lt b a then with_upward board a t else with_downward board b t

-- ---- one of a board's tables

pub data Slot : Type 0 where
  Table : ℕ → Slot
  Core : ℕ → Slot
  Product : ℕ → Slot
  Message : ℕ → ℕ → Slot

-- where it stands in the list
abbrev pub place_of : ℕ → Slot → ℕ
place_of cliques (Table k) = k - 1
place_of cliques (Core k) = core_place cliques k
place_of cliques (Product k) = product_place cliques k
place_of cliques (Message a b) = message_place cliques a b

abbrev pub HasSlot : BoardOf → Slot → Type 0
HasSlot board (Table k) = HasClique board k
HasSlot board (Core k) = HasClique board k
HasSlot board (Product k) = HasClique board k
HasSlot board (Message a b) = HasBoth board a b

abbrev pub slot_of : BoardOf → Slot → TableOf
slot_of board (Table k) = table_of board k
slot_of board (Core k) = core_of board k
slot_of board (Product k) = product_of board k
slot_of board (Message a b) = message_of board a b

abbrev pub with_slot : BoardOf → Slot → TableOf → BoardOf
with_slot board (Table k) t = with_table board k t
with_slot board (Core k) t = with_core board k t
with_slot board (Product k) t = with_product board k t
with_slot board (Message a b) t = with_message board a b t

-- it alone is put anew, and this is so of what it was and what it is
pub record IsPut (P : TableOf → TableOf → Type 0) (slot : Slot) (old new : BoardOf) : Type 0 where
  pub only : new ≡ with_slot old slot (slot_of new slot)
  pub made : P (slot_of old slot) (slot_of new slot)

-- a table has room for a factor, and the variables of its rows
pub record HasFamily (network : List Variable) (variable : ℕ) (t : TableOf) : Type 0 where
  pub within : variable < length network
  pub family : HasSized network t.scope variable
  pub parents : All (HasSized network t.scope) (variable_at network variable).parents
  pub room : HasRoom t 1

-- one has room for a ratio, and its variables
pub record HasRatio (ratio : TradeRatio) (t : TableOf) : Type 0 where
  pub event : HasEvent t.scope (ratio_pairs ratio)
  pub one_each : HasOneEach t.scope ratio
  pub room : HasRoom t 1
