-- All tables of an engine in one piece: where the cells of each stand, and two arrays.
use Rattle.std.specs.Prelude.{◌≡◌, ◌≢◌, ℕ, ◌+◌, ◌<◌, ◌≤◌, ◌⊎◌, Bool, true, false, List, [], ◌∷◌, map, length, replicate, slice_index_or, slice_set, take, drop, Option, None, vec_capacity}
use Rattle.mk_net.specs.declared.words.Pair.{Pair}
use Rattle.mk_net.specs.Bounds.{max_clique_cells}
use Rattle.mk_states.specs.States.{numbers_below}
use Rattle.mk_table.specs.declared.store.Place.{Place}
use Rattle.mk_table.specs.declared.store.Place.TheVariants.{Nowhere, Blank, Written}
use Rattle.mk_table.specs.declared.store.Head.{Head}
use Rattle.mk_table.specs.declared.store.Store.{Store}
use Rattle.mk_table.specs.declared.store.Spare.{Spare}
use Rattle.mk_scope.specs.Scopes.{ScopeOf, cells_in}
use Rattle.mk_table.specs.Tables.{TableOf}
use Rattle.mk_table.specs.Lists.{no_scope, table_in}
use Rattle.mk_passes.specs.Blank.{one_digits, one_exponent}
use Rattle.mk_table.specs.inner.Touched.{HasTouched}

-- a table of which nothing was written yet
abbrev pub no_head : Head
no_head = record { place = Nowhere; shift = 0; touched = None }

-- the head of table number k; while there are no heads, no table was written
abbrev pub head_in : List Head → ℕ → Head
head_in heads k = slice_index_or heads k no_head

abbrev pub scope_in : List ScopeOf → ℕ → ScopeOf
scope_in scopes k = slice_index_or scopes k no_scope

-- the cells of a table, of an array that has them, or ones
abbrev pub cells_from : Place → ℕ → ℕ → List ℕ → List ℕ
cells_from Nowhere one count values = replicate count one
cells_from (Blank first) one count values = replicate count one
cells_from (Written first) one count values = take count (drop first values)

-- the table of a head over a scope
abbrev pub table_of : List ℕ → List ℕ → ScopeOf → Head → TableOf
table_of digits exponents scope head = record {
  scope = scope;
  shift = head.shift;
  digits = cells_from head.place one_digits (cells_in scope) digits;
  exponents = cells_from head.place one_exponent (cells_in scope) exponents;
  touched = head.touched;
}

-- all tables
unfoldable pub tables_of : List ScopeOf → List Head → List ℕ → List ℕ → List TableOf
tables_of scopes heads digits exponents = map (λ k. table_of digits exponents (scope_in scopes k) (head_in heads k)) (numbers_below (length scopes))

-- a table has a place for its cells, from a first one on
abbrev pub StandsFrom : Place → ℕ → Type 0
StandsFrom Nowhere first = ⊥
StandsFrom (Blank here) first = here ≡ first
StandsFrom (Written here) first = here ≡ first

-- so many places from a first on and others have none in common
abbrev pub LieApart : ℕ → ℕ → ℕ → ℕ → Type 0
LieApart first count other more = (first + count ≤ other) ⊎ (other + more ≤ first)

-- the cells that a table has yet to find a place for
abbrev pub missing : Place → ℕ → ℕ
missing Nowhere count = count
missing (Blank first) count = 0
missing (Written first) count = 0

-- those of all tables
unfoldable pub all_missing : List ScopeOf → List Head → ℕ
all_missing [] heads = 0
all_missing (s ∷ scopes) [] = cells_in s + all_missing scopes []
all_missing (s ∷ scopes) (h ∷ heads) = missing h.place (cells_in s) + all_missing scopes heads

-- scopes as they are kept, with the number of all their cells and the most cells of one
pub record AreScopes (scopes : List ScopeOf) (cells most : ℕ) : Type 0 where
  pub few : length scopes ≤ 4096
  pub all : all_missing scopes [] ≡ cells
  pub each : (k : ℕ) → k < length scopes → cells_in (scope_in scopes k) ≤ most
  pub small : most ≤ max_clique_cells

-- There is a head for each table, or none. Both arrays are of one length, and have room for all cells that have no place
-- yet. The cells of each table lie within them, apart from those of the others, and its scope has the variables of the event
-- that ratios may have touched.
pub record IsStore (scopes : List ScopeOf) (heads : List Head) (digits exponents : List ℕ) (heads_room digits_room exponents_room : ℕ) : Type 0 where
  pub either : (length heads ≡ 0) ⊎ (length heads ≡ length scopes)
  pub heads_fit : length scopes ≤ heads_room
  pub same_length : length exponents ≡ length digits
  pub digits_fit : length digits + all_missing scopes heads ≤ digits_room
  pub exponents_fit : length digits + all_missing scopes heads ≤ exponents_room
  pub placed : (k first : ℕ) → k < length scopes → StandsFrom (head_in heads k).place first → first + cells_in (scope_in scopes k) ≤ length digits
  pub apart : (j k first other : ℕ) → j < length scopes → k < length scopes → j ≢ k → StandsFrom (head_in heads j).place first → StandsFrom (head_in heads k).place other
      → LieApart first (cells_in (scope_in scopes j)) other (cells_in (scope_in scopes k))
  pub there : (k : ℕ) → k < length scopes → HasTouched (scope_in scopes k) (head_in heads k).touched

abbrev pub IsStoreOf : List ScopeOf → Store → Type 0
IsStoreOf scopes s = IsStore scopes s.heads.items s.digits.items s.exponents.items (vec_capacity s.heads) (vec_capacity s.digits) (vec_capacity s.exponents)

abbrev pub store_tables : List ScopeOf → Store → List TableOf
store_tables scopes s = tables_of scopes s.heads.items s.digits.items s.exponents.items

abbrev pub is_written : Place → Bool
is_written Nowhere = false
is_written (Blank first) = false
is_written (Written first) = true

-- a table with other cells
abbrev pub with_cells : TableOf → List ℕ → List ℕ → TableOf
with_cells t digits exponents = record t { digits = digits; exponents = exponents }

-- a table with another shift and another event of touched cells
abbrev pub with_ratios : TableOf → ℕ → Option (List Pair) → TableOf
with_ratios t shift touched = record t { shift = shift; touched = touched }

-- the cells of table number k are written from a first place on
abbrev pub IsWrittenFrom : List Head → ℕ → ℕ → Type 0
IsWrittenFrom heads k first = (head_in heads k).place ≡ Written first

-- all tables, with two spare arrays that have room for the cells of each
pub record AreTables (scopes : List ScopeOf) (store : Store) (spare : Spare) : Type 0 where
  pub store_is : IsStoreOf scopes store
  pub digits_fit : (k : ℕ) → k < length scopes → cells_in (scope_in scopes k) ≤ vec_capacity spare.digits
  pub exponents_fit : (k : ℕ) → k < length scopes → cells_in (scope_in scopes k) ≤ vec_capacity spare.exponents

abbrev pub IsBlankFrom : List Head → ℕ → ℕ → Type 0
IsBlankFrom heads k first = (head_in heads k).place ≡ Blank first

abbrev pub IsNowhere : List Head → ℕ → Type 0
IsNowhere heads k = (head_in heads k).place ≡ Nowhere

-- a store of these scopes, with a head for each
pub record IsOpen (scopes : List ScopeOf) (s : Store) : Type 0 where
  pub store : IsStoreOf scopes s
  pub heads : length s.heads.items ≡ length scopes

abbrev pub digits_in : List ScopeOf → Store → ℕ → List ℕ
digits_in scopes s k = (table_in (store_tables scopes s) k).digits

abbrev pub exponents_in : List ScopeOf → Store → ℕ → List ℕ
exponents_in scopes s k = (table_in (store_tables scopes s) k).exponents

-- its tables are as they were
pub record IsSame (scopes : List ScopeOf) (old new : Store) : Type 0 where
  pub opened : IsOpen scopes new
  pub tables : store_tables scopes new ≡ store_tables scopes old

-- one table has other cells
pub record HasCells (scopes : List ScopeOf) (old new : Store) (k : ℕ) (digits exponents : List ℕ) : Type 0 where
  pub opened : IsOpen scopes new
  pub tables : store_tables scopes new ≡ slice_set (store_tables scopes old) k (with_cells (table_in (store_tables scopes old) k) digits exponents)

-- one table has another shift, and the event that its head has
pub record HasRatiosOf (scopes : List ScopeOf) (old new : Store) (k shift : ℕ) : Type 0 where
  pub store : IsStoreOf scopes new
  pub tables : store_tables scopes new ≡ slice_set (store_tables scopes old) k (with_ratios (table_in (store_tables scopes old) k) shift (head_in new.heads.items k).touched)
