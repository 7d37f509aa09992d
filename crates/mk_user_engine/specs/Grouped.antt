-- Groups of named variables, and the names of two as one list.
use Rattle.std.specs.Prelude.{◌≡◌, ◌≢◌, ℕ, ◌+◌, ◌*◌, ◌<◌, ◌≤◌, Bool, true, false, ◌||◌, List, []}
use Rattle.std.specs.Prelude.{◌∷◌, ◌⊎◌, All, map, length, slice_index_or, vec_capacity}
use Rattle.mk_net.specs.declared.words.Pair.{Pair}
use Rattle.mk_net.specs.Asked.{TradeRatio}
use Rattle.mk_user_engine.specs.declared.names.Named.{Named}
use Rattle.mk_user_engine.specs.declared.group.Group.{Group}
use Rattle.mk_user_engine.specs.declared.groups.Groups.{Groups}
use Rattle.mk_user_engine.specs.Names.{is_named, AreStrided, IsSized, max_cells, max_names}

-- named variables have their numbers of values, and cells for all their assignments
pub record IsGroup (sizes : List ℕ) (g : Group) : Type 0 where
  pub strided : AreStrided 1 g.names.items g.cells
  pub sized : All (IsSized sizes) g.names.items
  pub few_cells : g.cells ≤ max_cells

-- two groups have names and cells for one
pub record CanJoin (g h : Group) : Type 0 where
  pub few_names : length g.names.items + length h.names.items ≤ max_names
  pub few_cells : g.cells * h.cells ≤ max_cells

-- the same variables behind those of a list that has so many cells
abbrev pub widened : ℕ → List Named → List Named
widened cells [] = []
widened cells (n ∷ ns) = record {
  variable = n.variable;
  values = n.values;
  stride = cells * n.stride;
} ∷ widened cells ns

-- ---- several groups

abbrev pub max_groups : ℕ
max_groups = 128

-- no variable is named in two lists
abbrev pub AreDisjoint : List (List Named) → Type 0
AreDisjoint lists = (x j k : ℕ) → is_named (slice_index_or lists j []) x ≡ true
    → is_named (slice_index_or lists k []) x ≡ true → j ≡ k

-- what the groups name
abbrev pub names_of : List Group → List (List Named)
names_of groups = map (λ (g : Group). g.names.items) groups

-- a group names a variable; none does where there is no such group
abbrev pub names : List Group → ℕ → ℕ → Bool
names groups k x = is_named (slice_index_or (names_of groups) k []) x

-- groups, of which no two name one variable
pub record HasGroups (sizes : List ℕ) (groups : Groups) : Type 0 where
  pub each : All (IsGroup sizes) groups.list.items
  pub apart : AreDisjoint (names_of groups.list.items)
  pub room : max_groups ≤ vec_capacity groups.list
  pub few : length groups.list.items ≤ max_groups

-- the first group names what both did, the second nothing, and each other one what it did
pub record AreJoined (old new : List Group) (first second : ℕ) : Type 0 where
  pub as_many : length new ≡ length old
  pub both : (x : ℕ) → names new first x ≡ (names old first x || names old second x)
  pub nothing : (x : ℕ) → names new second x ≡ false
  pub others : (k x : ℕ) → k ≢ first → k ≢ second → names new k x ≡ names old k x

-- two places of groups
pub record AreTwo (groups : List Group) (j k : ℕ) : Type 0 where
  pub first : j < length groups
  pub second : k < length groups
  pub differ : j ≢ k

-- what one group names one group still does
abbrev pub KeepsTogether : List Group → List Group → Type 0
KeepsTogether old new = (j : ℕ) → (k : ℕ)
    × ((x : ℕ) → names old j x ≡ true → names new k x ≡ true)

-- no group names a variable
abbrev pub IsFree : List Group → ℕ → Type 0
IsFree groups variable = (k : ℕ) → names groups k variable ≡ false

-- a group names a variable more, and the others what they did
pub record IsNamedAt (old new : List Group) (place variable : ℕ) : Type 0 where
  pub named : names new place variable ≡ true
  pub keeps : (k x : ℕ) → names old k x ≡ true → names new k x ≡ true
  pub from : (k x : ℕ) → names new k x ≡ true
      → (names old k x ≡ true) ⊎ ((k ≡ place) × (variable ≡ x))

-- a group names what it did, and what one group named one still does
pub record HasGathered (old new : List Group) (place : ℕ) : Type 0 where
  pub together : KeepsTogether old new
  pub here : (x : ℕ) → names old place x ≡ true → names new place x ≡ true
  pub as_many : length new ≡ length old

-- one group names each variable of a ratio
pub record IsGathered (groups : List Group) (ratio : TradeRatio) : Type 0 where
  pub place : ℕ
  pub variable : names groups place ratio.variable ≡ true
  pub condition : All (λ (p : Pair). names groups place p.variable ≡ true) ratio.condition
