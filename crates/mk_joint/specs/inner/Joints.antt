-- One table over all variables of a network, and the meanings that it stands for.
use Rattle.std.specs.Prelude.{◌≡◌, ℕ, ◌*◌, ◌<◌, ◌≤◌, List, [], ◌∷◌, length, All, count_by, if◌then◌else◌, slice_index}
use Rattle.mk_net.specs.declared.words.Pair.{Pair}
use Rattle.mk_net.specs.Bounds.{max_clique_cells}
use Rattle.mk_net.specs.Network.{Variable, IsNetwork, sizes}
use Rattle.mk_states.specs.States.{product_by}
use Rattle.mk_states.specs.OfNetwork.{IsRatioOf}
use Rattle.mk_sums.specs.Cells.{cells}
use Rattle.mk_sums.specs.Joint.{variables}
use Rattle.mk_sums.specs.There.{holds_there}
use Rattle.mk_scope.specs.Scopes.{ScopeOf, cells_in}
use Rattle.mk_scope.specs.Cells.{values_at}
use Rattle.mk_table.specs.Tables.{TableOf, HasNumbers}
use Rattle.mk_table.specs.Ratios.{HasRatios}
use Rattle.mk_table.specs.Lists.{table_in}
use Rattle.mk_engine.specs.Meaning.{Meaning, Factor, RowsOf, SupportOf, RatioOf, factor_there, is_ratio, max_factors, ArePairsOf}
use Rattle.mk_engine.specs.Apart.{HasCondition}

-- the scope of all variables
abbrev pub whole_scope : List Variable → ScopeOf
whole_scope network = record { variables = variables (sizes network); sizes = sizes network }

-- how many states a network has together
abbrev pub joint_states : List Variable → ℕ
joint_states network = cells (slice_index (sizes network)) (variables (sizes network))

-- the product of all factors where the known pairs hold, and absent elsewhere
abbrev pub joint_there : Meaning → (ℕ → ℕ) → ℕ
joint_there m a = if holds_there m.known a then product_by (λ (f : Factor). factor_there m.network f a) m.factors else 0

-- a plan has one scope, of all variables of a network that has no more states than a clique may have cells
pub record IsPlanFor (plan : List ScopeOf) (network : List Variable) : Type 0 where
  pub scope : plan ≡ whole_scope network ∷ []
  pub legal : IsNetwork network
  pub few_states : joint_states network ≤ max_clique_cells

-- No more factors were multiplied than an engine may hold. A ratio raises the shift by the 40 places of its unit.
pub record IsInRoom (table : TableOf) (count : ℕ) : Type 0 where
  pub few_factors : count ≤ max_factors
  pub small_shift : table.shift ≤ 40 * count

-- the rows of one of the network's variables, or a ratio of its pairs
abbrev pub IsFactorOf : List Variable → Factor → Type 0
IsFactorOf network (RowsOf k) = k < length network
IsFactorOf network (SupportOf k) = k < length network
IsFactorOf network (RatioOf ratio) = IsRatioOf network ratio

-- every ratio has the pair in its condition
abbrev pub IsCommon : Meaning → Pair → Type 0
IsCommon m pair = All (HasCondition pair) m.factors

-- The table has the joint of a meaning, cell by cell, in a step for each factor. A table has the joint of many meanings,
-- some of them with factors that change nothing, but each with as many factors as the engine counts.
pub record IsJoint (table : TableOf) (count : ℕ) (m : Meaning) : Type 0 where
  pub legal : IsNetwork m.network
  pub scope : table.scope ≡ whole_scope m.network
  pub few_cells : cells_in table.scope ≤ max_clique_cells
  pub factors : All (IsFactorOf m.network) m.factors
  pub known : ArePairsOf m.network m.known
  pub counted : length m.factors ≡ count
  pub room : IsInRoom table count
  pub numbers : HasNumbers table (λ c. joint_there m (values_at table.scope c)) (length m.factors)
  pub ratios : HasRatios table (count_by is_ratio m.factors) (IsCommon m)

-- there is one table, and it has the joint
pub record HasJoint (tables : List TableOf) (count : ℕ) (m : Meaning) : Type 0 where
  pub one : length tables ≡ 1
  pub joint : IsJoint (table_in tables 0) count m
