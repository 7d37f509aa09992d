-- A list of ratios and one of known pairs, and the product in each cell of named variables.
use Rattle.std.specs.Prelude.{◌≡◌, ℕ, ◌*◌, ◌<◌, Bool, true, false, if◌then◌else◌}
use Rattle.std.specs.Prelude.{List, [], ◌∷◌, All, map, length, slice_index, slice_index_or, Some}
use Rattle.std.specs.List.{list_any, Contains}
use Rattle.mk_net.specs.declared.words.Pair.{Pair}
use Rattle.mk_net.specs.Asked.{TradeRatio}
use Rattle.mk_net.specs.Trades.{trade_ratio}
use Rattle.mk_net.specs.Network.{Variable}
use Rattle.mk_states.specs.OfNetwork.{IsPairOf}
use Rattle.mk_states.specs.States.{product_by}
use Rattle.mk_sums.specs.There.{holds_there, ratio_there}
use Rattle.mk_cell.specs.Cell.{StandsAt, IsOwnAt}
use Rattle.mk_cell.specs.Least.{least}
use Rattle.mk_cell.specs.Passes.{plus_below}
use Rattle.mk_tree.specs.Given.{GivenTree, home}
use Rattle.mk_engine.specs.Meaning.{Factor, RatioOf}
use Rattle.mk_user_engine.specs.declared.names.Named.{Named}
use Rattle.mk_user_engine.specs.declared.narrow.PlacedRatio.{PlacedRatio}
use Rattle.mk_user_engine.specs.Names.{value_in}

-- trades and known pairs of the narrow form
abbrev pub max_trades : ℕ
max_trades = 128

abbrev pub max_known : ℕ
max_known = 256

abbrev pub ratio_in : PlacedRatio → TradeRatio
ratio_in placed = trade_ratio placed.ratio

-- the ratios as factors
abbrev pub factors_of : List PlacedRatio → List Factor
factors_of trades = map (λ (t : PlacedRatio). RatioOf (ratio_in t)) trades

-- ---- the product of a cell

-- the product of the ratios' units in an assignment
abbrev pub product_of : List PlacedRatio → (ℕ → ℕ) → ℕ
product_of trades a = product_by (λ (t : PlacedRatio). ratio_there (ratio_in t) a) trades

-- the condition of a ratio holds in an assignment
abbrev pub is_met : List PlacedRatio → (ℕ → ℕ) → Bool
is_met trades a = list_any (λ (t : PlacedRatio). holds_there (ratio_in t).condition a) trades

-- the ratio has a number of units for each value that a cell gives its variable
pub record IsListed (names : List Named) (placed : PlacedRatio) : Type 0 where
  pub value : (c : ℕ)
      → value_in names c (ratio_in placed).variable < length (ratio_in placed).factors

-- A cell stands for the product of all ratios, in a step for each; where it meets no condition,
-- also for one of its own.
pub record HasProduct (names : List Named) (trades : List PlacedRatio) (c digits exponent : ℕ)
    (met : Bool) : Type 0 where
  pub stands : StandsAt (40 * length trades) digits exponent (product_of trades (value_in names c))
      (length trades)
  pub met_is : met ≡ is_met trades (value_in names c)
  pub own : met ≡ false
      → IsOwnAt (40 * length trades) digits exponent (product_of trades (value_in names c))
      (length trades)

-- what is asked for, or absent
abbrev pub number_in : List Named → List PlacedRatio → List Bool → ℕ → ℕ
number_in names trades asked c =
    if slice_index_or asked c false then product_of trades (value_in names c) else 0

-- Of the first cells, so many, each that is asked for has its product, and each other one is
-- absent.
pub record HaveProducts (names : List Named) (trades : List PlacedRatio) (asked : List Bool)
    (digits exponents : List ℕ) (met : Bool) (count : ℕ) : Type 0 where
  pub as_many_digits : length digits ≡ length asked
  pub as_many_exponents : length exponents ≡ length asked
  pub stand : (c : ℕ) → c < count
      → StandsAt (40 * length trades) (slice_index digits c) (slice_index exponents c)
      (number_in names trades asked c) (length trades)
  pub own : met ≡ false → (c : ℕ) → c < count
      → IsOwnAt (40 * length trades) (slice_index digits c) (slice_index exponents c)
      (number_in names trades asked c) (length trades)
  pub met_is : met ≡ true
      → (c : ℕ) × (c < count) × (slice_index_or asked c false ≡ true)
      × (is_met trades (value_in names c) ≡ true)

-- ---- known pairs

-- no two pairs give one variable two values
abbrev pub Agree : List Pair → Type 0
Agree pairs = (p q : Pair) → Contains pairs p → Contains pairs q → p.variable ≡ q.variable
    → p.value ≡ q.value

-- known pairs in their homes
pub record ArePlacedPairs (network : List Variable) (tree : GivenTree) (pairs : List Pair)
    (homes : List ℕ) : Type 0 where
  pub of_network : All (IsPairOf network) pairs
  pub one_home_each : length homes ≡ length pairs
  pub home_is : (k : ℕ) (d : Pair) → k < length pairs
      → home tree (slice_index_or pairs k d ∷ []) ≡ Some (slice_index homes k)

-- A cell stands for the least product of what is asked for; where no cell of that meets a
-- condition, also for one of its own.
pub record HasLeast (names : List Named) (trades : List PlacedRatio) (asked : List Bool)
    (digits exponent : ℕ) (met : Bool) : Type 0 where
  pub stands : StandsAt (40 * length trades) digits exponent (plus_below least (length asked)
      (number_in names trades asked)) (length trades)
  pub own : met ≡ false
      → IsOwnAt (40 * length trades) digits exponent (plus_below least (length asked)
      (number_in names trades asked)) (length trades)
  pub met_is : met ≡ true
      → (c : ℕ) × (c < length asked) × (slice_index_or asked c false ≡ true)
      × (is_met trades (value_in names c) ≡ true)
