-- The ratios whose variables are named, and what products of them alone need.
use Rattle.std.specs.Prelude.{◌≡◌, ℕ, ◌<◌, true, List, All, filter, length, slice_index}
use Rattle.std.specs.Prelude.{slice_index_or}
use Rattle.mk_user_engine.specs.declared.names.Named.{Named}
use Rattle.mk_user_engine.specs.declared.narrow.PlacedRatio.{PlacedRatio}
use Rattle.mk_user_engine.specs.Names.{is_named}
use Rattle.mk_user_engine.specs.Narrow.{ratio_in, IsListed}

-- the ratios whose variables are named
abbrev pub named_by : List Named → List PlacedRatio → List PlacedRatio
named_by names trades =
    filter (λ (t : PlacedRatio). is_named names (ratio_in t).variable) trades

-- each of these has a number of units for each value that a cell gives its variable
abbrev pub AreListedBy : List Named → List PlacedRatio → Type 0
AreListedBy names trades =
    All (λ (t : PlacedRatio). is_named names (ratio_in t).variable ≡ true → IsListed names t) trades

-- where trades that were picked of a list stand in it, in their order
pub record ArePlaces (picked trades : List PlacedRatio) (places : List ℕ) : Type 0 where
  pub one_each : length places ≡ length picked
  pub within : (k : ℕ) → k < length places → slice_index places k < length trades
  pub each : (k : ℕ) (d : PlacedRatio) → k < length places
      → slice_index_or picked k d ≡ slice_index_or trades (slice_index places k) d
