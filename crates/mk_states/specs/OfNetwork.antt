-- Pairs, questions and ratios that speak of a network's own variables and values.
use Rattle.std.specs.Prelude.{◌≡◌, ◌<◌, ◌≤◌, List, length, slice_index}
use Rattle.std.specs.List.{AllByRecursion}
use Rattle.mk_net.specs.declared.words.Pair.{Pair}
use Rattle.mk_net.specs.Network.{Variable, sizes}
use Rattle.mk_net.specs.Asked.{Asked, TradeRatio}

pub record IsPairOf (network : List Variable) (p : Pair) : Type 0 where
  pub variable : p.variable < length network
  pub value : p.value < slice_index (sizes network) p.variable

pub record IsQuestionOf (network : List Variable) (asked : Asked) : Type 0 where
  pub target : IsPairOf network asked.target
  pub condition : AllByRecursion (IsPairOf network) asked.condition

-- a ratio speaks of the network's own pairs, and has a positive number of units for each value of its variable
pub record IsRatioOf (network : List Variable) (ratio : TradeRatio) : Type 0 where
  pub variable : ratio.variable < length network
  pub condition : AllByRecursion (IsPairOf network) ratio.condition
  pub one_each : length ratio.factors ≡ slice_index (sizes network) ratio.variable
  pub positive : AllByRecursion (λ units. 1 ≤ units) ratio.factors
