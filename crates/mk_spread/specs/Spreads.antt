-- A question about every value of a variable at once.
use Rattle.std.specs.Prelude.{ℕ, ◌<◌, List, [], ◌∷◌, ◌++◌, length}
use Rattle.std.specs.List.{AllByRecursion}
use Rattle.mk_net.specs.declared.words.Pair.{Pair}
use Rattle.mk_net.specs.Network.{Variable}
use Rattle.mk_net.specs.Asked.{Asked, TradeRatio}
use Rattle.mk_exact.specs.History.{Entry, Trade}
use Rattle.mk_states.specs.OfNetwork.{IsPairOf}

-- a variable, and the pairs of a condition
pub record SpreadAsked : Type 0 where
  pub variable : ℕ
  pub condition : List Pair

-- the question about one of its values
abbrev pub asked_of : SpreadAsked → ℕ → Asked
asked_of spread value = record { target = record { variable = spread.variable; value = value }; condition = spread.condition }

-- the variable and the condition are the network's
pub record IsSpreadOf (network : List Variable) (spread : SpreadAsked) : Type 0 where
  pub variable : spread.variable < length network
  pub condition : AllByRecursion (IsPairOf network) spread.condition

-- the ratio of a trade of a whole distribution: so many units for each value
abbrev pub spread_ratio : SpreadAsked → List ℕ → TradeRatio
spread_ratio spread Fs = record { variable = spread.variable; condition = spread.condition; factors = Fs }

-- the history after it
abbrev pub spread_traded : List Entry → ℕ → SpreadAsked → List ℕ → List Entry
spread_traded H u spread Fs = H ++ Trade u (spread_ratio spread Fs) ∷ []
