-- Questions and the ratios of trades, as numbers.
use Rattle.std.specs.Prelude.{ℕ, ◌<◌, ◌≤◌, List, [], ◌∷◌, ◌++◌, map, if◌then◌else◌, ◌==◌}
use Rattle.std.specs.List.{range_with_len}
use Rattle.mk_net.specs.declared.words.Pair.{Pair}
use Rattle.mk_net.specs.Bounds.{number_limit}

-- a target pair, and the pairs of a condition
pub record Asked : Type 0 where
  pub target : Pair
  pub condition : List Pair

-- a number of units: 1 to 2^63 - 1
pub record IsUnits (n : ℕ) : Type 0 where
  pub positive : 1 ≤ n
  pub fits : n < number_limit

-- a variable, a condition, and by how many units a trade multiplies the weight of a state with each of the variable's values
pub record TradeRatio : Type 0 where
  pub variable : ℕ
  pub condition : List Pair
  pub factors : List ℕ

-- the pairs of the condition, and the variable with its first value
abbrev pub ratio_pairs : TradeRatio → List Pair
ratio_pairs ratio = ratio.condition ++ record { variable = ratio.variable; value = 0 } ∷ []

-- one number at the target's place, and another at each other
abbrev pub factors_of : ℕ → ℕ → ℕ → ℕ → List ℕ
factors_of target values hit miss = map (λ value. if value == target then hit else miss) (range_with_len 0 values)

-- the ratio of a question whose variable has so many values
abbrev pub question_ratio : Asked → ℕ → ℕ → ℕ → TradeRatio
question_ratio asked values hit miss =
    record { variable = asked.target.variable; condition = asked.condition; factors = factors_of asked.target.value values hit miss }
