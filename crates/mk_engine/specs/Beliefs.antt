-- What each call of an engine asks of a meaning that the engine stands for, and what a belief says of it.
use Rattle.std.specs.Prelude.{◌≡◌, ℕ, ◌+◌, ◌<◌, List, length}
use Rattle.mk_net.specs.declared.words.Pair.{Pair}
use Rattle.mk_net.specs.Asked.{TradeRatio}
use Rattle.mk_net.specs.Bounds.{number_limit}
use Rattle.mk_net.specs.Network.{Variable}
use Rattle.mk_states.specs.OfNetwork.{IsPairOf, IsRatioOf}
use Rattle.mk_engine.specs.Meaning.{Meaning, exact_belief, whole_sum, max_factors, max_grade, ArePairsOf}

module _ {E : Type 0} (stands_for : E → Meaning → Type 0) where
  -- the engine stands for a meaning of this network, and the variable's rows may be a factor more
  pub record CanWeigh (engine : E) (network : List Variable) (variable : ℕ) : Type 0 where
    pub meaning : Meaning
    pub stands : stands_for engine meaning
    pub of_network : meaning.network ≡ network
    pub in_range : variable < length network
    pub room : length meaning.factors < max_factors

  -- the ratio may be a factor more
  pub record CanMultiply (engine : E) (ratio : TradeRatio) : Type 0 where
    pub meaning : Meaning
    pub stands : stands_for engine meaning
    pub in_range : IsRatioOf meaning.network ratio
    pub room : length meaning.factors < max_factors

  -- the pair is one of the network's
  pub record CanKnow (engine : E) (pair : Pair) : Type 0 where
    pub meaning : Meaning
    pub stands : stands_for engine meaning
    pub in_range : IsPairOf meaning.network pair

  -- the event's pairs are
  pub record CanBelieve (engine : E) (event : List Pair) : Type 0 where
    pub meaning : Meaning
    pub stands : stands_for engine meaning
    pub in_range : ArePairsOf meaning.network event

-- a belief encloses the exact one, with a grade, and nothing was rounded in the small case
pub record IsBelief {V : Type 0} (encloses : V → ℕ → Type 0) (has_grade : V → ℕ → Type 0) (is_exact : V → Type 0)
    (plus : ℕ → ℕ → ℕ) (m : Meaning) (event : List Pair) (belief : V) : Type 0 where
  pub value : encloses belief (exact_belief plus m event)
  pub grade : has_grade belief (length m.factors + max_grade)
  pub exact : whole_sum m < number_limit → is_exact belief
