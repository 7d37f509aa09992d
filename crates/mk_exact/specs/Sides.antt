-- The two sides of a question, and the pairs of units that an edit of it may take.
use Rattle.std.specs.Prelude.{◌≡◌, ℕ, ◌-◌, ◌≤◌, List, [], ◌∷◌, ◌++◌, Bool, IsSomeAnd, IfSome, Option, slice_index}
use Rattle.mk_net.specs.Bounds.{million}
use Rattle.mk_net.specs.Network.{Variable, sizes}
use Rattle.mk_net.specs.Asked.{Asked, TradeRatio, question_ratio}
use Rattle.mk_states.specs.Events.{with_target, without_target}
use Rattle.mk_exact.specs.History.{Entry, Trade}
use Rattle.mk_exact.specs.Weight.{IsSmall}
use Rattle.mk_exact.specs.Factors.{factor_with, least_gain}
use Rattle.mk_exact.specs.Prices.{price_where, IsFair, IsSolvent}
use Rattle.mk_exact.specs.Limits.{Side, IsFairAndSolvent, AreRight}

-- the exact price and a user's least factor over the possible states that pass a test
abbrev pub IsSide : List Variable → List Entry → ℕ → Asked → (List ℕ → Bool) → Side → Type 0
IsSide network H u asked test side = IsSomeAnd (least_gain network H u test)
    (λ g. side ≡ record { price = price_where network H asked.condition test; least = factor_with H u g })

-- the sides of the target and of the other values
pub record AreSides (network : List Variable) (H : List Entry) (u : ℕ) (asked : Asked) (hit miss : Side) : Type 0 where
  pub hit_side : IsSide network H u asked (with_target asked) hit
  pub miss_side : IsSide network H u asked (without_target asked) miss

-- the limits are right for the two sides
pub record AreRightLimits (network : List Variable) (H : List Entry) (u : ℕ) (asked : Asked) (limits : Option (ℕ × ℕ)) : Type 0 where
  pub hit : Side
  pub miss : Side
  pub sides : AreSides network H u asked hit miss
  pub right : AreRight (IsSmall network H) hit miss limits

-- the units are fair and solvent for X on the one side, and for the rest of a million on the other
pub record IsFairPair (network : List Variable) (H : List Entry) (u : ℕ) (asked : Asked) (X F_t F_n : ℕ) : Type 0 where
  pub hit : Side
  pub miss : Side
  pub sides : AreSides network H u asked hit miss
  pub hit_units : IsFairAndSolvent (IsSmall network H) hit X F_t
  pub miss_units : IsFairAndSolvent (IsSmall network H) miss (million - X) F_n

-- the ratio of a trade on one question: so many units for its target, and so many for each other value of its variable
abbrev pub ratio_in : List Variable → Asked → ℕ → ℕ → TradeRatio
ratio_in network asked F_t F_n = question_ratio asked (slice_index (sizes network) asked.target.variable) F_t F_n

-- the history after it
abbrev pub traded : List Variable → List Entry → ℕ → Asked → ℕ → ℕ → List Entry
traded network H u asked F_t F_n = H ++ Trade u (ratio_in network asked F_t F_n) ∷ []

-- the units are fair for X on the one side, and for the rest of a million on the other
pub record AreFair (network : List Variable) (H : List Entry) (asked : Asked) (X F_t F_n : ℕ) : Type 0 where
  pub share : X ≤ million
  pub hit : IsFair (IsSmall network H) F_t X (price_where network H asked.condition (with_target asked))
  pub miss : IsFair (IsSmall network H) F_n (million - X) (price_where network H asked.condition (without_target asked))

-- the units leave the user's least factor on each side at least one
pub record AreSolvent (network : List Variable) (H : List Entry) (u : ℕ) (asked : Asked) (F_t F_n : ℕ) : Type 0 where
  pub hit : IfSome (least_gain network H u (with_target asked)) (λ g. IsSolvent F_t (factor_with H u g))
  pub miss : IfSome (least_gain network H u (without_target asked)) (λ g. IsSolvent F_n (factor_with H u g))
