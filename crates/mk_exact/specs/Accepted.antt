-- What each kind of change must meet to be accepted, and histories whose changes all met it.
use Rattle.std.specs.Prelude.{ℕ, ◌+◌, ◌-◌, ◌*◌, ◌^◌, ◌<◌, ◌≤◌, ◌≡◌, ◌⊎◌, false, ⊤, List, [], ◌∷◌}
use Rattle.std.specs.Prelude.{◌++◌, length, sum_by, All, IfSome}
use Rattle.mk_net.specs.Network.{Variable, IsNetwork}
use Rattle.mk_net.specs.Asked.{TradeRatio}
use Rattle.mk_net.specs.Events.{speaks_of}
use Rattle.mk_states.specs.Events.{has, holds, always}
use Rattle.mk_states.specs.Ratios.{unit, ratio_at}
use Rattle.mk_exact.specs.History.{Entry, Join, Deposit, Withdraw, Trade, Resolve, Settle, Add, users, resolutions}
use Rattle.mk_exact.specs.Weight.{weight, total, possible_states}
use Rattle.mk_exact.specs.Factors.{Fraction, factor, factor_with, least_gain}
use Rattle.mk_exact.specs.Prices.{IsSolvent}
use Rattle.mk_exact.specs.Market.{Market, present}
use Rattle.mk_states.specs.OfNetwork.{IsPairOf}
use Rattle.mk_exact.specs.Proper.{IsTradeOf}

-- a factor covers a withdrawal of this many bits
abbrev pub Covers : Fraction → ℕ → Type 0
Covers q bits = 2 ^ bits * q.den ≤ q.num

-- k bits are within the factor, and k + 1 are more than it but for a part in twice near; in the
-- small case, and of a user who holds no trade, more than it
pub record IsMost (small idle : Type 0) (near : ℕ) (q : Fraction) (k : ℕ) : Type 0 where
  pub within : Covers q k
  pub nearly : q.num * (2 * near - 1) < 2 ^ (k + 1) * (2 * near) * q.den
  pub exactly : small ⊎ idle → q.num < 2 ^ (k + 1) * q.den

-- over the possible states where its condition holds, a trade does not raise the weight per unit, and it leaves the user's
-- factor at least one in each
pub record IsSafeTrade (network : List Variable) (H : List Entry) (u : ℕ) (ratio : TradeRatio) : Type 0 where
  pub bounded : sum_by (λ s. weight network H s * ratio_at ratio s) (possible_states network H (holds ratio.condition))
      ≤ total network H (holds ratio.condition) * unit
  pub solvent : All (λ s. IsSolvent (ratio_at ratio s) (factor H u s)) (possible_states network H (holds ratio.condition))

-- a withdrawal stays within the user's least factor, and a trade is safe; every other change is free
abbrev pub IsAcceptable : List Variable → List Entry → Entry → Type 0
IsAcceptable network H (Join name) = ⊤
IsAcceptable network H (Deposit u bits) = ⊤
IsAcceptable network H (Withdraw u bits) = IfSome (least_gain network H u always) (λ g. Covers (factor_with H u g) bits)
IsAcceptable network H (Trade u r) = IsSafeTrade network H u r
IsAcceptable network H (Resolve p) = ⊤
IsAcceptable network H (Settle payments) = ⊤
IsAcceptable network H (Add a) = ⊤

-- a trade and a resolution speak of the network's own variables, a trade of a user who joined, and a resolution of a variable
-- that is not resolved; and with a variable that is added the network is one
abbrev pub IsInRange : List Variable → List Entry → Entry → Type 0
IsInRange network H (Join name) = ⊤
IsInRange network H (Deposit u bits) = ⊤
IsInRange network H (Withdraw u bits) = ⊤
IsInRange network H (Trade u r) = IsTradeOf network (length (users H)) (record { user = u; ratio = r })
IsInRange network H (Resolve p) = IsPairOf network p × (speaks_of (resolutions H) p.variable ≡ false) × (1 ≤ length (possible_states network H (has p)))
IsInRange network H (Settle payments) = ⊤
IsInRange network H (Add a) = IsNetwork (network ++ a.variable ∷ [])

-- each change of a list is acceptable and in range after those before it
abbrev pub AreAccepted : Market → List Entry → List Entry → Type 0
AreAccepted market H [] = ⊤
AreAccepted market H (e ∷ rest) =
    IsAcceptable (present market H).network H e × IsInRange (present market H).network H e × AreAccepted market (H ++ e ∷ []) rest
