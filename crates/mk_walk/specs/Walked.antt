-- What the walk is given, as the exact market sees it, and numbers that stop at the greatest u128.
use Rattle.std.specs.Prelude.{◌≡◌, ℕ, ◌-◌, ◌^◌, ◌*◌, ◌==◌, min, List, map, filter, ◌&&◌, if◌then◌else◌, Option, Some, None}
use Rattle.mk_net.specs.declared.words.Pair.{Pair}
use Rattle.mk_net.specs.Asked.{TradeRatio}
use Rattle.mk_net.specs.Trades.{trade_ratio}
use Rattle.mk_net.specs.Network.{Variable}
use Rattle.mk_states.specs.States.{product_by}
use Rattle.mk_states.specs.InitialWeight.{initial_weight}
use Rattle.mk_states.specs.Events.{holds}
use Rattle.mk_states.specs.Ratios.{ratio_at}
use Rattle.mk_exact.specs.History.{Entry, UserTrade, trades, resolutions}
use Rattle.mk_walk.specs.declared.weight.WalkTrade.{WalkTrade}

abbrev pub ratio_of : WalkTrade → TradeRatio
ratio_of t = trade_ratio t.ratio

abbrev pub user_trade : WalkTrade → UserTrade
user_trade t = record { user = t.user; ratio = ratio_of t }

-- a history has these trades and these resolutions
pub record IsHistoryOf (H : List Entry) (ts : List WalkTrade) (known : List Pair) : Type 0 where
  pub trades_are : trades H ≡ map user_trade ts
  pub resolutions_are : resolutions H ≡ known

-- a number, or the greatest u128 where it is more
abbrev pub capped : ℕ → ℕ
capped n = min n (2 ^ 128 - 1)

-- the weight of a state after these trades, and a user's gain in it
abbrev pub walked_weight : List Variable → List WalkTrade → List ℕ → ℕ
walked_weight network ts s = initial_weight network s * product_by (λ t. ratio_at (ratio_of t) s) ts

abbrev pub walked_gain : List WalkTrade → ℕ → List ℕ → ℕ
walked_gain ts u s = product_by (λ t. ratio_at (ratio_of t) s) (filter (λ t. t.user == u) ts)

-- the weight of a state that has the known pairs and the event, and 0 for another
abbrev pub counted_weight : List Variable → List WalkTrade → List Pair → List Pair → List ℕ → ℕ
counted_weight network ts known event s = if holds known s && holds event s then walked_weight network ts s else 0

-- the user's gain in a state that has the known pairs and the event, and none in another
abbrev pub counted_gain : List WalkTrade → ℕ → List Pair → List Pair → List ℕ → Option ℕ
counted_gain ts u known event s = if holds known s && holds event s then Some (walked_gain ts u s) else None
