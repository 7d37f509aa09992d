-- Histories that speak of the network's own variables, and of users who joined.
use Rattle.std.specs.Prelude.{ℕ, ◌<◌, ◌≤◌, List, length}
use Rattle.std.specs.List.{AllByRecursion}
use Rattle.mk_net.specs.Network.{Variable}
use Rattle.mk_net.specs.Events.{AreApart}
use Rattle.mk_states.specs.Events.{always}
use Rattle.mk_states.specs.OfNetwork.{IsPairOf, IsRatioOf}
use Rattle.mk_exact.specs.Weight.{possible_states}
use Rattle.mk_exact.specs.History.{Entry, UserTrade, users, trades, resolutions}

pub record IsTradeOf (network : List Variable) (joined : ℕ) (t : UserTrade) : Type 0 where
  pub user : t.user < joined
  pub ratio : IsRatioOf network t.ratio

-- users, pairs and units are in range, no variable is resolved twice, and some state is left
pub record IsProper (network : List Variable) (H : List Entry) : Type 0 where
  pub trades_fit : AllByRecursion (IsTradeOf network (length (users H))) (trades H)
  pub resolutions_fit : AllByRecursion (IsPairOf network) (resolutions H)
  pub resolved_once : AreApart (resolutions H)
  pub some_left : 1 ≤ length (possible_states network H always)
