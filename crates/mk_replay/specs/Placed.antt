-- Histories that engines can be replayed through.
use Rattle.std.specs.Prelude.{◌≡◌, ◌≤◌, List, true, length, is_some}
use Rattle.std.specs.List.{AllByRecursion}
use Rattle.mk_net.specs.Asked.{ratio_pairs}
use Rattle.mk_net.specs.Bounds.{max_market_trades}
use Rattle.mk_net.specs.Network.{Variable}
use Rattle.mk_exact.specs.History.{Entry, UserTrade, trades}
use Rattle.mk_exact.specs.Proper.{IsProper}
use Rattle.mk_tree.specs.Given.{GivenTree, home}

-- a proper history of no more trades than a market takes, the variables of each of which a clique
-- holds together
pub record IsPlaced (network : List Variable) (tree : GivenTree) (H : List Entry) : Type 0 where
  pub proper : IsProper network H
  pub few_trades : length (trades H) ≤ max_market_trades
  pub homes : AllByRecursion (λ (t : UserTrade). is_some (home tree (ratio_pairs t.ratio)) ≡ true)
      (trades H)
