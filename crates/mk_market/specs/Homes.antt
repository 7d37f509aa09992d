-- A safe history has homes in its market's tree.
use Rattle.std.specs.Prelude.{◌≡◌, List, [], ◌∷◌, true, is_some}
use Rattle.std.specs.List.{AllByRecursion}
use Rattle.mk_net.specs.declared.words.Pair.{Pair}
use Rattle.mk_net.specs.Asked.{ratio_pairs}
use Rattle.mk_exact.specs.History.{Entry, UserTrade, trades, resolutions}
use Rattle.mk_tree.specs.Given.{GivenTree, home}
use Rattle.mk_tree.specs.Checked.{IsTreeOf}
use Rattle.mk_file.specs.declared.market_file.MarketFile.{MarketFile}
use Rattle.mk_file.specs.MarketOf.{market_of}
use Rattle.mk_restore.specs.Laws.{IsSafe}

-- a clique holds the variables of each trade together, and the variable of each resolved pair
pub record HaveHomes (tree : GivenTree) (H : List Entry) : Type 0 where
  pub traded : AllByRecursion (λ (t : UserTrade). is_some (home tree (ratio_pairs t.ratio)) ≡ true)
      (trades H)
  pub resolved : AllByRecursion (λ (p : Pair). is_some (home tree (p ∷ [])) ≡ true) (resolutions H)

-- so it is in the tree of a file whose market the history is safe in
abbrev pub SafeHasHomes : Type 0
SafeHasHomes = (file : MarketFile) (H : List Entry) → IsTreeOf file.net file.tree
    → IsSafe (market_of file) H → HaveHomes file.tree H
