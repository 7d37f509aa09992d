-- What is traded and resolved in a safe history has homes.
use Rattle.std.specs.Prelude.{◌≡◌, List, [], ◌∷◌, true}
use Rattle.std.specs.Prelude.{is_some}
use Rattle.std.specs.List.{AllByRecursion}
use Rattle.mk_net.specs.declared.words.Pair.{Pair}
use Rattle.mk_exact.specs.History.{trades, resolutions}
use Rattle.mk_states.specs.OfNetwork.{IsPairOf}
use Rattle.mk_tree.specs.Given.{home}
use Rattle.mk_tree.specs.Checked.{IsTreeOf}
use Rattle.mk_tree.proofs.Held.{pair_has_home}
use Rattle.mk_file.specs.declared.market_file.MarketFile.{MarketFile}
use Rattle.mk_parts.proofs.Homes.{trades_have}
use Rattle.mk_market.specs.Homes.{SafeHasHomes}

module _ (file : MarketFile) where
  pairs_have : IsTreeOf file.net file.tree → (ps : List Pair)
      → AllByRecursion (IsPairOf file.net) ps
      → AllByRecursion (λ (p : Pair). is_some (home file.tree (p ∷ [])) ≡ true) ps
  pairs_have tree [] fit = tt
  pairs_have tree (p ∷ ps) fit = (
    pair_has_home file.net file.tree p (tree.covers p.variable fit.0.variable),
    pairs_have tree ps fit.1,
  )

pub safe_has_homes : SafeHasHomes
safe_has_homes file H tree safe = record {
  traded = trades_have file _ (trades H) safe.proper.trades_fit safe.none_wide;
  resolved = pairs_have file tree (resolutions H) safe.proper.resolutions_fit;
}
