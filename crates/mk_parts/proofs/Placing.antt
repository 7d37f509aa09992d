-- A safe history is placed in a file with one question more.
use Rattle.std.specs.Prelude.{◌≡◌, ℕ, ◌≤◌, List, [], ◌∷◌, length}
use Rattle.std.specs.List.{AllByRecursion}
use Rattle.std.proofs.Common.{refl, sym, subst, arith}
use Rattle.mk_net.specs.Network.{Variable, IsNetwork}
use Rattle.mk_exact.specs.History.{Entry, Addition, Add as Adds, users, trades}
use Rattle.mk_exact.specs.History.{deposited, withdrawn}
use Rattle.mk_exact.specs.Market.{Market, with_entry}
use Rattle.mk_exact.specs.Proper.{IsProper}
use Rattle.mk_exact.proofs.After.{trades_kept}
use Rattle.mk_grown.proofs.Grows.{proper_more}
use Rattle.mk_tree.specs.Checked.{IsTreeOf}
use Rattle.mk_tree.specs.Given.{GivenTree}
use Rattle.mk_file.specs.declared.market_file.MarketFile.{MarketFile}
use Rattle.mk_file.specs.MarketOf.{market_of}
use Rattle.mk_assets.specs.Holdings.{max_bits}
use Rattle.mk_addition.specs.declared.add.AddText.{AddText}
use Rattle.mk_rules.specs.Additions.{addition_of, longer_network}
use Rattle.mk_rules.specs.Standings.{IsInClique}
use Rattle.mk_rules.proofs.Keeps.{inside_after}
use Rattle.mk_restore.specs.Laws.{IsSafe}
use Rattle.mk_replay.specs.Placed.{IsPlaced}
use Rattle.mk_parts.specs.Adding.{IsLonger}
use Rattle.mk_parts.proofs.Homes.{trades_have}
use Rattle.mk_parts.proofs.Moved.{few_moved}

-- no user moved more bits than assets count
pub few_bits : (market : Market) (H : List Entry) → IsSafe market H → (u : ℕ)
    → (deposited H u ≤ max_bits) × (withdrawn H u ≤ max_bits)
few_bits market H safe u =
    let few = few_moved (length (users H)) u H safe.bounded.transfers_fit in (
      omega (arith, few.0, safe.bounded.within.few_transfers),
      omega (arith, few.1, safe.bounded.within.few_transfers),
    )

-- an engine that suits each tree of the longer network suits that of the longer file
pub suits_longer : (suits : List Variable → GivenTree → Type 0) (file longer : MarketFile)
    (add : AddText) → IsLonger file (addition_of file.net add) longer
    → ((tree : GivenTree) → IsTreeOf (longer_network file.net add) tree
    → suits (longer_network file.net add) tree)
    → suits longer.net longer.tree
suits_longer suits file longer add is each =
    subst (λ (network : List Variable). suits network longer.tree) (sym is.net)
    (each longer.tree
    (subst (λ (network : List Variable). IsTreeOf network longer.tree) is.net is.tree))

-- the history of a safe market is placed in a file with one question more
module _ (file longer : MarketFile) (a : Addition) (is : IsLonger file a longer) (H : List Entry)
    (safe : IsSafe (market_of file) H) where
  proper : IsProper longer.net H
  proper =
      subst (λ (network : List Variable). IsProper network H) (sym is.net)
      (proper_more file.net a.variable H (subst IsNetwork is.net is.legal) safe.proper)

  narrow : AllByRecursion (IsInClique (market_of longer).cliques) (trades H)
  narrow =
      let inside = inside_after (market_of file) H (Adds a) (safe.none_wide, safe.few_added) tt in
      subst (λ (m : Market). AllByRecursion (IsInClique m.cliques) (trades H)) (sym is.market)
      (subst (AllByRecursion (IsInClique (with_entry (Adds a) (market_of file)).cliques))
      (trades_kept H (Adds a) refl) inside.0)

  pub is_placed : IsPlaced longer.net longer.tree H
  is_placed = record {
    proper = proper;
    few_trades = omega (arith, safe.bounded.few_trades, file.trades_most);
    homes = trades_have longer (length (users H)) (trades H) proper.trades_fit narrow;
  }
