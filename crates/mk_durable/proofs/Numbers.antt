-- How many changes there may be.
use Rattle.std.proofs.Common.{◌≡◌, ◌+◌, ◌≤◌, List, [], ◌∷◌, length, arith}
use Rattle.std.specs.List.{count_by}
use Rattle.mk_exact.specs.History.{Entry, Join, Deposit, Withdraw, Trade, Resolve, Settle, Add}
use Rattle.mk_exact.specs.History.{users, trades, resolutions, additions, is_transfer}
use Rattle.mk_exact.specs.History.{is_settlement, revision}
use Rattle.mk_exact.specs.Market.{Market}
use Rattle.mk_rules.proofs.Bounds.{count_first}
use Rattle.mk_rules.proofs.Revisions.{few_resolutions}
use Rattle.mk_restore.specs.Laws.{IsSafe}

-- each entry is of one kind
kinds : (H : List Entry) → length H ≡ length (users H) + count_by is_transfer H + length (trades H)
    + length (resolutions H) + count_by is_settlement H + length (additions H)
kinds [] = omega arith
kinds (Join name ∷ H) = omega (arith, kinds H)
kinds (Deposit user bits ∷ H) =
    omega (arith, kinds H, count_first is_transfer (Deposit user bits) H)
kinds (Withdraw user bits ∷ H) =
    omega (arith, kinds H, count_first is_transfer (Withdraw user bits) H)
kinds (Trade user ratio ∷ H) = omega (arith, kinds H)
kinds (Resolve pair ∷ H) = omega (arith, kinds H)
kinds (Settle payments ∷ H) = omega (arith, kinds H, count_first is_settlement (Settle payments) H)
kinds (Add addition ∷ H) = omega (arith, kinds H)

pub few_changes : (market : Market) (H : List Entry) → IsSafe market H
    → revision H ≤ 2065793 + length (additions H)
few_changes market H safe =
    omega (
      arith,
      kinds H,
      safe.bounded.few_users,
      safe.legal.few_users,
      safe.bounded.within.few_transfers,
      safe.bounded.within.few_trades,
      few_resolutions market.network H safe.proper,
      safe.legal.network.few,
      safe.bounded.settled_once,
    )

-- some question was in the file
pub few_additions : (market : Market) (H : List Entry) → IsSafe market H
    → length (additions H) ≤ 255
few_additions market H safe = omega (arith, safe.few_added, safe.legal.network.few)
