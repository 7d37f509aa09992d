-- The market of a file is one.
use Rattle.std.specs.Prelude.{length}
use Rattle.std.proofs.Common.{arith}
use Rattle.mk_net.specs.Network.{IsNetwork, sizes}
use Rattle.mk_sets.specs.Sets.{is_member}
use Rattle.mk_tree.specs.Checked.{IsTreeOf}
use Rattle.mk_tree.specs.Tests.{members}
use Rattle.mk_file.specs.declared.market_file.MarketFile.{MarketFile}
use Rattle.mk_file.specs.MarketOf.{market_of}
use Rattle.mk_rules.proofs.Cells.{lists_known, lists_cells}
use Rattle.mk_rules.specs.Standings.{IsMarket}

pub market_is : (file : MarketFile) → IsNetwork file.net → IsTreeOf file.net file.tree
    → IsMarket (market_of file)
market_is file legal tree = record {
  network = legal;
  cliques_known = lists_known is_member (length file.net) file.tree.cliques;
  few_cells = omega (
    arith,
    lists_cells (members file.net) (sizes file.net) file.tree.cliques,
    tree.few_cells,
  );
  some_points = file.points_positive;
  few_points = file.points_most;
  some_trades = file.trades_positive;
  few_trades = file.trades_most;
  some_users = file.users_positive;
  few_users = file.users_most;
  some_transfers = file.transfers_positive;
  few_transfers = file.transfers_most;
  shares = file.no_zeros;
}
