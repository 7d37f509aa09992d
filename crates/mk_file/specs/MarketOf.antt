-- The market that an accepted file stands for.
use Rattle.std.specs.Prelude.{map}
use Rattle.mk_exact.specs.Market.{Market}
use Rattle.mk_tree.specs.Tests.{members}
use Rattle.mk_file.specs.declared.market_file.MarketFile.{MarketFile}

-- its cliques are lists of variables in rising order
abbrev pub market_of : MarketFile → Market
market_of file = record {
  network = file.net;
  cliques = map (members file.net) file.tree.cliques;
  points_per_bit = file.points_per_bit;
  max_trades = file.max_trades;
  max_users = file.max_users;
  max_transfers = file.max_transfers;
  zeros = file.zeros;
}
