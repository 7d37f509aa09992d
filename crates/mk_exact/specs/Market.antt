-- What a market file gives, and what stands of it after a history.
use Rattle.std.specs.Prelude.{ℕ, Bool, List, [], ◌∷◌, ◌++◌, map}
use Rattle.mk_net.specs.Network.{Variable}
use Rattle.mk_exact.specs.History.{Entry, Addition, Add, additions}

-- the network, the cliques as lists of variables, the points of a bit, the most trades, users and transfers that the market
-- takes, and whether shares of nothing may occur
pub record Market : Type 0 where
  pub network : List Variable
  pub cliques : List (List ℕ)
  pub points_per_bit : ℕ
  pub max_trades : ℕ
  pub max_users : ℕ
  pub max_transfers : ℕ
  pub zeros : Bool

-- the market of a history: what a file gave, and behind it what was added, in the order of the additions
abbrev pub present : Market → List Entry → Market
present market H = record {
  network = market.network ++ map (λ (a : Addition). a.variable) (additions H);
  cliques = market.cliques ++ map (λ (a : Addition). a.clique) (additions H);
  points_per_bit = market.points_per_bit;
  max_trades = market.max_trades;
  max_users = market.max_users;
  max_transfers = market.max_transfers;
  zeros = market.zeros;
}

-- a market after one more entry
abbrev pub with_entry : Entry → Market → Market
with_entry (Add a) m = record m { network = m.network ++ a.variable ∷ []; cliques = m.cliques ++ a.clique ∷ [] }
with_entry _ m = m
