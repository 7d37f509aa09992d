use Rattle.std.proofs.Common.{◌≡◌, ℕ, ◌<◌, ◌≤◌, false, List, [], length, refl, arith}
use Rattle.std.specs.Prelude.{⊤, sum_by}
use Rattle.std.specs.List.{AllByRecursion}
use Rattle.mk_net.specs.Network.{Variable, IsNetwork, sizes, choices}
use Rattle.mk_net.specs.Zeros.{with_zeros}
use Rattle.mk_exact.proofs.Zeros.{no_zeros}
use Rattle.mk_rules.specs.Standings.{IsMarket}
use Rattle.mk_rules.proofs.examples.example_markets.Goals as goal

-- a network without zeros, cliques of its variables, and two numbers within their limits
market : (network : List Variable) (cliques : List (List ℕ)) (trades : ℕ) → IsNetwork network
    → with_zeros network ≡ []
    → AllByRecursion (AllByRecursion (λ x. x < length network)) cliques
    → sum_by (choices (sizes network)) cliques ≤ 32768 → 1 ≤ trades → trades ≤ 1000000
    → IsMarket (record {
      network = network;
      cliques = cliques;
      points_per_bit = 100;
      max_trades = trades;
      max_users = 256;
      max_transfers = 65536;
      zeros = false;
    })
market network cliques trades net none known cells some few = record {
  network = net;
  cliques_known = known;
  few_cells = cells;
  shares = λ e. no_zeros network none;
  some_points = omega arith;
  few_points = omega arith;
  some_trades = some;
  few_trades = few;
  some_users = omega arith;
  few_users = omega arith;
  some_transfers = omega arith;
  few_transfers = omega arith;
}

-- the numbers of one clique and of several
one : ((0 < 1) × ⊤) × ⊤
one = ((omega arith, tt), tt)

of_weather : ((0 < 2) × ((1 < 2) × ⊤)) × (((0 < 2) × ⊤) × ⊤)
of_weather = ((omega arith, (omega arith, tt)), ((omega arith, tt), tt))

of_chain : ((0 < 3) × ((1 < 3) × ⊤)) × (((1 < 3) × ((2 < 3) × ⊤)) × (((2 < 3) × ⊤) × ⊤))
of_chain = (
  (omega arith, (omega arith, tt)),
  ((omega arith, (omega arith, tt)), ((omega arith, tt), tt)),
)

pub returns : goal.returns
returns c =
    let are = c.example_networks.ensures in
    record {
      coin_is = market _ _ 1000 are.coin_is refl one (omega arith) (omega arith) (omega arith);
      one_is = market _ _ 1 are.coin_is refl one (omega arith) (omega arith) (omega arith);
      die_is = market _ _ 1000 are.die_is refl one (omega arith) (omega arith) (omega arith);
      weather_is = market _ _ 1000 are.weather_is refl of_weather (omega arith) (omega arith)
          (omega arith);
      chain_is = market _ _ 1000 are.chain_is refl of_chain (omega arith) (omega arith)
          (omega arith);
    }
