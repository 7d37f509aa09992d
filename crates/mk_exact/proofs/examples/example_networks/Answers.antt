-- Each of the four is the network of a draft that the check finds faultless.
use Rattle.std.proofs.Common.{ℕ, false, List, map, pos, refl}
use Rattle.mk_net.specs.Network.{Variable}
use Rattle.mk_net.specs.Named.{variable_at}
use Rattle.mk_net.specs.Drafts.{DraftOfVariable}
use Rattle.mk_net.proofs.Checked.{checked_is_network}
use Rattle.mk_exact.specs.Examples.{coin, die, weather, chain}
use Rattle.mk_exact.proofs.examples.example_networks.Goals as goal

-- the draft that a network is written as
abbrev drafted : List Variable → List DraftOfVariable
drafted network = map (λ (v : Variable). record {
  name = v.name;
  values = v.values;
  parents = map (λ (p : ℕ). (variable_at network p).name) v.parents;
  rows = map (λ (row : List ℕ). map pos row) v.rows;
}) network

pub returns : goal.returns
returns c = record {
  coin_is = checked_is_network false (drafted coin) refl;
  die_is = checked_is_network false (drafted die) refl;
  weather_is = checked_is_network false (drafted weather) refl;
  chain_is = checked_is_network false (drafted chain) refl;
  coin_total = refl;
  die_total = refl;
  weather_total = refl;
  chain_total = refl;
}
