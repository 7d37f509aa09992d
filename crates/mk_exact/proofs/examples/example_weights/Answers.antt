use Rattle.std.proofs.Common.{refl}
use Rattle.mk_exact.proofs.examples.example_weights.Goals as goal

pub returns : goal.returns
returns c = record { coin_weights = refl; die_weights = refl; weather_states = refl; weather_weights = refl; chain_weights = refl }
