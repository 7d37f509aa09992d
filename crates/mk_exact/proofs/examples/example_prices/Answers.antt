use Rattle.std.proofs.Common.{refl}
use Rattle.mk_exact.proofs.examples.example_prices.Goals as goal

pub returns : goal.returns
returns c = record { low = refl; high = refl; wet = refl; rain = refl; rain_if_wet = refl; b_up = refl; c_up = refl; a_up_if_b_up = refl; c_up_if_a_up = refl }
