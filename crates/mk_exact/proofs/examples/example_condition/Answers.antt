use Rattle.std.proofs.Common.{refl}
use Rattle.mk_exact.proofs.examples.example_condition.Goals as goal

pub returns : goal.returns
returns c = record { weights_now = refl; rain_if_wet = refl; rain_if_dry = refl; wet = refl; least = refl; least_if_dry = refl; none_if_wet = refl }
