use Rattle.std.proofs.Common.{refl}
use Rattle.mk_exact.proofs.examples.example_traders.Goals as goal

pub returns : goal.returns
returns c = record { weights_now = refl; total_now = refl; c_up = refl; a_up_if_c_up = refl; least_alice = refl; least_bob = refl; least_bob_right = refl; after_a_up = refl; alice_after_a_up = refl }
