use Rattle.std.proofs.Common.{refl, arith}
use Rattle.mk_exact.proofs.examples.example_trade.Goals as goal

pub returns : goal.returns
returns c = record { weights_now = refl; total_now = refl; small = omega arith; price = refl; least = refl; least_heads = refl; none_left = refl; alice_in_heads = refl; alice_in_tails = refl; one_state = refl }
