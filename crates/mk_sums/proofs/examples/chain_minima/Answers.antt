use Rattle.std.proofs.Common.{refl}
use Rattle.mk_sums.proofs.examples.chain_minima.Goals as goal

pub returns : goal.returns
returns c = record { first_at_1 = refl; back_at_1 = refl; all = refl; event = refl; known = refl; read = refl }
