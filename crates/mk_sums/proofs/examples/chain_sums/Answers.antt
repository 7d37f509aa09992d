use Rattle.std.proofs.Common.{refl}
use Rattle.mk_sums.proofs.examples.chain_sums.Goals as goal

pub returns : goal.returns
returns c = record { first_at_0 = refl; first_at_1 = refl; last_at_1 = refl; back_at_1 = refl; on_at_1 = refl; all = refl; event = refl; known = refl; none = refl; read = refl }
