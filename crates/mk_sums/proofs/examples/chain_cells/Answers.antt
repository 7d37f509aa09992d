use Rattle.std.proofs.Common.{refl}
use Rattle.mk_sums.proofs.examples.chain_cells.Goals as goal

pub returns : goal.returns
returns c = record { number = refl; cell = refl; first_value = refl; second_value = refl }
