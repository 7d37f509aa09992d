use Rattle.std.proofs.Common.{refl}
use Rattle.mk_sums.proofs.examples.chain_ways.Goals as goal

pub returns : goal.returns
returns c = record { down = refl; up = refl; between = refl; beyond = refl; not_beyond = refl; grade = refl }
