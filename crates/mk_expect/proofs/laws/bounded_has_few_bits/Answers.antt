use Rattle.mk_expect.proofs.Transfers.{bounded_has_few_bits}
use Rattle.mk_expect.proofs.laws.bounded_has_few_bits.Goals as goal

pub returns : goal.returns
returns c = bounded_has_few_bits
