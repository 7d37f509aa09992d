use Rattle.mk_expect.proofs.Powers.{bits_at_most}
use Rattle.std.proofs.Common.{le_refl}
use Rattle.mk_expect.proofs.bits.bits_of.Goals as goal

pub returns-clause-at_least : goal.returns-clause-at_least
returns-clause-at_least c = λ l h.
    bits_at_most _ _ _ l c.power_bits.ensures.below (le_refl _) h.greatest

pub returns-clause-at_most : goal.returns-clause-at_most
returns-clause-at_most c = λ l h.
    bits_at_most _ _ l _ h.covered (le_refl _) c.power_bits.ensures.above
