use Rattle.mk_exact.specs.Weight.{IsSmall}
use Rattle.mk_answers.proofs.MostBits.{most_for, fewer_covered}
use Rattle.mk_answers.proofs.worst.most_bits.Goals as goal

pub returns-clause-most : goal.returns-clause-most
returns-clause-most c = λ network H most_trades q for least.
    most_for c.args.factor.now c.whole_bits.result
    (record { fits = c.whole_bits.ensures.fits; greatest = c.whole_bits.ensures.greatest })
    most_trades (IsSmall network H) q for least

pub returns-clause-covered : goal.returns-clause-covered
returns-clause-covered c = λ network H most_trades q bits for least fewer.
    fewer_covered c.args.factor.now c.whole_bits.result (record { fits = c.whole_bits.ensures.fits; greatest = c.whole_bits.ensures.greatest }) q for.stands least bits fewer
