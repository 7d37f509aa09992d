use Rattle.mk_expect.proofs.Tallied.{share_times}
use Rattle.mk_expect.proofs.values.tally_of.Goals as goal

pub returns-clause-tally : goal.returns-clause-tally
returns-clause-tally c = λ part whole l s b.
    share_times c.args.share.0 c.args.share.1 c.args.bits.0 c.args.bits.1 part whole l s b.at_least
    b.at_most
