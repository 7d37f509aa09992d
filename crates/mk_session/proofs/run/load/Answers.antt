use Rattle.mk_session.specs.Opening.{opened_part}
use Rattle.mk_session.proofs.run.load.Goals as goal

pub returns-clause-bytes : goal.returns-clause-bytes
unfolding opened_part
returns-clause-bytes g c = c.load_within.ensures.bytes
