use Rattle.mk_sums.proofs.Ways as ways
use Rattle.mk_sums.proofs.changes.stale_on_way.Goals as goal

pub returns : goal.returns
returns c = λ link m links b c p q r s. ways.stale_on_way link m links c r s b p q
