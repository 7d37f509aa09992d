use Rattle.mk_beliefs.proofs.Nothing.{belief_is_absent}
use Rattle.mk_beliefs.proofs.absent.belief_is_absent.Goals as goal

pub returns : goal.returns
returns c = λ network tree H event net proper. belief_is_absent network tree H net proper event
