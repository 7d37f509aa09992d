use Rattle.mk_user_engine.proofs.Gathering.{stays_gathered}
use Rattle.mk_user_engine.proofs.group_laws.gathered_stay.Goals as goal

pub returns : goal.returns
returns c = stays_gathered
