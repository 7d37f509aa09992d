use Rattle.mk_user_engine.proofs.BeliefSharing.{belief_shared}
use Rattle.mk_user_engine.proofs.group_laws.belief_is_shared.Goals as goal

pub returns : goal.returns
returns c = belief_shared
