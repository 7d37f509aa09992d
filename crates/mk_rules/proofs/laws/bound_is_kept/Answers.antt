use Rattle.mk_rules.proofs.Risked.{bound_is_kept}
use Rattle.mk_rules.proofs.laws.bound_is_kept.Goals as goal

pub returns : goal.returns
returns c = λ market middle new first second replies more low high at payments. bound_is_kept market middle new first second replies more low high at payments
