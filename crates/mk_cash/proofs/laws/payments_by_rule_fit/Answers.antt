use Rattle.mk_cash.proofs.Sums.{payments_by_rule_fit}
use Rattle.mk_cash.proofs.laws.payments_by_rule_fit.Goals as goal

pub returns : goal.returns
returns c = payments_by_rule_fit
