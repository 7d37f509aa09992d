use Rattle.mk_cash.proofs.Payments.{payment_by_rule_is_between}
use Rattle.mk_cash.proofs.laws.payment_by_rule_is_between.Goals as goal

pub returns : goal.returns
returns c = payment_by_rule_is_between
