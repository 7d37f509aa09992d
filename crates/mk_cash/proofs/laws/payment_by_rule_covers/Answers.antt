use Rattle.mk_cash.proofs.Payments.{payment_by_rule_covers}
use Rattle.mk_cash.proofs.laws.payment_by_rule_covers.Goals as goal

pub returns : goal.returns
returns c = payment_by_rule_covers
