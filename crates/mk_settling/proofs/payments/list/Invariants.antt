use Rattle.std.proofs.Common.{◌≡◌, map, take}
use Rattle.mk_rules.specs.Answers.{ends_of}
use Rattle.mk_settling.proofs.payments.list.Given as goal

abbrev pub invariant-loop-payment : goal.invariant-loop-payment
invariant-loop-payment l = l.till ≡ record l.fn.till { payments = map ends_of (take l.payment-index l.payments) }
