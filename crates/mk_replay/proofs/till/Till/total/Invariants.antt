use Rattle.std.proofs.Common.{◌≡◌, take, sum_by}
use Rattle.mk_history.specs.declared.entry.Payout.{Payout}
use Rattle.mk_replay.proofs.till.Till.total.Given as goal

abbrev pub invariant-loop-payment : goal.invariant-loop-payment
invariant-loop-payment l = l.total ≡ sum_by (λ (p : Payout). p.low) (take l.payment-index l.payment-items)
