use Rattle.std.proofs.Common.{◌≡◌, map}
use Rattle.mk_history.specs.Entries.{ends}
use Rattle.mk_settling.proofs.Booked.{AreBookedBefore}
use Rattle.mk_settling.proofs.payments.book.Given as goal

abbrev pub invariant-loop-payment : goal.invariant-loop-payment
invariant-loop-payment l = record {
  booked : AreBookedBefore l.fn.ledger.accounts (map ends l.payments) l.payment-index l.ledger.accounts;
  room : l.ledger.room ≡ l.fn.ledger.room;
  counted : l.user ≡ l.payment-index;
}
