use Rattle.std.proofs.Common.{◌≡◌, ◌≤◌, ◌-◌, length, codes}
use Rattle.mk_text.specs.Reading.{never, items}
use Rattle.mk_reply.specs.Reading.{read_payment}
use Rattle.mk_reply.proofs.read.read_payments.Given as goal

abbrev pub invariant-payments : goal.invariant-payments
invariant-payments l = record {
  few : length l.payments ≤ l.counter;
  left : items never (codes ", ") read_payment (256 - l.counter) l.payments l.reader ≡ items never (codes ", ") read_payment 256 l.initial.payments l.initial.reader;
}
