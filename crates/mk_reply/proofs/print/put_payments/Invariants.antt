use Rattle.std.proofs.Common.{◌≡◌, ◌+◌, ◌*◌, ◌≤◌, ◌++◌, drop, codes}
use Rattle.arrayvec.specs.ArrayString.{array_string_len}
use Rattle.mk_text.specs.Joined.{items_text}
use Rattle.mk_reply.specs.Replies.{payment_text}
use Rattle.mk_reply.proofs.print.put_payments.Given as goal

abbrev pub invariant-loop-payment : goal.invariant-loop-payment
invariant-loop-payment l = record {
  growth : array_string_len l.out ≤ array_string_len l.initial.out + 103 * l.payment-index;
  text : l.out.bytes ++ items_text (codes ", ") payment_text (drop l.payment-index l.payments) ≡ l.initial.out.bytes ++ items_text (codes ", ") payment_text l.payments;
}
