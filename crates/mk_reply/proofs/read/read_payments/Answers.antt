use Rattle.std.proofs.Common.{◌≡◌, ◌-◌, [], ◌∷◌, ◌+◌, codes, arith, sym, ◌∙◌, length-append, refl}
use Rattle.mk_text.proofs.ReadingLaws.{items_none_more, items_read, items_stuck, items_all}
use Rattle.mk_reply.specs.Reading.{read_payments, read_payment}
use Rattle.mk_reply.proofs.read.read_payments.Goals as goal

pub payments-init : goal.payments-init
payments-init c = record { few = rw c.requires (omega arith); left = refl }

pub returns-then-not-skip : goal.returns-then-not-skip
unfolding read_payments
returns-then-not-skip c =
    let none = items_none_more (codes ", ") read_payment (256 - c.payments.counter) c.payments.payments c.payments.reader c.if-not-skip.ensures.passed in
    rw (← c.requires, c.if-not-skip.ensures.kept refl) (sym c.payments.invariant.left ∙ none)

pub returns-in_err-payment : goal.returns-in_err-payment
unfolding read_payments
returns-in_err-payment c =
    let stuck = items_stuck (codes ", ") read_payment (256 - c.payments.counter) c.payments.payments c.payments.reader c.skip.new.self (omega arith) c.if-not-skip.ensures.passed c.in_err-payment.ensures in
    rw (← c.requires, c.from_residual.ensures) (sym c.payments.invariant.left ∙ stuck)

pub payments-preserved : goal.payments-preserved
payments-preserved c =
    let read = items_read (codes ", ") read_payment (256 - c.payments.counter) c.payments.payments c.payments.reader c.skip.new.self c.payment.new.reader c.in_ok-payment.field-0 (omega arith) c.if-not-skip.ensures.passed c.in_ok-payment.ensures in
    let fewer : 256 - (c.payments.counter + 1) ≡ 256 - c.payments.counter - 1 = omega arith in record {
      few = rw c.push.ensures (omega (arith, length-append c.payments.payments (c.in_ok-payment.field-0 ∷ [])));
      left = rw (fewer, c.push.ensures) (sym read ∙ c.payments.invariant.left);
    }

pub returns : goal.returns
unfolding read_payments
returns c = rw (← c.requires) (sym c.payments.invariant.left ∙ items_all (codes ", ") read_payment (256 - c.payments.counter) c.payments.payments c.payments.reader (omega arith))
