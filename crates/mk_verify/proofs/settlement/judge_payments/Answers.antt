use Rattle.std.proofs.Common.{◌≡◌, length, refl, arith}
use Rattle.std.proofs.lemmas.Option.{slice_get_read}
use Rattle.mk_verify.specs.inner.Judging.{PaysCash, IsPaymentLeftOpen}
use Rattle.mk_verify.proofs.Asking.{asked_again}
use Rattle.mk_verify.proofs.Places.{one_more}
use Rattle.mk_verify.proofs.Settled.{all_paid}
use Rattle.mk_verify.proofs.settlement.judge_payments.Goals as goal

pub loop-user-preserved : goal.loop-user-preserved
loop-user-preserved g c =
    let market = c.args.market.now.market in
    let H = c.args.market.now.standing.history in
    let payments = c.args.payments.now in
    let n = c.loop-user.user in
    let at = slice_get_read payments (length payments) n c.index-payments-user.result refl
    c.loop-user-test.true c.index-payments-user.is in
    let same = c.loop-user.invariant.same in
    let judged = rw (same.market, same.standing) at c.judge_payment.ensures.judged in
    record {
      same = asked_again c.args.market.now c.loop-user.market c.judge_payment.new.market same
          c.judge_payment.ensures.same;
      judged = λ state sound one. rw c.and-judged.ensures (one_more payments
          (PaysCash market H state) (IsPaymentLeftOpen market H state) c.loop-user.judged
          c.judge_payment.result n c.index-payments-user.result at
          (c.loop-user.invariant.judged state sound one) (judged state sound one));
    }

pub returns-clause-judged : goal.returns-clause-judged
returns-clause-judged g c state sound one =
    let market = c.args.market.now.market in
    let H = c.args.market.now.standing.history in
    let payments = c.args.payments.now in
    let long : length payments ≡ c.loop-user.user = omega arith in
    all_paid market H state payments c.loop-user.judged c.loop-user.user one long
    (c.loop-user.invariant.judged state sound one)
