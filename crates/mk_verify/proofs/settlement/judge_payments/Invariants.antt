use Rattle.mk_market.specs.Trading.{IsOnlyAsked}
use Rattle.mk_verify.specs.inner.Judging.{InOneState}
use Rattle.mk_verify.proofs.Settled.{JudgesPaid}
use Rattle.mk_verify.proofs.settlement.judge_payments.Given as goal

abbrev pub invariant-loop-user : goal.invariant-loop-user
invariant-loop-user g l =
    let market = l.initial.market.market in
    let H = l.initial.market.standing.history in
    record {
      same : IsOnlyAsked l.initial.market l.market;
      judged : InOneState market H
          (λ state. JudgesPaid market H state l.payments l.judged l.user);
    }
