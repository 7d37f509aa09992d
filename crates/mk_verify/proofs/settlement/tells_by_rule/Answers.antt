use Rattle.mk_verify.proofs.Settled.{total_told, otherwise_told}
use Rattle.mk_verify.proofs.settlement.tells_by_rule.Goals as goal

pub returns-then-tells_total-clause-tells : goal.returns-then-tells_total-clause-tells
returns-then-tells_total-clause-tells g c =
    total_told c.args.market.now.market c.args.market.now.standing.history c.args.reply.now _ _
    c.in-SettledAll.total c.tells_total.result c.in-SettledAll.is
    (rw c.history.ensures.same at c.tells_total.ensures) c.total_by_rule.result
    c.total_by_rule.ensures.total c.if-tells_total.true

pub returns-else-tells_total-clause-tells : goal.returns-else-tells_total-clause-tells
returns-else-tells_total-clause-tells g c = (
  λ yes. absurd (cc),
  λ by_rule. absurd (otherwise_told c.args.market.now.market c.args.market.now.standing.history
      c.args.reply.now _ _ c.in-SettledAll.total c.tells_total.result c.in-SettledAll.is
      (rw c.history.ensures.same at c.tells_total.ensures) c.if-tells_total.false by_rule),
)
