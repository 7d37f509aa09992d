use Rattle.std.specs.Prelude.{◌≡◌, ◌+◌, None}
use Rattle.std.proofs.Common.{sym, subst}
use Rattle.mk_exact.specs.History.{revision}
use Rattle.mk_command.specs.declared.command.Command.TheVariants.{Add}
use Rattle.mk_reply.specs.declared.reply.Reply.TheVariants.{Added}
use Rattle.mk_rules.specs.Refusals.{first_refusal}
use Rattle.mk_market.specs.Trading.{Trading}
use Rattle.mk_market.proofs.Regrowing.{grown_taken_back}
use Rattle.mk_market.proofs.TakenBack.{left_by_refusal, tried_unfit}
use Rattle.mk_market.proofs.market.Market.restore_add.Goals as goal

pub returns-in_err-refuse_add : goal.returns-in_err-refuse_add
returns-in_err-refuse_add g c =
    rw (← c.self.view_is) (tried_unfit _ _ (Add c.args.add.now) c.args.reply.now
    c.from_residual.result c.from_residual.ensures.1
    (left_by_refusal _ (Add c.args.add.now) c.args.reply.now c.in_err-refuse_add.field-0.0
    c.in_err-refuse_add.ensures.refusal))

pub grow-requires-clause-unrefused : goal.grow-requires-clause-unrefused
grow-requires-clause-unrefused g c =
    rw (← c.self.view_is) (sym c.in_ok-refuse_add.ensures.refusal)

pub returns : goal.returns
returns g c =
    grown_taken_back c.args.self.now c.grow.new.self c.args.add.now c.args.reply.now
    (c.has_text.ensures.0 c.if-not-has_text.false)
    (subst (λ (t : Trading _). None ≡ first_refusal t.market t.standing.history (Add c.args.add.now))
    c.self.view_is c.in_ok-refuse_add.ensures.refusal)
    c.in-Ok.ensures.ok
    (subst (λ (t : Trading _). c.args.reply.now
    ≡ Added c.args.add.now.variable (revision t.standing.history + 1)) c.self.view_is
    (c.tells_addition.ensures.0 c.if-not-tells_addition.false))
