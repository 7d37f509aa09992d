use Rattle.std.specs.Prelude.{◌≡◌, ◌+◌}
use Rattle.std.proofs.Common.{sym, ◌∙◌, subst}
use Rattle.mk_exact.specs.History.{revision}
use Rattle.mk_command.specs.declared.command.Command.TheVariants.{Deposit}
use Rattle.mk_reply.specs.declared.reply.Reply.TheVariants.{Deposited}
use Rattle.mk_market.specs.Trading.{Trading}
use Rattle.mk_market.proofs.TakenBack.{left_untold, tried_unfit, as_found}
use Rattle.mk_market.proofs.market.Market.restore_deposit.Goals as goal

pub returns-then-not-tells_deposit : goal.returns-then-not-tells_deposit
returns-then-not-tells_deposit g c =
    rw (← c.self.view_is)
    (left_untold _ _ _ c.tells_deposit.ensures.1 c.if-not-tells_deposit.true)

pub returns-in_err-deposit : goal.returns-in_err-deposit
returns-in_err-deposit g c =
    tried_unfit _ _ (Deposit c.args.name.now c.args.bits) c.args.reply.now
    c.from_residual.result c.from_residual.ensures.1
    (c.in_err-deposit.ensures.again c.args.reply.now)

pub returns : goal.returns
returns g c =
    let told = subst (λ (t : Trading _). c.args.reply.now
    ≡ Deposited c.args.name.now c.args.bits (revision t.standing.history + 1)) c.self.view_is
    (c.tells_deposit.ensures.0 c.if-not-tells_deposit.false) in
    as_found _ _ (Deposit c.args.name.now c.args.bits) c.args.reply.now _
    (told ∙ sym c.in_ok-deposit.ensures.again.fits.agrees) c.in_ok-deposit.ensures.again
