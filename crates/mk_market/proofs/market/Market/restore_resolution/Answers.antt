use Rattle.std.specs.Prelude.{◌≡◌, ◌+◌}
use Rattle.std.proofs.Common.{sym, ◌∙◌, subst}
use Rattle.mk_exact.specs.History.{revision}
use Rattle.mk_command.specs.declared.command.Command.TheVariants.{Resolve}
use Rattle.mk_reply.specs.declared.reply.Reply.TheVariants.{Resolved}
use Rattle.mk_market.specs.Trading.{Trading}
use Rattle.mk_market.proofs.TakenBack.{left_by_reply, tried_unfit, as_found}
use Rattle.mk_market.proofs.market.Market.restore_resolution.Goals as goal

pub returns-then-not-tells_resolution : goal.returns-then-not-tells_resolution
returns-then-not-tells_resolution g c =
    rw (← c.self.view_is) (left_by_reply _ (Resolve c.args.words.now) c.args.reply.now
    (λ agrees. let yes = c.tells_resolution.ensures.1 agrees in
    let no = c.if-not-tells_resolution.true in absurd (cc)))

pub returns-in_err-resolve : goal.returns-in_err-resolve
returns-in_err-resolve g c =
    tried_unfit _ _ (Resolve c.args.words.now) c.args.reply.now
    c.from_residual.result c.from_residual.ensures.1
    (c.in_err-resolve.ensures.again c.args.reply.now)

pub returns : goal.returns
returns g c =
    let told = subst (λ (t : Trading _). c.args.reply.now
    ≡ Resolved c.args.words.now (revision t.standing.history + 1)) c.self.view_is
    (c.tells_resolution.ensures.0 c.if-not-tells_resolution.false) in
    as_found _ _ (Resolve c.args.words.now) c.args.reply.now _
    (told ∙ sym c.in_ok-resolve.ensures.again.fits.agrees) c.in_ok-resolve.ensures.again
