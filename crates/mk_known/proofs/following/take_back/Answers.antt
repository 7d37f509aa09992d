use Rattle.std.proofs.Common.{refl, ap, ◌∙◌}
use Rattle.mk_command.specs.Commands.{command_of}
use Rattle.mk_market.specs.Trading.{Trading}
use Rattle.mk_known.proofs.KnownFollow.{unfit_stays, unfit_adds_nothing}
use Rattle.mk_known.proofs.following.take_back.Goals as goal

pub returns-in-Err-Unfit-clause-market : goal.returns-in-Err-Unfit-clause-market
returns-in-Err-Unfit-clause-market g c = λ quotes allowed.
    let unfit = rw c.in-Err-Unfit.field-0-is at c.in-Err-Unfit.ensures.unfit in
    let m = c.args.market.now in
    ap (λ (t : Trading _). t.market) c.in-Err-Unfit.ensures.same
    ∙ unfit_adds_nothing m.market m.standing.history quotes (command_of c.args.command.now)
    c.args.reply.now allowed (unfit refl)

pub returns-in-Err-Unfit-clause-next : goal.returns-in-Err-Unfit-clause-next
returns-in-Err-Unfit-clause-next g c = λ quotes allowed.
    let unfit = rw c.in-Err-Unfit.field-0-is at c.in-Err-Unfit.ensures.unfit in
    let m = c.args.market.now in
    ap (λ (t : Trading _). t.standing.history) c.in-Err-Unfit.ensures.same
    ∙ unfit_stays m.market m.standing.history quotes (command_of c.args.command.now)
    c.args.reply.now allowed (unfit refl)
