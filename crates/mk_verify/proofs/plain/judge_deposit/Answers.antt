use Rattle.std.proofs.Common.{sym}
use Rattle.mk_command.specs.declared.command.Command.TheVariants.{Deposit}
use Rattle.mk_verify.proofs.ByWords.{judges_words}
use Rattle.mk_verify.proofs.plain.judge_deposit.Goals as goal

pub returns-in-Ok : goal.returns-in-Ok
returns-in-Ok g c =
    rw c.judge_words.ensures (judges_words c.args.market.now.market
    c.args.market.now.standing.history (Deposit c.args.name.now c.args.bits) c.args.reply.now
    c.tells_deposit.result (sym c.in-Ok.ensures)
    (λ quotes. rw c.history.ensures.same at c.tells_deposit.ensures))
