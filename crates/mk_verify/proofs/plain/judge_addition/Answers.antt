use Rattle.std.proofs.Common.{sym}
use Rattle.mk_command.specs.declared.command.Command.TheVariants.{Add}
use Rattle.mk_verify.proofs.ByWords.{judges_words, either_told}
use Rattle.mk_verify.proofs.plain.judge_addition.Goals as goal

pub returns-in-Ok : goal.returns-in-Ok
returns-in-Ok g c =
    rw c.judge_words.ensures (judges_words c.args.market.now.market
    c.args.market.now.standing.history (Add c.args.add.now) c.args.reply.now c.or_want.result
    (sym c.in-Ok.ensures)
    (λ quotes. either_told _ _ _ _ c.tells_question.ensures c.or_want.ensures))
