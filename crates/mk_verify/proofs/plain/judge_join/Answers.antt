use Rattle.std.proofs.Common.{sym}
use Rattle.mk_command.specs.declared.command.Command.TheVariants.{User}
use Rattle.mk_verify.proofs.ByWords.{judges_words, either_told}
use Rattle.mk_verify.proofs.plain.judge_join.Goals as goal

pub returns-in-Ok : goal.returns-in-Ok
returns-in-Ok g c =
    let tells = rw c.history.ensures.same at c.tells_join.ensures in
    rw c.judge_words.ensures (judges_words c.args.market.now.market
    c.args.market.now.standing.history (User c.args.name.now) c.args.reply.now c.or_want.result
    (sym c.in-Ok.ensures) (λ quotes. either_told _ _ _ _ tells c.or_want.ensures))
