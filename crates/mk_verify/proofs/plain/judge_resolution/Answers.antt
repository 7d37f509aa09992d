use Rattle.std.proofs.Common.{sym}
use Rattle.mk_command.specs.declared.command.Command.TheVariants.{Resolve}
use Rattle.mk_verify.proofs.ByWords.{judges_words}
use Rattle.mk_verify.proofs.plain.judge_resolution.Goals as goal

pub returns-in-Ok-clause-judged : goal.returns-in-Ok-clause-judged
returns-in-Ok-clause-judged g c =
    let tells = rw (c.history.ensures.same, c.refused_resolution.ensures.same) at
    c.tells_resolution.ensures in
    rw c.judge_words.ensures (judges_words c.args.market.now.market
    c.args.market.now.standing.history (Resolve c.args.words.now) c.args.reply.now
    c.tells_resolution.result (sym c.in-Ok.ensures.refusal) (λ quotes. tells))
