use Rattle.std.proofs.Common.{sym, subst}
use Rattle.mk_command.specs.declared.command.Command.{Command}
use Rattle.mk_reply.specs.declared.reply.Reply.TheVariants.{Price}
use Rattle.mk_market.specs.Trading.{IsAnswered}
use Rattle.mk_session.proofs.answer.print_answer_to.Goals as goal

pub returns-then-print_plain_price : goal.returns-then-print_plain_price
returns-then-print_plain_price c =
    let priced = c.print_plain_price.ensures.priced c.if-print_plain_price.true in
    record {
      reply = Price priced.low priced.high;
      answered = subst (λ (asked : Command). IsAnswered c.args.market.now
          c.print_plain_price.new.market asked (Price priced.low priced.high)) (sym priced.asked)
          priced.answered;
      printed = priced.printed;
    }
