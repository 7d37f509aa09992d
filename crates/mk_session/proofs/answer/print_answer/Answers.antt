use Rattle.std.proofs.Common.{refl}
use Rattle.mk_command.specs.Commands.{command_of}
use Rattle.mk_reply.specs.declared.reply.Reply.TheVariants.{Refused}
use Rattle.mk_reply.specs.declared.refusal.Refusal.TheVariants.{Syntax}
use Rattle.mk_rules.specs.Transcript.{OfCommand, NoCommand}
use Rattle.mk_session.proofs.Present.{allowed_at, next_at, at_next}
use Rattle.mk_session.proofs.answer.print_answer.Goals as goal

pub returns-in-Err-clause-spoken : goal.returns-in-Err-clause-spoken
returns-in-Err-clause-spoken c = λ start here. record {
  asked = NoCommand;
  reply = Refused Syntax;
  asks = c.in-Err.ensures.none;
  allowed = λ sound. refl;
  next = refl;
  printed = c.print_reply_line.ensures;
}

pub returns-in-Ok-clause-spoken : goal.returns-in-Ok-clause-spoken
returns-in-Ok-clause-spoken c = λ start here.
    let made = c.print_answer_to.ensures in
    let old = c.args.market.now in
    let new = c.print_answer_to.new.market in
    let command = command_of c.in-Ok.command in
    record {
      asked = OfCommand command;
      reply = made.reply;
      asks = c.in-Ok.ensures.found;
      allowed = allowed_at start old new command made.reply here made.answered;
      next = next_at start old new command made.reply here made.answered;
      printed = made.printed;
    }

pub returns-in-Ok-clause-market : goal.returns-in-Ok-clause-market
returns-in-Ok-clause-market c = λ start here.
    let made = c.print_answer_to.ensures in
    at_next start c.args.market.now c.print_answer_to.new.market (command_of c.in-Ok.command)
    made.reply here made.answered
