use Rattle.std.proofs.Common.{ap}
use Rattle.mk_command.specs.declared.command.CommandRef.{CommandRef}
use Rattle.mk_command.specs.Commands.{command_of}
use Rattle.mk_session.proofs.answer.print_plain_price.Goals as goal

pub returns-in-Some-clause-priced : goal.returns-in-Some-clause-priced
unfolding command_of
returns-in-Some-clause-priced c = λ told. record {
  question = c.in-Price.question.now;
  low = c.in-Some.low;
  high = c.in-Some.high;
  asked = ap (λ (asked : CommandRef). command_of asked) c.in-Price.is;
  answered = c.in-Some.ensures.priced;
  printed = c.print_reply_line.ensures;
}
