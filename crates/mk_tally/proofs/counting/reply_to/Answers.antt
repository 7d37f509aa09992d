use Rattle.std.proofs.Common.{[], ◌∷◌, sym, subst, refl}
use Rattle.mk_io.specs.Stream.{text}
use Rattle.mk_command.specs.Commands.{command_of}
use Rattle.mk_reply.specs.declared.reply.Reply.TheVariants.{Refused}
use Rattle.mk_reply.specs.declared.refusal.Refusal.TheVariants.{Syntax}
use Rattle.mk_rules.specs.Transcript.{Standing, OfCommand, NoCommand}
use Rattle.mk_session.specs.Transcript.{AreReplied}
use Rattle.mk_session.proofs.Answering.{one_replied}
use Rattle.mk_session.proofs.Present.{allowed_at, next_at, at_next}
use Rattle.mk_tally.proofs.counting.reply_to.Goals as goal

pub returns-in-Err-clause-replied : goal.returns-in-Err-clause-replied
returns-in-Err-clause-replied c = λ start here sound.
    one_replied start c.args.market.now.standing (text c.args.line.now) NoCommand (Refused Syntax)
    (rw c.requires refl) c.in-Err.ensures.none refl

pub returns-in-Ok-clause-replied : goal.returns-in-Ok-clause-replied
returns-in-Ok-clause-replied c = λ start here sound.
    let m = c.args.market.now in
    let found = c.in-Ok.ensures.found in
    let command = command_of c.in-Ok.command in
    subst (λ (then : Standing). AreReplied start m.standing (text c.args.line.now ∷ []) then
    (c.apply.result ∷ []))
    (sym (next_at start m c.apply.new.self command c.apply.result here c.apply.ensures))
    (one_replied start m.standing (text c.args.line.now) (OfCommand command)
    c.apply.result (rw c.requires refl) found
    (allowed_at start m c.apply.new.self command c.apply.result here c.apply.ensures sound))

pub returns-in-Ok-clause-market : goal.returns-in-Ok-clause-market
returns-in-Ok-clause-market c = λ start here. at_next start c.args.market.now c.apply.new.self
    (command_of c.in-Ok.command) c.apply.result here c.apply.ensures
