use Rattle.mk_command.specs.Commands.{command_of}
use Rattle.mk_known.proofs.noting.note.Goals as goal

pub returns-in_ok-note_join-in-User-clause-quotes :
    goal.returns-in_ok-note_join-in-User-clause-quotes
unfolding command_of
returns-in_ok-note_join-in-User-clause-quotes g c = rw c.in-User.is (λ allowed. c.in_ok-note_join-in-User.ensures.quotes c.args.market.now.market c.args.market.now.standing.history c.in-User.user)
