use Rattle.std.proofs.Common.{◌∙◌}
use Rattle.mk_command.specs.Commands.{command_of}
use Rattle.mk_known.proofs.KnownFollow.{known_next}
use Rattle.mk_known.proofs.following.follow.Goals as goal

pub returns-clause-market : goal.returns-clause-market
returns-clause-market g c = λ allowed.
    c.in_ok-take_back.ensures.market c.args.known.now.quotes allowed

pub returns-clause-next : goal.returns-clause-next
returns-clause-next g c = λ allowed.
    let quotes = c.args.known.now.quotes in
    let after = c.in_ok-take_back.ensures.market quotes allowed in
    let next = c.in_ok-take_back.ensures.next quotes allowed in
    let noted = c.note_size.ensures.quotes ∙ c.in_ok-note.ensures.quotes allowed in (
      next,
      noted,
      known_next c.args.market.now.market c.take_back.new.market.market
          c.args.market.now.standing.history c.take_back.new.market.standing.history
          c.args.known.now c.note_size.new.known (command_of c.args.command.now) c.args.reply.now
          c.note.new.known.small c.history.ensures.safe.proper c.requires.known after next noted
          c.in_ok-note.ensures.small c.note_size.ensures.small,
    )
