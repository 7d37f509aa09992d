use Rattle.std.proofs.Common.{sym, ◌∙◌}
use Rattle.mk_rules.specs.Answers.{entry_of}
use Rattle.mk_known.proofs.KnownFollow.{stays_alike}
use Rattle.mk_known.proofs.following.note_size.Goals as goal

pub returns-then-not-changes_weights-clause-small :
    goal.returns-then-not-changes_weights-clause-small
returns-then-not-changes_weights-clause-small g c = λ before H command proper after next was.
    let m = c.args.market.now in
    stays_alike before m.market H m.standing.history (entry_of before H command c.args.reply.now)
    c.args.known.now.small
    (c.changes_weights.ensures c.if-not-changes_weights.true before H command) after next was

pub returns-clause-small : goal.returns-clause-small
returns-clause-small g c = λ before H command proper after next was.
    let stays = c.stays_small-small.ensures before H (entry_of before H command c.args.reply.now)
    proper after next (
      λ yes. was.0 (sym c.is_small.ensures ∙ yes),
      λ small. c.is_small.ensures ∙ was.1 small,
    ) in (
      λ yes. stays.0 (sym c.set_small.ensures.small ∙ yes),
      λ small. c.set_small.ensures.small ∙ stays.1 small,
    )
