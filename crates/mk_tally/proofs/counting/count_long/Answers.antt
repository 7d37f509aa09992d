use Rattle.std.proofs.Common.{[], ◌∷◌, refl}
use Rattle.mk_io.specs.Stream.{long}
use Rattle.mk_reply.specs.declared.reply.Reply.TheVariants.{Refused}
use Rattle.mk_reply.specs.declared.refusal.Refusal.TheVariants.{Long}
use Rattle.mk_rules.specs.Transcript.{LongLine}
use Rattle.mk_session.proofs.Answering.{one_replied}
use Rattle.mk_tally.proofs.Counted.{remembered_one}
use Rattle.mk_tally.proofs.counting.count_long.Goals as goal

pub returns-clause-counted : goal.returns-clause-counted
returns-clause-counted c = λ market now.
    record {
      replies = Refused Long ∷ [];
      replied = λ sound. one_replied market now long LongLine (Refused Long) refl tt refl;
      remembered = remembered_one (Refused Long) refl;
      counts = c.add.ensures.counts;
    }
