use Rattle.std.specs.Prelude.{◌+◌, ◌≤◌}
use Rattle.std.proofs.Common.{arith}
use Rattle.mk_history.specs.Histories.{max_additions}
use Rattle.mk_exact.specs.History.{Add}
use Rattle.mk_history.specs.Entries.{addition_of}
use Rattle.mk_record.proofs.Counts.{after, still_limited}
use Rattle.mk_record.proofs.journal.Journal.add.Goals as goal

pub invariant_of-self : goal.invariant_of-self
invariant_of-self c =
    let room : c.self.inside.added + 1 ≤ max_additions = omega (arith, c.self.invariant.0.additions_made, rw (← c.self.view_is) at c.requires) in (
      rw c.add.ensures.history (after c.self.inside.accepted.history (Add (addition_of c.args.question.value)) c.self.inside.limits _ _ _ _ _ _ c.self.invariant.0 (assumption (c.self.invariant.0.few, room))),
      still_limited _ _ c.self.inside.limits c.add.ensures.limit c.add.ensures.users c.add.ensures.transfers c.self.invariant.1,
      c.self.invariant.2,
    )
