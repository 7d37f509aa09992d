use Rattle.std.specs.Prelude.{◌+◌, ◌≤◌}
use Rattle.std.proofs.Common.{arith}
use Rattle.mk_exact.specs.History.{Join}
use Rattle.mk_record.proofs.Counts.{after, still_limited}
use Rattle.mk_record.proofs.journal.Journal.join.Goals as goal

pub invariant_of-self : goal.invariant_of-self
invariant_of-self c =
    let room : c.self.inside.joined + 1 ≤ c.self.inside.limits.users = omega (arith, c.self.invariant.0.users_joined, rw (← c.self.view_is) at c.requires) in (
      rw c.join.ensures.history (after c.self.inside.accepted.history (Join c.args.user) c.self.inside.limits _ _ _ _ _ _ c.self.invariant.0 (assumption (c.self.invariant.0.few, room))),
      still_limited _ _ c.self.inside.limits c.join.ensures.limit c.join.ensures.users c.join.ensures.transfers c.self.invariant.1,
      c.self.invariant.2,
    )
