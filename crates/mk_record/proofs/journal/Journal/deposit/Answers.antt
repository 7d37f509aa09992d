use Rattle.std.specs.Prelude.{◌+◌, ◌≤◌}
use Rattle.std.proofs.Common.{arith}
use Rattle.mk_exact.specs.History.{Deposit}
use Rattle.mk_record.proofs.Counts.{after, still_limited}
use Rattle.mk_record.proofs.journal.Journal.deposit.Goals as goal

pub invariant_of-self : goal.invariant_of-self
invariant_of-self c =
    let room : c.self.inside.transfers + 1 ≤ c.self.inside.limits.transfers = omega (arith, c.self.invariant.0.transfers_made, rw (← c.self.view_is) at c.requires) in (
      rw c.deposit.ensures.history (after c.self.inside.accepted.history (Deposit c.args.user c.args.bits) c.self.inside.limits _ _ _ _ _ _ c.self.invariant.0 (assumption (c.self.invariant.0.few, room))),
      still_limited _ _ c.self.inside.limits c.deposit.ensures.limit c.deposit.ensures.users c.deposit.ensures.transfers c.self.invariant.1,
      c.self.invariant.2,
    )
