use Rattle.mk_exact.specs.History.{Settle}
use Rattle.std.specs.Prelude.{map}
use Rattle.mk_history.specs.Entries.{ends}
use Rattle.mk_record.proofs.Counts.{after, still_limited}
use Rattle.mk_record.proofs.journal.Journal.settle.Goals as goal

pub invariant_of-self : goal.invariant_of-self
invariant_of-self c = (
  rw c.settle.ensures.history (after c.self.inside.accepted.history (Settle (map ends c.args.payments.items)) c.self.inside.limits _ _ _ _ _ _ c.self.invariant.0 c.self.invariant.0.few),
  still_limited _ _ c.self.inside.limits c.settle.ensures.limit c.settle.ensures.users c.settle.ensures.transfers c.self.invariant.1,
  c.self.invariant.2,
)
