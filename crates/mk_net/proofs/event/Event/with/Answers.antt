use Rattle.std.specs.Prelude.{◌≡◌, ℕ, suc, ◌+◌}
use Rattle.std.proofs.Common.{rules, arith, subst}
use Rattle.mk_net.specs.Events.{IsEvent}
use Rattle.mk_net.specs.inner.KeptEvents.{IsKeptEvent}
use Rattle.std.specs.Prelude.{take, slice_set}
use Rattle.mk_net.proofs.Events.{kept_longer, event_longer}
use Rattle.mk_net.proofs.event.Event.with.Goals as goal

next : (n : ℕ) → suc n ≡ n + 1
next n = omega arith

pub invariant_of-result : goal.invariant_of-result
invariant_of-result c = subst (λ (n : ℕ). IsKeptEvent (slice_set c.self.inside.pairs c.self.inside.size c.args.pair) n) (next c.self.inside.size)
    (kept_longer c.self.inside.pairs c.self.inside.size c.args.pair c.self.invariant (search (rules, arith)) (search rules))

pub returns-clause-event : goal.returns-clause-event
returns-clause-event c = subst (λ (n : ℕ). IsEvent (take n (slice_set c.self.inside.pairs c.self.inside.size c.args.pair))) (next c.self.inside.size)
    (event_longer c.self.inside.pairs c.self.inside.size c.args.pair c.self.invariant (search (rules, arith)) (search rules))
