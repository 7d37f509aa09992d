use Rattle.std.specs.Prelude.{◌≤◌, ◌∷◌, ◌++◌, [], length}
use Rattle.std.proofs.Common.{arith}
use Rattle.std.proofs.lemmas.List.{length_push}
use Rattle.mk_net.specs.Bounds.{max_variables}
use Rattle.mk_exact.specs.History.{Resolve}
use Rattle.mk_record.proofs.Counts.{after, still_limited}
use Rattle.mk_record.proofs.journal.Journal.resolve.Goals as goal

pub invariant_of-self : goal.invariant_of-self
invariant_of-self c =
    let room : length (c.self.inside.known.items ++ c.args.pair ∷ []) ≤ max_variables =
    rw (length_push c.self.inside.known.items c.args.pair, c.self.invariant.0.known_pairs) (omega (arith, rw (← c.self.view_is) at c.requires)) in (
      rw (c.resolve.ensures.history, c.push_reserved.ensures.items)
          (after c.self.inside.accepted.history (Resolve c.args.pair) c.self.inside.limits _ _ _ _ _ _ c.self.invariant.0 (assumption (c.self.invariant.0.few, room))),
      still_limited _ _ c.self.inside.limits c.resolve.ensures.limit c.resolve.ensures.users c.resolve.ensures.transfers c.self.invariant.1,
      rw c.push_reserved.ensures.capacity c.self.invariant.2,
    )
