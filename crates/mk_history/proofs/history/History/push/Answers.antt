use Rattle.mk_history.specs.inner.Kept.{alone}
use Rattle.mk_history.specs.inner.Stored.{lists_of}
use Rattle.mk_history.proofs.Rooms.{room_for_one}
use Rattle.mk_history.proofs.Added.{place_alone, alone_added, IsAdded}
use Rattle.mk_history.proofs.history.History.push.Goals.{After-push_reserved}
use Rattle.mk_history.proofs.history.History.push.Goals as goal

pub push_reserved-requires : goal.push_reserved-requires
push_reserved-requires c =
    let h : _ = c.self.inside in
    let place : _ = place_alone (lists_of h) h.changes.items h.limits c.self.invariant.0
    c.args.change (rw (← c.self.view_is) at c.requires) in
    room_for_one (lists_of h) h.changes.items h.limits _ c.self.invariant.0 h.changes.ok.0
    (alone c.args.change) _ _ _ _ _ place c.self.invariant.1

added : (c : After-push_reserved)
    → IsAdded (lists_of c.self.inside) (lists_of c.self.inside) c.self.inside.changes.items
    c.self.inside.limits c.args.change (alone c.args.change)
added c =
    let h : _ = c.self.inside in
    alone_added (lists_of h) h.changes.items h.limits c.self.invariant.0 c.args.change
    (rw (← c.self.view_is) at c.requires)

pub invariant_of-self : goal.invariant_of-self
invariant_of-self c =
    rw (c.push_reserved.ensures.items, c.push_reserved.ensures.capacity)
    ((added (goal.at.invariant_of-self c).After-push_reserved).kept, c.self.invariant.1)

pub returns-clause-history : goal.returns-clause-history
returns-clause-history c =
    rw (c.push_reserved.ensures.items, ← c.self.view_is)
    (added (goal.at.returns-clause-history c).After-push_reserved).same
