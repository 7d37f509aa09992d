use Rattle.std.proofs.Common.{◌∙◌}
use Rattle.mk_exact.specs.History as history
use Rattle.mk_history.specs.inner.Stored.{lists_of}
use Rattle.mk_history.proofs.Rooms.{room_for_one}
use Rattle.mk_history.proofs.Added.{join_added}
use Rattle.mk_history.proofs.history.History.join.Goals as goal

pub push_reserved-requires-2 : goal.push_reserved-requires-2
push_reserved-requires-2 c =
    let h : _ = c.self.inside in
    room_for_one (lists_of h) h.changes.items h.limits _ c.self.invariant.0 h.changes.ok.0 (history.Join c.args.user) _ _ _ _ _
    (rw (← c.self.view_is) at c.requires) c.self.invariant.1

pub invariant_of-self : goal.invariant_of-self
invariant_of-self c =
    let h : _ = c.self.inside in
    let added : _ = join_added (lists_of h) h.changes.items h.limits c.self.invariant.0 c.push_reserved.new.self.items c.len-name.result
    c.args.user c.push_reserved.ensures.items (c.len-name.ensures ∙ h.names.ok.0) (rw (← c.self.view_is) at c.requires) in
    rw (c.push_reserved-2.ensures.items, c.push_reserved-2.ensures.capacity, c.push_reserved.ensures.capacity)
    (added.kept, c.self.invariant.1)

pub returns-clause-history : goal.returns-clause-history
returns-clause-history c =
    let h : _ = c.self.inside in
    let added : _ = join_added (lists_of h) h.changes.items h.limits c.self.invariant.0 c.push_reserved.new.self.items c.len-name.result
    c.args.user c.push_reserved.ensures.items (c.len-name.ensures ∙ h.names.ok.0) (rw (← c.self.view_is) at c.requires) in
    rw (c.push_reserved-2.ensures.items, ← c.self.view_is) added.same
