use Rattle.std.specs.Prelude.{map, [], ◌∷◌}
use Rattle.std.proofs.Common.{◌∙◌, ap, sym}
use Rattle.std.proofs.lemmas.List.{length-map, map-append}
use Rattle.mk_history.specs.Entries.{addition_of}
use Rattle.mk_history.specs.inner.Stored.{in_numbers}
use Rattle.mk_history.specs.declared.change.Change.TheVariants.{Add}
use Rattle.mk_exact.specs.History as history
use Rattle.mk_history.specs.inner.Stored.{lists_of}
use Rattle.mk_history.proofs.Rooms.{room_for_one}
use Rattle.mk_history.proofs.Added.{addition_added, IsAdded}
use Rattle.mk_history.proofs.history.History.add.Goals.{After-push_reserved}
use Rattle.mk_history.proofs.history.History.add.Goals as goal

pub push_reserved-requires-2 : goal.push_reserved-requires-2
push_reserved-requires-2 c =
    let h : _ = c.self.inside in
    room_for_one (lists_of h) h.changes.items h.limits _ c.self.invariant.0 h.changes.ok.0
    (history.Add (addition_of c.args.question.value)) _ _ _ _ _
    (rw (← c.self.view_is) at c.requires) c.self.invariant.1

-- the lists hold the addition behind all others
added : (c : After-push_reserved)
    → IsAdded (lists_of c.self.inside)
    (record (lists_of c.self.inside) { additions = map in_numbers c.push_reserved.new.self.items })
    c.self.inside.changes.items c.self.inside.limits (Add c.len-number.result)
    (history.Add (addition_of c.args.question.value))
added c =
    let h : _ = c.self.inside in
    let longer : _ = ap (map in_numbers) c.push_reserved.ensures.items
    ∙ map-append in_numbers h.questions.items (c.args.question ∷ []) in
    let size : _ = length-map h.questions.items in_numbers in
    let last : _ = c.len-number.ensures ∙ (h.questions.ok.0 ∙ sym size) in
    addition_added (lists_of h) h.changes.items h.limits c.self.invariant.0
    (map in_numbers c.push_reserved.new.self.items) c.len-number.result
    (addition_of c.args.question.value) longer last (rw (← c.self.view_is) at c.requires)

pub invariant_of-self : goal.invariant_of-self
invariant_of-self c =
    rw (c.push_reserved-2.ensures.items, c.push_reserved-2.ensures.capacity, c.push_reserved.ensures.capacity)
    ((added (goal.at.invariant_of-self c).After-push_reserved).kept, c.self.invariant.1)

pub returns-clause-history : goal.returns-clause-history
returns-clause-history c =
    rw (c.push_reserved-2.ensures.items, ← c.self.view_is)
    (added (goal.at.returns-clause-history c).After-push_reserved).same
