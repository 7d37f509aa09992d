use Rattle.std.proofs.Common.{◌≡◌, ℕ, true, sym, ap, subst, ◌∙◌}
use Rattle.mk_plan.specs.Shapes.{ShapeOf, are_linked, next_on_way}
use Rattle.mk_tree_engine.specs.inner.Marks.{marked}
use Rattle.mk_tree_engine.specs.inner.Passes.{IsMade}
use Rattle.mk_tree_engine.proofs.Making.{made_already, made_anew}
use Rattle.mk_tree_engine.proofs.passes.make_towards.Goals as goal

pub returns-then-is_stale : goal.returns-then-is_stale
returns-then-is_stale g c =
    let old = c.args.flow.now in let up = c.args.marks.now.up.items in let down = c.args.marks.now.down.items in let k = c.args.k in let n = c.next-next.result in
    let e : n ≡ next_on_way old.shape.tree k c.args.clique = c.next-next.ensures.next ∙ ap (λ (s : ShapeOf). next_on_way s.tree k c.args.clique) c.shape.ensures in
    let linked = subst (λ (x : ℕ). are_linked old.shape.tree k x ≡ true) (sym e) c.requires.send.linked_too in
    let said = c.message.ensures in
    subst (λ (x : ℕ). IsMade g.R.Semiring.plus_of k x (marked old up down) (marked c.message.new.self c.clear.new.self.up.items c.clear.new.self.down.items)) e
    (made_anew g.R.Semiring.plus_of old up down k n c.requires.marks linked c.message.new.self said.kept said.right said.others said.counted
    (sym c.is_stale.ensures ∙ c.if-is_stale.true) c.clear.new.self.up.items c.clear.new.self.down.items c.clear.ensures.up c.clear.ensures.down)

pub returns-else-is_stale : goal.returns-else-is_stale
returns-else-is_stale g c =
    let old = c.args.flow.now in let up = c.args.marks.now.up.items in let down = c.args.marks.now.down.items in let k = c.args.k in let n = c.next-next.result in
    let e : n ≡ next_on_way old.shape.tree k c.args.clique = c.next-next.ensures.next ∙ ap (λ (s : ShapeOf). next_on_way s.tree k c.args.clique) c.shape.ensures in
    let linked = subst (λ (x : ℕ). are_linked old.shape.tree k x ≡ true) (sym e) c.requires.send.linked_too in
    subst (λ (x : ℕ). IsMade g.R.Semiring.plus_of k x (marked old up down) (marked old up down)) e
    (made_already g.R.Semiring.plus_of old up down k n c.requires.marks linked (sym c.is_stale.ensures ∙ c.if-is_stale.false))
