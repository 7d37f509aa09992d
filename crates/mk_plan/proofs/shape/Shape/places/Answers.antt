use Rattle.std.proofs.Common.{◌≡◌, ap, sym, subst, ◌∙◌, true, arith}
use Rattle.mk_plan.specs.Shapes.{ShapeOf, are_linked, core_scope, separator_between}
use Rattle.mk_plan.proofs.Laid.{within_clique, within_link, read_in_clique, read_in_link}
use Rattle.mk_plan.proofs.shape.Shape.places.Goals as goal

pub index-requires : goal.index-requires
index-requires c =
    let a = c.args.clique in let b = c.args.neighbour in
    let linked_too = subst (λ (s : ShapeOf). are_linked s.tree a b ≡ true) (sym c.self.view_is) c.requires in
    let l = within_clique _ _ _ _ _ _ _ _ _ c.self.invariant a b linked_too c.if-neighbour-clique.true in
    let ok = c.self.inside.in_cliques.ok in
    omega (arith, l, ok)

pub index-requires-else-neighbour-clique : goal.index-requires-else-neighbour-clique
index-requires-else-neighbour-clique c =
    let a = c.args.clique in let b = c.args.neighbour in
    let linked_too = subst (λ (s : ShapeOf). are_linked s.tree a b ≡ true) (sym c.self.view_is) c.requires in
    let l = within_link _ _ _ _ _ _ _ _ _ c.self.invariant a b linked_too c.if-neighbour-clique.false in
    let ok = c.self.inside.in_links.ok in
    omega (arith, l, ok)

pub returns-then-neighbour-clique : goal.returns-then-neighbour-clique
returns-then-neighbour-clique c =
    let a = c.args.clique in let b = c.args.neighbour in
    let linked_too = subst (λ (s : ShapeOf). are_linked s.tree a b ≡ true) (sym c.self.view_is) c.requires in
    read_in_clique _ _ _ _ _ _ _ _ _ c.self.invariant a b linked_too c.if-neighbour-clique.true c.index.result.now c.index.ensures
    ∙ ap (λ (s : ShapeOf). record { whole = core_scope s a; part = separator_between s a b }) c.self.view_is

pub returns-else-neighbour-clique : goal.returns-else-neighbour-clique
returns-else-neighbour-clique c =
    let a = c.args.clique in let b = c.args.neighbour in
    let linked_too = subst (λ (s : ShapeOf). are_linked s.tree a b ≡ true) (sym c.self.view_is) c.requires in
    read_in_link _ _ _ _ _ _ _ _ _ c.self.invariant a b linked_too c.if-neighbour-clique.false c.index-else-neighbour-clique.result.now c.index-else-neighbour-clique.ensures
    ∙ ap (λ (s : ShapeOf). record { whole = core_scope s a; part = separator_between s a b }) c.self.view_is
