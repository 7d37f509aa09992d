use Rattle.std.proofs.Common.{ap, sym, subst, ◌∙◌, arith}
use Rattle.mk_plan.specs.Shapes.{ShapeOf, IsClique, clique_scope, core_scope}
use Rattle.mk_plan.proofs.Laid.{within_whole, read_in_whole}
use Rattle.mk_plan.proofs.shape.Shape.core_places.Goals as goal

pub index-requires : goal.index-requires
index-requires c =
    let l = within_whole _ _ _ _ _ _ _ _ _ c.self.invariant c.args.k (subst (λ (s : ShapeOf). IsClique s.tree c.args.k) (sym c.self.view_is) c.requires) in
    let ok = c.self.inside.in_whole.ok in
    omega (arith, l, ok)

pub returns : goal.returns
returns c =
    read_in_whole _ _ _ _ _ _ _ _ _ c.self.invariant c.args.k (subst (λ (s : ShapeOf). IsClique s.tree c.args.k) (sym c.self.view_is) c.requires) c.index.result.now c.index.ensures
    ∙ ap (λ (s : ShapeOf). record { whole = clique_scope s c.args.k; part = core_scope s c.args.k }) c.self.view_is
