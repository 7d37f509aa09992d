use Rattle.std.proofs.Common.{◌-◌, [], arith, ap, length, ◌∙◌}
use Rattle.mk_plan.specs.Shapes.{ShapeOf, neighbours}
use Rattle.mk_plan.proofs.Shaped.{item_of, long_of}
use Rattle.mk_plan.proofs.shape.Shape.neighbours.Goals as goal

pub index-requires : goal.index-requires
index-requires c =
    let m = ap (λ (s : ShapeOf). length s.tree.cliques) c.self.view_is in
    let n = long_of _ (neighbours c.self.inside.tree) c.self.inside.neighbours.items 1 _ c.self.invariant.neighbours_are in
    let l = c.self.inside.neighbours.ok in
    omega (arith, n, m, c.requires.first, c.requires.last)

pub returns : goal.returns
returns c =
    let k = c.args.k in let tree = c.self.inside.tree in
    let m = ap (λ (s : ShapeOf). length s.tree.cliques) c.self.view_is in
    c.deref.ensures.value
    ∙ ap (λ v. v.items) c.index.ensures
    ∙ item_of (λ v. v.items) (neighbours tree) c.self.inside.neighbours.items 1 (length tree.cliques)
    (k - 1) k c.index.result.now [] c.self.invariant.neighbours_are (omega (arith, m, c.requires.first, c.requires.last)) (omega (arith, c.requires.first))
    ∙ ap (λ (s : ShapeOf). neighbours s.tree k) c.self.view_is
