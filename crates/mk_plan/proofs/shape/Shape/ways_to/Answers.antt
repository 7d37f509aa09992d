use Rattle.std.proofs.Common.{length, sym, ap, subst, arith}
use Rattle.mk_plan.specs.Shapes.{ShapeOf, AreNextTo}
use Rattle.mk_plan.proofs.Shaped.{way_of, ways_long}
use Rattle.mk_plan.proofs.shape.Shape.ways_to.Goals as goal

pub index-requires : goal.index-requires
index-requires c =
    let m = ap (λ (s : ShapeOf). length s.tree.cliques) c.self.view_is in
    let n = ways_long (λ next. next.items) c.self.inside.tree (length c.self.inside.tree.cliques) c.self.inside.ways.items c.self.invariant.ways_are in
    omega (arith, n, m, c.requires.first, c.requires.last)

pub returns : goal.returns
returns c =
    let tree = c.self.inside.tree in let to = c.args.to in
    let m = ap (λ (s : ShapeOf). length s.tree.cliques) c.self.view_is in
    let way = way_of (λ next. next.items) tree (length tree.cliques) c.self.inside.ways.items c.self.invariant.ways_are to c.requires.first (omega (arith, m, c.requires.last)) c.index.result.now c.index.ensures in
    subst (λ (s : ShapeOf). AreNextTo s.tree to (length s.tree.cliques) c.deref.result.now) c.self.view_is
    (subst (AreNextTo tree to (length tree.cliques)) (sym c.deref.ensures.value) way)
