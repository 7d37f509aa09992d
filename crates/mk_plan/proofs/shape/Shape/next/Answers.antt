use Rattle.std.proofs.Common.{sym, ap, length, subst, arith}
use Rattle.mk_plan.specs.Shapes.{ShapeOf, IsClique}
use Rattle.mk_plan.proofs.Shaped.{next_read, next_is_clique}
use Rattle.mk_plan.proofs.shape.Shape.next.Goals as goal

pub returns-clause-clique : goal.returns-clause-clique
returns-clause-clique c =
    let tree = c.self.inside.tree in let from = c.args.from in let to = c.args.to in
    let m = ap (λ (s : ShapeOf). length s.tree.cliques) c.self.view_is in
    let p : IsClique tree from = record { first = c.requires.from.first; last = omega (arith, m, c.requires.from.last) } in
    let q : IsClique tree to = record { first = c.requires.to.first; last = omega (arith, m, c.requires.to.last) } in
    let e = next_read (λ next. next.items) tree (length tree.cliques) c.self.inside.ways.items c.self.invariant.ways_are from to p q.first q.last c.requires.apart
    c.index.result.now c.index-2.result.now c.index.ensures c.index-2.ensures in
    subst (λ (s : ShapeOf). IsClique s.tree c.index-2.result.now) c.self.view_is (subst (IsClique tree) (sym e) (next_is_clique tree c.self.invariant.linked from p to q c.requires.apart))
