use Rattle.std.proofs.Common.{◌≡◌, ℕ, ◌+◌, ◌-◌, ◌<◌, Bool, length, true, false, sym, ap, subst, ◌∙◌, arith}
use Rattle.mk_plan.specs.Shapes.{ShapeOf, IsClique}
use Rattle.mk_propagate.specs.Flows.{FlowOf}
use Rattle.mk_tree_engine.specs.declared.marks.Marks.{Marks}
use Rattle.mk_tree_engine.specs.inner.Marks.{marked}
use Rattle.mk_tree_engine.specs.inner.Passes.{AreCollected, goes_up, passed_up}
use Rattle.mk_tree_engine.proofs.Steps.{up_begins, up_sends, up_step, up_stay}
use Rattle.mk_tree_engine.proofs.passes.collect_up.Goals as goal
use Rattle.mk_tree_engine.proofs.passes.collect_up.Goals.{then-goes_up, else-goes_up}

-- the clique of a turn is one of the tree's
clique_of : (shape of : ShapeOf) (cliques passed : ℕ) → of ≡ shape → cliques ≡ length of.tree.cliques → passed < cliques → IsClique shape.tree (cliques - passed)
clique_of shape of cliques passed e f l = let m = ap (λ (s : ShapeOf). length s.tree.cliques) e in record { first = omega arith; last = omega (arith, m, f) }

pub make_towards-requires-clause-send : goal.make_towards-requires-clause-send
make_towards-requires-clause-send g c =
    let old = marked c.args.flow.now c.args.marks.now.up.items c.args.marks.now.down.items in
    let mid = marked c.loop-passed.flow c.loop-passed.marks.up.items c.loop-passed.marks.down.items in
    let k = c.cliques-cliques.result - c.loop-passed.passed in
    let at_k = clique_of c.args.flow.now.shape c.shape.result.now c.cliques-cliques.result c.loop-passed.passed c.shape.ensures c.cliques-cliques.ensures.count c.loop-passed-test.true in
    let up : goes_up c.loop-passed.flow.shape.tree c.args.clique k ≡ true =
    subst (λ (s : ShapeOf). goes_up s.tree c.args.clique k ≡ true) c.shape-in-loop-passed.ensures (sym c.goes_up.ensures ∙ c.if-goes_up.true) in
    up_sends g.R.Semiring.plus_of c.args.clique old c.requires mid k at_k c.loop-passed.invariant up

pub loop-passed-preserved : goal.loop-passed-preserved
loop-passed-preserved g c =
    let plus = g.R.Semiring.plus_of in let clique = c.args.clique in let tree = c.args.flow.now.shape.tree in
    let old = marked c.args.flow.now c.args.marks.now.up.items c.args.marks.now.down.items in
    let mid = marked c.loop-passed.flow c.loop-passed.marks.up.items c.loop-passed.marks.down.items in
    let k = c.cliques-cliques.result - c.loop-passed.passed in
    let at_k = clique_of c.args.flow.now.shape c.shape.result.now c.cliques-cliques.result c.loop-passed.passed c.shape.ensures c.cliques-cliques.ensures.count c.loop-passed-test.true in
    let left = c.cliques-cliques.result - (c.loop-passed.passed + 1) in
    let e : k - 1 ≡ left = omega arith in
    let up : (b : Bool) → c.goes_up.result ≡ b → goes_up c.loop-passed.flow.shape.tree clique k ≡ b =
    λ b t. subst (λ (s : ShapeOf). goes_up s.tree clique k ≡ b) c.shape-in-loop-passed.ensures (sym c.goes_up.ensures ∙ t) in
    elim c.if-goes_up.branch [
      | then-goes_up w ↦
          subst (λ (m : Marks). AreCollected plus clique (passed_up tree clique left) old (marked c.if-goes_up.flow m.up.items m.down.items)) (sym w.marks-is)
          (subst (λ (f : FlowOf). AreCollected plus clique (passed_up tree clique left) old (marked f w.make_towards.new.marks.up.items w.make_towards.new.marks.down.items)) (sym w.flow-is)
          (subst (λ (n : ℕ). AreCollected plus clique (passed_up tree clique n) old (marked w.make_towards.new.flow w.make_towards.new.marks.up.items w.make_towards.new.marks.down.items)) e
          (up_step plus clique old c.requires mid k at_k c.loop-passed.invariant (up true w.if-goes_up.true)
          (marked w.make_towards.new.flow w.make_towards.new.marks.up.items w.make_towards.new.marks.down.items) w.make_towards.ensures)))
      | else-goes_up w ↦
          subst (λ (m : Marks). AreCollected plus clique (passed_up tree clique left) old (marked c.if-goes_up.flow m.up.items m.down.items)) (sym w.marks-is)
          (subst (λ (f : FlowOf). AreCollected plus clique (passed_up tree clique left) old (marked f c.loop-passed.marks.up.items c.loop-passed.marks.down.items)) (sym w.flow-is)
          (subst (λ (n : ℕ). AreCollected plus clique (passed_up tree clique n) old mid) e
          (up_stay plus clique old c.requires mid k at_k c.loop-passed.invariant (up false w.if-goes_up.false))))
    ]

pub loop-passed-init : goal.loop-passed-init
loop-passed-init g c =
    let old = marked c.args.flow.now c.args.marks.now.up.items c.args.marks.now.down.items in
    let m = ap (λ (s : ShapeOf). length s.tree.cliques) c.shape.ensures in
    up_begins g.R.Semiring.plus_of c.args.clique old c.requires (c.cliques-cliques.result - 0) (omega (arith, m, c.cliques-cliques.ensures.count))

pub returns : goal.returns
returns g c =
    let old = marked c.args.flow.now c.args.marks.now.up.items c.args.marks.now.down.items in
    let e : c.cliques-cliques.result - c.loop-passed.passed ≡ 0 = omega (arith, c.loop-passed-test.false) in
    subst (λ (n : ℕ). AreCollected g.R.Semiring.plus_of c.args.clique (passed_up c.args.flow.now.shape.tree c.args.clique n) old
    (marked c.loop-passed.flow c.loop-passed.marks.up.items c.loop-passed.marks.down.items)) e c.loop-passed.invariant
