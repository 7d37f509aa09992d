use Rattle.std.proofs.Common.{◌≡◌, ℕ, ◌+◌, ◌<◌, Bool, length, true, false, sym, ap, subst, ◌∙◌, arith}
use Rattle.mk_plan.specs.Shapes.{ShapeOf, IsClique}
use Rattle.mk_propagate.specs.Flows.{FlowOf}
use Rattle.mk_tree_engine.specs.declared.marks.Marks.{Marks}
use Rattle.mk_tree_engine.specs.inner.Marks.{marked}
use Rattle.mk_tree_engine.specs.inner.Passes.{AreCollected, goes_down, passed_down}
use Rattle.mk_tree_engine.proofs.Steps.{down_start, turn_sends, turn_step, turn_stay, turn_clique, turn_k}
use Rattle.mk_tree_engine.specs.Engines.{MarkedFlow}
use Rattle.mk_tree_engine.proofs.passes.collect_down.Given.{Over}
use Rattle.mk_tree_engine.proofs.passes.collect_down.Goals as goal
use Rattle.mk_tree_engine.proofs.passes.collect_down.Goals.{After-shape-in-loop-passed, then-goes_down, else-goes_down}

pub loop-passed-init : goal.loop-passed-init
loop-passed-init g c = λ old could upward.
    down_start g.R.Semiring.plus_of c.args.clique old (marked c.args.flow.now c.args.marks.now.up.items c.args.marks.now.down.items) could upward

-- a turn is within the tree
within : (shape of : ShapeOf) (cliques passed : ℕ) → of ≡ shape → cliques ≡ length of.tree.cliques → passed < cliques → passed < length shape.tree.cliques
within shape of cliques passed e f l = let m = ap (λ (s : ShapeOf). length s.tree.cliques) e in omega (arith, m, f, l)

-- the engine at its first turn and at this one, and the cliques of this turn
module _ (g : Over) (c : After-shape-in-loop-passed g) where
  abbrev first : MarkedFlow
  first = marked c.args.flow.now c.args.marks.now.up.items c.args.marks.now.down.items

  abbrev mid : MarkedFlow
  mid = marked c.loop-passed.flow c.loop-passed.marks.up.items c.loop-passed.marks.down.items

  passes : c.loop-passed.passed < length c.args.flow.now.shape.tree.cliques
  passes = within c.args.flow.now.shape c.shape.result.now c.cliques-cliques.result
      c.loop-passed.passed c.shape.ensures c.cliques-cliques.ensures.count c.loop-passed-test.true

  so_far : AreCollected g.R.Semiring.plus_of c.args.clique
      (passed_down c.args.flow.now.shape.tree c.args.clique c.loop-passed.passed) c.requires.old mid
  so_far = c.loop-passed.invariant c.requires.old c.requires.could c.requires.collected

  clique_there : IsClique c.loop-passed.flow.shape.tree c.args.clique
  clique_there = turn_clique g.R.Semiring.plus_of c.args.clique c.requires.old first
      c.requires.could c.requires.collected mid c.loop-passed.passed passes so_far

  k_there : IsClique c.loop-passed.flow.shape.tree (c.loop-passed.passed + 1)
  k_there = turn_k g.R.Semiring.plus_of c.args.clique c.requires.old first c.requires.could
      c.requires.collected mid c.loop-passed.passed passes so_far

pub goes_down-requires-clause-clique : goal.goes_down-requires-clause-clique
goes_down-requires-clause-clique g c =
    subst (λ (s : ShapeOf). IsClique s.tree c.args.clique) (sym c.shape-in-loop-passed.ensures)
    (clique_there g (goal.at.goes_down-requires-clause-clique g c).After-shape-in-loop-passed)

pub goes_down-requires-clause-k : goal.goes_down-requires-clause-k
goes_down-requires-clause-k g c =
    subst (λ (s : ShapeOf). IsClique s.tree (c.loop-passed.passed + 1)) (sym c.shape-in-loop-passed.ensures)
    (k_there g (goal.at.goes_down-requires-clause-k g c).After-shape-in-loop-passed)

pub make_towards-requires-clause-marks : goal.make_towards-requires-clause-marks
make_towards-requires-clause-marks g c = (c.loop-passed.invariant c.requires.old c.requires.could c.requires.collected).marks_of

pub make_towards-requires-clause-k : goal.make_towards-requires-clause-k
make_towards-requires-clause-k g c = k_there g
    (goal.at.make_towards-requires-clause-k g c).After-shape-in-loop-passed

pub make_towards-requires-clause-clique : goal.make_towards-requires-clause-clique
make_towards-requires-clause-clique g c = clique_there g
    (goal.at.make_towards-requires-clause-clique g c).After-shape-in-loop-passed

pub make_towards-requires-clause-send : goal.make_towards-requires-clause-send
make_towards-requires-clause-send g c =
    let s = (goal.at.make_towards-requires-clause-send g c).After-shape-in-loop-passed in
    let down : goes_down c.loop-passed.flow.shape.tree c.args.clique (c.loop-passed.passed + 1) ≡ true =
    subst (λ (s : ShapeOf). goes_down s.tree c.args.clique (c.loop-passed.passed + 1) ≡ true) c.shape-in-loop-passed.ensures (sym c.goes_down.ensures ∙ c.if-goes_down.true) in
    turn_sends g.R.Semiring.plus_of c.args.clique c.requires.old (first g s) c.requires.could
    c.requires.collected (mid g s) c.loop-passed.passed (passes g s) (so_far g s) down

pub loop-passed-preserved : goal.loop-passed-preserved
loop-passed-preserved g c = λ old could upward.
    let plus = g.R.Semiring.plus_of in let clique = c.args.clique in let tree = c.args.flow.now.shape.tree in let passed = c.loop-passed.passed in
    let first = marked c.args.flow.now c.args.marks.now.up.items c.args.marks.now.down.items in
    let mid = marked c.loop-passed.flow c.loop-passed.marks.up.items c.loop-passed.marks.down.items in
    let l = within c.args.flow.now.shape c.shape.result.now c.cliques-cliques.result passed c.shape.ensures c.cliques-cliques.ensures.count c.loop-passed-test.true in
    let down : (b : Bool) → c.goes_down.result ≡ b → goes_down c.loop-passed.flow.shape.tree clique (passed + 1) ≡ b =
    λ b t. subst (λ (s : ShapeOf). goes_down s.tree clique (passed + 1) ≡ b) c.shape-in-loop-passed.ensures (sym c.goes_down.ensures ∙ t) in
    elim c.if-goes_down.branch [
      | then-goes_down w ↦
          subst (λ (m : Marks). AreCollected plus clique (passed_down tree clique (passed + 1)) old (marked c.if-goes_down.flow m.up.items m.down.items)) (sym w.marks-is)
          (subst (λ (f : FlowOf). AreCollected plus clique (passed_down tree clique (passed + 1)) old (marked f w.make_towards.new.marks.up.items w.make_towards.new.marks.down.items)) (sym w.flow-is)
          (turn_step plus clique old first could upward mid passed l (c.loop-passed.invariant old could upward) (down true w.if-goes_down.true)
          (marked w.make_towards.new.flow w.make_towards.new.marks.up.items w.make_towards.new.marks.down.items) w.make_towards.ensures))
      | else-goes_down w ↦
          subst (λ (m : Marks). AreCollected plus clique (passed_down tree clique (passed + 1)) old (marked c.if-goes_down.flow m.up.items m.down.items)) (sym w.marks-is)
          (subst (λ (f : FlowOf). AreCollected plus clique (passed_down tree clique (passed + 1)) old (marked f c.loop-passed.marks.up.items c.loop-passed.marks.down.items)) (sym w.flow-is)
          (turn_stay plus clique old first could upward mid passed l (c.loop-passed.invariant old could upward) (down false w.if-goes_down.false)))
    ]

pub returns : goal.returns
returns g c = λ old could upward.
    let m = ap (λ (s : ShapeOf). length s.tree.cliques) c.shape.ensures in
    let e : c.loop-passed.passed ≡ length c.args.flow.now.shape.tree.cliques = omega (arith, m, c.cliques-cliques.ensures.count, c.loop-passed-test.false, c.loop-passed.auto.passed-end) in
    subst (λ (n : ℕ). AreCollected g.R.Semiring.plus_of c.args.clique (passed_down c.args.flow.now.shape.tree c.args.clique n) old
    (marked c.loop-passed.flow c.loop-passed.marks.up.items c.loop-passed.marks.down.items)) e (c.loop-passed.invariant old could upward)
