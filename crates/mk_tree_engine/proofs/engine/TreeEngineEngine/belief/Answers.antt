use Rattle.std.proofs.Common.{◌≡◌, sym, ap, subst, ◌∙◌, arith}
use Rattle.mk_engine.specs.Meaning.{Meaning}
use Rattle.mk_plan.specs.Shapes.{ShapeOf, IsClique}
use Rattle.mk_propagate.specs.Flows.{counted_on}
use Rattle.mk_tree_engine.specs.Engines.{MarkedFlow, HasTree, ClearsTowards, stale_number}
use Rattle.mk_tree_engine.specs.inner.Marks.{marked, IsMarked}
use Rattle.mk_tree_engine.specs.inner.Passes.{IsCount}
use Rattle.mk_tree_engine.proofs.Families.{clique_of}
use Rattle.mk_tree_engine.proofs.Placed.{stands_old, still_stands}
use Rattle.mk_tree_engine.proofs.Believing.{held_in, can_collect, is_marked, kept_tree, clears, counts, can_read, IsRead, is_read}
use Rattle.mk_tree_engine.proofs.engine.TreeEngineEngine.belief.Given.{Over}
use Rattle.mk_tree_engine.proofs.engine.TreeEngineEngine.belief.Goals.{After-read}
use Rattle.mk_tree_engine.proofs.engine.TreeEngineEngine.belief.Goals as goal

pub collect-requires-clause-could : goal.collect-requires-clause-could
collect-requires-clause-could g c =
    let a = c.requires.range in let inside = c.self.inside in let k = c.args.at in let event =
    c.args.event.now in
    let old = marked inside.flow inside.marks.up.items inside.marks.down.items in
    can_collect g.R.Semiring.plus_of old c.self.invariant.marks_of a.meaning
    (stands_old g.R.Semiring.plus_of old c.args.self.now a.meaning c.self.view_is a.stands) k
    (clique_of inside.flow.shape.tree k event
    (held_in old c.args.self.now k event c.self.view_is c.requires.held))

pub read-requires : goal.read-requires
read-requires g c =
    let plus = g.R.Semiring.plus_of in let a = c.requires.range in let inside = c.self.inside in
    let old = marked inside.flow inside.marks.up.items inside.marks.down.items in
    let held = held_in old c.args.self.now c.args.at c.args.event.now c.self.view_is
    c.requires.held in
    can_read plus old c.self.invariant.marks_of c.args.at
    (clique_of inside.flow.shape.tree c.args.at c.args.event.now held)
    (marked c.collect.new.flow c.collect.new.marks.up.items c.collect.new.marks.down.items)
    c.collect.ensures.made a.meaning
    (stands_old plus old c.args.self.now a.meaning c.self.view_is a.stands) c.args.event.now
    held.held

-- the engine by its parts, and what both passes made of it
module _ (g : Over) (c : After-read g) where
  abbrev old : MarkedFlow
  old = marked c.self.inside.flow c.self.inside.marks.up.items c.self.inside.marks.down.items

  abbrev last : MarkedFlow
  last = marked c.collect.new.flow c.collect.new.marks.up.items c.collect.new.marks.down.items

  at_k : IsClique old.flow.shape.tree c.args.at
  at_k = clique_of old.flow.shape.tree c.args.at c.args.event.now
      (held_in old c.args.self.now c.args.at c.args.event.now c.self.view_is c.requires.held)

  stood : (m : Meaning) → HasTree g.R.Semiring.plus_of c.args.self.now m
      → HasTree g.R.Semiring.plus_of old m
  stood m stands = stands_old g.R.Semiring.plus_of old c.args.self.now m c.self.view_is stands

  reading : (m : Meaning) → HasTree g.R.Semiring.plus_of c.args.self.now m
      → IsRead g.R.Semiring.encloses g.R.Semiring.has_grade g.R.Semiring.is_exact
      g.R.Semiring.plus_of m c.args.at c.args.event.now c.read.result
  reading m stands =
      let R = g.R.Semiring in
      is_read R.plus_of old c.self.invariant.marks_of c.args.at at_k last c.collect.ensures.made
      R.encloses R.has_grade R.is_exact g.met.R.Semiring.grade_more c.args.event.now c.read.result
      c.read.ensures.reading m (stood m stands)

pub invariant_of-self : goal.invariant_of-self
invariant_of-self g c =
    let s = (goal.at.invariant_of-self g c).After-read in
    subst (λ (s : ShapeOf). IsMarked s.tree c.collect.new.marks.up.items c.collect.new.marks.down.items c.collect.new.marks.collected) (sym c.read.ensures.kept.same_shape)
    (is_marked g.R.Semiring.plus_of (old g s) c.self.invariant.marks_of c.args.at (at_k g s)
    (last g s) c.collect.ensures.made c.collect.new.marks.collected
    c.collect.ensures.collected)

pub returns-clause-kept : goal.returns-clause-kept
returns-clause-kept g c = λ m stands.
    let plus = g.R.Semiring.plus_of in let s = (goal.at.returns-clause-kept g c).After-read in
    still_stands plus c.collect.new.flow c.read.new.self c.collect.new.marks.up.items c.collect.new.marks.down.items m c.read.ensures.kept c.read.ensures.still
    (kept_tree plus (old g s) c.self.invariant.marks_of c.args.at (at_k g s) (last g s)
    c.collect.ensures.made m (stood g s m stands))

pub returns-clause-apart : goal.returns-clause-apart
returns-clause-apart g c = λ m stands.
    (reading g (goal.at.returns-clause-apart g c).After-read m stands).apart

pub returns-clause-belief : goal.returns-clause-belief
returns-clause-belief g c = λ m stands.
    (reading g (goal.at.returns-clause-belief g c).After-read m stands).belief

pub returns-clause-graded : goal.returns-clause-graded
returns-clause-graded g c = λ m stands.
    (reading g (goal.at.returns-clause-graded g c).After-read m stands).graded

pub returns-clause-sharp : goal.returns-clause-sharp
returns-clause-sharp g c = λ m stands.
    (reading g (goal.at.returns-clause-sharp g c).After-read m stands).sharp

pub returns-clause-shape : goal.returns-clause-shape
returns-clause-shape g c = c.read.ensures.kept.same_shape ∙ c.collect.ensures.made.kept.same_shape ∙ ap (λ (e : MarkedFlow). e.flow.shape) c.self.view_is

pub returns-clause-counted : goal.returns-clause-counted
returns-clause-counted g c =
    let s = (goal.at.returns-clause-counted g c).After-read in
    let few : IsCount c.self.inside.flow.computed = omega
    (arith, c.computed.ensures, c.computed.type_inv) in
    subst (λ (o : MarkedFlow). c.read.new.self.computed ≡ counted_on o.flow.computed
    (stale_number o c.args.at)) c.self.view_is
    (c.read.ensures.kept.same_count ∙ counts g.R.Semiring.plus_of (old g s)
    c.self.invariant.marks_of c.args.at (at_k g s) (last g s) c.collect.ensures.made few)

pub returns-clause-marks : goal.returns-clause-marks
returns-clause-marks g c =
    let s = (goal.at.returns-clause-marks g c).After-read in
    subst (λ (o : MarkedFlow). ClearsTowards o
    (marked c.read.new.self c.collect.new.marks.up.items c.collect.new.marks.down.items)
    c.args.at) c.self.view_is
    (clears g.R.Semiring.plus_of (old g s) c.self.invariant.marks_of c.args.at (at_k g s) (last g s)
    c.collect.ensures.made)
