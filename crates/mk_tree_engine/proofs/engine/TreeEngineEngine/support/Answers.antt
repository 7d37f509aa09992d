use Rattle.std.proofs.Common.{◌≡◌, ap, ◌∙◌}
use Rattle.mk_engine.specs.Meaning.{SupportOf}
use Rattle.mk_plan.specs.Shapes.{ShapeOf}
use Rattle.mk_tree_engine.specs.Engines.{placing_of, factor_home}
use Rattle.mk_tree_engine.specs.inner.Marks.{marked}
use Rattle.mk_tree_engine.proofs.Changed.{tree_of, can_weigh, home_of, home_seen, IsChanged, is_changed, away_from, stands_with_factor}
use Rattle.mk_tree_engine.proofs.engine.TreeEngineEngine.support.Given.{Over}
use Rattle.mk_tree_engine.proofs.engine.TreeEngineEngine.support.Goals.{After-tree, After-mark_away}
use Rattle.mk_tree_engine.proofs.engine.TreeEngineEngine.support.Goals as goal

-- the tree that is read is the engine's
read : (g : Over) (c : After-tree g) → c.tree.result.now ≡ c.self.inside.flow.shape.tree
read g c = c.tree.ensures ∙ ap (λ (s : ShapeOf). s.tree) c.shape.ensures

-- what it makes of the engine
changed : (g : Over) (c : After-mark_away g)
    → IsChanged c.self.inside.flow c.self.inside.marks c.args.self.now c.times_support.new.self
    c.mark_away.new.self c.family_home-clique.result
changed g c =
    is_changed c.shape-2.ensures c.self.view_is c.self.invariant c.times_support.ensures.kept
    c.mark_away.ensures.up c.mark_away.ensures.down c.mark_away.ensures.collected

pub family_home-clique-requires-clause-tree : goal.family_home-clique-requires-clause-tree
family_home-clique-requires-clause-tree g c =
    let a = c.requires in let inside = c.self.inside in
    tree_of g.R.Semiring.plus_of (marked inside.flow inside.marks.up.items inside.marks.down.items)
    c.args.self.now c.self.view_is a.meaning a.stands c.args.net.now a.of_network
    c.tree.result.now (read g (goal.at.family_home-clique-requires-clause-tree g c).After-tree)

pub times_support-requires : goal.times_support-requires
times_support-requires g c =
    let a = c.requires in let inside = c.self.inside in let home = c.family_home-clique.ensures in
    can_weigh g.R.Semiring.plus_of (marked inside.flow inside.marks.up.items
    inside.marks.down.items) c.args.self.now c.self.view_is a.meaning a.stands c.args.net.now
    a.of_network
    c.tree.result.now (read g (goal.at.times_support-requires g c).After-tree) a.room
    c.family_home-clique.result (SupportOf c.args.variable) home.clique (a.in_range, home.fits)

pub invariant_of-self : goal.invariant_of-self
invariant_of-self g c = (changed g (goal.at.invariant_of-self g c).After-mark_away).is_marked

pub returns-clause-stands : goal.returns-clause-stands
returns-clause-stands g c = λ m stands e.
    let at = goal.at.returns-clause-stands g c in let plus = g.R.Semiring.plus_of in let inside =
    c.self.inside in
    stands_with_factor (changed g at.After-mark_away) plus m stands (SupportOf c.args.variable)
    (home_of plus (marked inside.flow inside.marks.up.items inside.marks.down.items) c.args.self.now
    c.self.view_is m stands c.args.net.now e
    c.tree.result.now (read g at.After-tree) c.family_home-clique.result (SupportOf c.args.variable)
    c.family_home-clique.ensures.home)
    (λ has. c.times_support.ensures.places (placing_of m) has e)

pub returns-clause-marks : goal.returns-clause-marks
returns-clause-marks g c =
    let at = goal.at.returns-clause-marks g c in let inside = c.self.inside in
    away_from (changed g at.After-mark_away)
    (factor_home c.args.net.now c.args.self.now.flow.shape.tree (SupportOf c.args.variable))
    (home_seen (marked inside.flow inside.marks.up.items inside.marks.down.items) c.args.self.now
    c.self.view_is c.args.net.now
    c.tree.result.now (read g at.After-tree) c.family_home-clique.result (SupportOf c.args.variable)
    c.family_home-clique.ensures.home)
