use Rattle.std.proofs.Common.{◌≡◌, [], ◌∷◌, true, Some, refl, subst}
use Rattle.std.proofs.lemmas.Bool.{and_parts}
use Rattle.mk_sets.specs.Sets.{is_member}
use Rattle.mk_tree.specs.Given.{GivenTree, home, clique_at}
use Rattle.mk_engine.specs.Meaning.{with_known}
use Rattle.mk_propagate.specs.Placings.{with_pair_in}
use Rattle.mk_tree_engine.specs.Engines.{placing_of}
use Rattle.mk_tree_engine.specs.inner.Marks.{marked}
use Rattle.mk_tree_engine.proofs.Families.{clique_of, pair_place}
use Rattle.mk_tree_engine.proofs.Placed.{pair_placed, stands_old}
use Rattle.mk_tree_engine.proofs.Changed.{held_at_home, IsChanged, is_changed, away_from, stands_with}
use Rattle.mk_tree_engine.proofs.engine.TreeEngineEngine.know.Given.{Over}
use Rattle.mk_tree_engine.proofs.engine.TreeEngineEngine.know.Goals.{After-mark_away}
use Rattle.mk_tree_engine.proofs.engine.TreeEngineEngine.know.Goals as goal

-- what it makes of the engine
changed : (g : Over) (c : After-mark_away g)
    → IsChanged c.self.inside.flow c.self.inside.marks c.args.self.now c.restrict.new.self
    c.mark_away.new.self c.args.clique
changed g c =
    is_changed c.shape.ensures c.self.view_is c.self.invariant c.restrict.ensures.kept
    c.mark_away.ensures.up c.mark_away.ensures.down c.mark_away.ensures.collected

pub restrict-requires : goal.restrict-requires
restrict-requires g c =
    let a = c.requires.range in let pair = c.args.pair in let inside = c.self.inside in let tree =
    inside.flow.shape.tree in
    let old = marked inside.flow inside.marks.up.items inside.marks.down.items in
    let holds = held_at_home old c.args.self.now c.self.view_is (pair ∷ []) c.args.clique
    c.requires.home in (
      placing_of a.meaning,
      (stands_old g.R.Semiring.plus_of old c.args.self.now a.meaning c.self.view_is
          a.stands).placed,
      record {
        clique_is = clique_of tree c.args.clique (pair ∷ []) holds;
        in_range = a.in_range;
        holds_it = (and_parts (is_member (clique_at tree c.args.clique) pair.variable) true
            holds.held).0;
      },
    )

pub invariant_of-self : goal.invariant_of-self
invariant_of-self g c = (changed g (goal.at.invariant_of-self g c).After-mark_away).is_marked

pub returns-clause-stands : goal.returns-clause-stands
returns-clause-stands g c = λ m stands.
    let clique = c.args.clique in let pair = c.args.pair in
    let at_home = pair_place m.tree clique pair
    (subst (λ (t : GivenTree). home t (pair ∷ []) ≡ Some clique) stands.tree_is c.requires.home)
    in
    stands_with (changed g (goal.at.returns-clause-stands g c).After-mark_away) g.R.Semiring.plus_of
    m stands (with_known pair m) (with_pair_in clique pair (placing_of m))
    (pair_placed m pair clique at_home) refl (c.restrict.ensures.places (placing_of m))

pub returns-clause-marks : goal.returns-clause-marks
returns-clause-marks g c = away_from (changed g (goal.at.returns-clause-marks g c).After-mark_away)
    c.args.clique refl
