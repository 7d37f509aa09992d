use Rattle.std.proofs.Common.{◌≡◌, Some, refl, subst}
use Rattle.mk_net.specs.Asked.{ratio_pairs}
use Rattle.mk_net.specs.Trades.{trade_ratio}
use Rattle.mk_tree.specs.Given.{GivenTree, home}
use Rattle.mk_engine.specs.Meaning.{RatioOf}
use Rattle.mk_tree_engine.specs.Engines.{placing_of}
use Rattle.mk_tree_engine.specs.inner.Marks.{marked}
use Rattle.mk_tree_engine.proofs.Families.{clique_of, ratio_place}
use Rattle.mk_tree_engine.proofs.Placed.{can_place, stands_old}
use Rattle.mk_tree_engine.proofs.Changed.{held_at_home, IsChanged, is_changed, away_from, stands_with_factor}
use Rattle.mk_tree_engine.proofs.engine.TreeEngineEngine.multiply.Given.{Over}
use Rattle.mk_tree_engine.proofs.engine.TreeEngineEngine.multiply.Goals.{After-mark_away}
use Rattle.mk_tree_engine.proofs.engine.TreeEngineEngine.multiply.Goals as goal

-- what it makes of the engine
changed : (g : Over) (c : After-mark_away g)
    → IsChanged c.self.inside.flow c.self.inside.marks c.args.self.now c.times_ratio.new.self
    c.mark_away.new.self c.args.clique
changed g c =
    is_changed c.shape.ensures c.self.view_is c.self.invariant c.times_ratio.ensures.kept
    c.mark_away.ensures.up c.mark_away.ensures.down c.mark_away.ensures.collected

pub times_ratio-requires : goal.times_ratio-requires
times_ratio-requires g c =
    let plus = g.R.Semiring.plus_of in let a = c.requires.range in let inside = c.self.inside in
    let old = marked inside.flow inside.marks.up.items inside.marks.down.items in let event =
    ratio_pairs (trade_ratio c.args.ratio.now) in
    let holds = held_at_home old c.args.self.now c.self.view_is event c.args.clique
    c.requires.home in (
      placing_of a.meaning,
      can_place plus old a.meaning (stands_old plus old c.args.self.now a.meaning c.self.view_is
          a.stands) a.room,
      record {
        clique_is = clique_of inside.flow.shape.tree c.args.clique event holds;
        fits =
            (a.in_range, holds.held);
      },
    )

pub invariant_of-self : goal.invariant_of-self
invariant_of-self g c = (changed g (goal.at.invariant_of-self g c).After-mark_away).is_marked

pub returns-clause-stands : goal.returns-clause-stands
returns-clause-stands g c = λ m stands.
    let ratio = trade_ratio c.args.ratio.now in
    stands_with_factor (changed g (goal.at.returns-clause-stands g c).After-mark_away)
    g.R.Semiring.plus_of m stands (RatioOf ratio)
    (ratio_place m.network m.tree c.args.clique ratio
    (subst (λ (t : GivenTree). home t (ratio_pairs ratio) ≡ Some c.args.clique) stands.tree_is
    c.requires.home))
    (c.times_ratio.ensures.places (placing_of m))

pub returns-clause-marks : goal.returns-clause-marks
returns-clause-marks g c = away_from (changed g (goal.at.returns-clause-marks g c).After-mark_away)
    c.args.clique refl
