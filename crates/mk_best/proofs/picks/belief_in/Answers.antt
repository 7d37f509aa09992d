use Rattle.std.proofs.Common.{List, ◌∷◌, [], sym, subst, ◌∙◌}
use Rattle.mk_net.specs.declared.words.Pair.{Pair}
use Rattle.mk_states.specs.Events.{holds}
use Rattle.mk_exact.specs.Weight.{IsSmall}
use Rattle.mk_tree.specs.Held.{IsHeldAt}
use Rattle.mk_tree.proofs.Held.{pair_has_home, home_is_held}
use Rattle.mk_beliefs.specs.Meanings.{weights_of}
use Rattle.mk_answers.specs.inner.Found.{IsBeliefIn}
use Rattle.mk_best.specs.BestStates.{greatest}
use Rattle.mk_best.proofs.Maxima.{greatest_in}
use Rattle.mk_replay.proofs.HasHome.{no_home}
use Rattle.mk_best.proofs.picks.belief_in.Goals as goal

pub unreachable-requires : goal.unreachable-requires
unreachable-requires g c =
    let a = c.requires in
    no_home c.pair_home.result _ c.in_default.is c.pair_home.ensures
    (pair_has_home a.network c.args.tree.now c.args.pair
    (a.tree_of_it.covers c.args.pair.variable a.in_range.variable))

pub belief-requires-clause-held : goal.belief-requires-clause-held
belief-requires-clause-held g c =
    let a = c.requires in
    g.met.E.Engine.held_is_answered c.args.engine.now
    (weights_of a.network c.args.tree.now a.history) c.in-Some.home c.alone.result a.stands
    (subst (λ (ps : List Pair). IsHeldAt c.args.tree.now c.in-Some.home ps) (sym c.alone.ensures)
    (home_is_held c.args.tree.now c.in-Some.home (c.args.pair ∷ [])
    (sym c.pair_home.ensures ∙ c.in-Some.is)))

pub returns-clause-belief : goal.returns-clause-belief
returns-clause-belief g c = λ network H legal h few.
    subst (λ (ps : List Pair). IsBeliefIn c.belief.result (IsSmall network H)
    (greatest network H (holds ps))) c.alone.ensures
    (greatest_in network H c.args.tree.now legal few c.alone.result c.belief.result
    (c.belief.ensures.belief (weights_of network c.args.tree.now H) h))
