use Rattle.std.proofs.Common.{◌≡◌, ◌<◌, true, List, length, slice_index, ap, sym, subst, ◌∙◌, arith}
use Rattle.mk_sets.specs.Sets.{VarSet, is_member}
use Rattle.mk_net.specs.Network.{Variable, sizes}
use Rattle.mk_states.specs.OfNetwork.{IsPairOf}
use Rattle.mk_tree.specs.Given.{GivenTree, clique_at}
use Rattle.mk_plan.specs.Shapes.{ShapeOf, IsClique}
use Rattle.mk_propagate.specs.Placings.{with_pair_in}
use Rattle.mk_tree_trials.proofs.Ready.{into_after}
use Rattle.mk_tree_trials.proofs.flows.know.Goals as goal

pub restrict-requires : goal.restrict-requires
restrict-requires g c =
    let some = c.requires in let pair = c.args.pair in let clique = c.args.clique in
    let tree = c.args.flow.now.shape.tree in
    let held : c.has.result ≡ true = cc in
    let variable : pair.variable < length c.args.net.now = omega (arith, c.variables.ensures.count) in
    let value : pair.value < slice_index (sizes c.args.net.now) pair.variable = omega (arith, c.values.ensures) in
    let own : IsPairOf c.args.net.now pair = record { variable = variable; value = value } in (
      some.placing,
      some.has,
      record {
        clique_is = subst (λ (s : ShapeOf). IsClique s.tree clique) c.shape.ensures (record { first = c.expect_clique.ensures.first; last = c.expect_clique.ensures.last });
        in_range = subst (λ (n : List Variable). IsPairOf n pair) (sym some.of_network) own;
        holds_it =
            ap (λ (t : GivenTree). is_member (clique_at t clique) pair.variable) (sym (c.tree.ensures ∙ ap (λ (s : ShapeOf). s.tree) c.shape-2.ensures))
            ∙ ap (λ (s : VarSet). is_member s pair.variable) (sym c.clique.ensures) ∙ sym c.has.ensures ∙ held;
      },
    )

pub returns-clause-some : goal.returns-clause-some
returns-clause-some g c =
    let some = c.requires in
    let placed = (c.restrict.ensures.places some.placing some.has).placed in
    record { placing = _; has = placed; of_network = some.of_network; counted = some.counted }

pub returns-clause-ready : goal.returns-clause-ready
returns-clause-ready g c = λ ready.
    let some = ready.some in let clique = c.args.clique in let after = with_pair_in clique c.args.pair some.placing in
    let places = c.restrict.ensures.places some.placing some.has in
    record {
      some = record { placing = after; has = places.placed; of_network = some.of_network; counted = some.counted };
      right = into_after g.R.Semiring.plus_of c.args.flow.now c.restrict.new.self clique some.placing after places c.restrict.ensures.kept.same_shape ready.right;
    }
