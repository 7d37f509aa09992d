use Rattle.std.proofs.Common.{◌+◌, ap, ◌∙◌}
use Rattle.std.proofs.lemmas.List.{length_push}
use Rattle.mk_engine.specs.Meaning.{RowsOf}
use Rattle.mk_propagate.specs.Placings.{with_factor_in}
use Rattle.mk_tree_trials.proofs.Ready.{into_after}
use Rattle.mk_tree_trials.proofs.flows.place.Goals as goal

pub returns-clause-some : goal.returns-clause-some
returns-clause-some g c =
    let some = c.requires.some in let clique = c.args.clique in let f = RowsOf c.args.variable in
    record {
      placing = with_factor_in clique f some.placing;
      has = (c.times_rows.ensures.places some.placing some.has some.of_network).placed;
      of_network = some.of_network;
      counted = length_push some.placing.factors (record { clique = clique; factor = f }) ∙ ap (λ n. n + 1) some.counted;
    }

pub returns-clause-ready : goal.returns-clause-ready
returns-clause-ready g c = λ ready.
    let some = ready.some in let clique = c.args.clique in let f = RowsOf c.args.variable in
    let places = c.times_rows.ensures.places some.placing some.has some.of_network in
    record {
      some = record {
        placing = with_factor_in clique f some.placing;
        has = places.placed;
        of_network = some.of_network;
        counted = length_push some.placing.factors (record { clique = clique; factor = f }) ∙ ap (λ n. n + 1) some.counted;
      };
      right = into_after g.R.Semiring.plus_of c.args.flow.now c.times_rows.new.self clique some.placing (with_factor_in clique f some.placing) places c.times_rows.ensures.kept.same_shape ready.right;
    }
