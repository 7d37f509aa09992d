use Rattle.std.proofs.Common.{◌+◌, ap, ◌∙◌}
use Rattle.std.proofs.lemmas.List.{length_push}
use Rattle.mk_net.specs.Trades.{trade_ratio}
use Rattle.mk_engine.specs.Meaning.{RatioOf}
use Rattle.mk_propagate.specs.Placings.{with_factor_in}
use Rattle.mk_tree_trials.proofs.Ready.{into_after}
use Rattle.mk_tree_trials.proofs.flows.multiply.Goals as goal

pub returns-clause-some : goal.returns-clause-some
returns-clause-some g c =
    let some = c.requires in
    let placed = (c.times_ratio.ensures.places some.placing some.has).placed in
    record {
      placing = _;
      has = placed;
      of_network = some.of_network;
      counted = length_push some.placing.factors (record { clique = 2; factor = RatioOf (trade_ratio c.trade.result) }) ∙ ap (λ n. n + 1) some.counted;
    }

pub returns-clause-ready : goal.returns-clause-ready
returns-clause-ready g c = λ ready.
    let some = ready.some in let f = RatioOf (trade_ratio c.trade.result) in
    let places = c.times_ratio.ensures.places some.placing some.has in
    record {
      some = record {
        placing = with_factor_in 2 f some.placing;
        has = places.placed;
        of_network = some.of_network;
        counted = length_push some.placing.factors (record { clique = 2; factor = f }) ∙ ap (λ n. n + 1) some.counted;
      };
      right = into_after g.R.Semiring.plus_of c.args.flow.now c.times_ratio.new.self 2 some.placing (with_factor_in 2 f some.placing) places c.times_ratio.ensures.kept.same_shape ready.right;
    }
