use Rattle.std.proofs.Common.{◌≡◌, slice_index, sym, ap, subst, ◌∙◌, arith}
use Rattle.mk_net.specs.declared.words.Pair.{Pair}
use Rattle.mk_net.specs.Asked.{question_ratio}
use Rattle.mk_net.specs.Network.{sizes}
use Rattle.mk_states.specs.OfNetwork.{IsRatioOf}
use Rattle.mk_engine_trials.proofs.Ratios.{ratio_fits}
use Rattle.mk_engine_trials.proofs.engines.ratio.Goals as goal

pub returns : goal.returns
returns g c =
    let net = c.args.net.now in let asked = c.question-asked.result in let hit = c.args.hit in let miss = c.args.miss in
    let sized : c.values-values.result ≡ slice_index (sizes net) asked.target.variable =
    c.values-values.ensures ∙ ap (λ (p : Pair). slice_index (sizes net) p.variable) c.target-target.ensures in
    subst (IsRatioOf net) (sym c.of_question.ensures)
    (subst (λ n. IsRatioOf net (question_ratio asked n hit miss)) (sym sized)
    (ratio_fits net asked hit miss c.question-asked.ensures (omega arith) (omega arith)))
