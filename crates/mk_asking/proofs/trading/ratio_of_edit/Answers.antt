use Rattle.std.proofs.Common.{slice_index, ap, ◌∙◌}
use Rattle.mk_net.specs.Asked.{question_ratio}
use Rattle.mk_net.specs.Network.{sizes}
use Rattle.mk_net.specs.declared.words.Pair.{Pair}
use Rattle.mk_asking.proofs.Traded.{two_values, few_values}
use Rattle.mk_asking.proofs.trading.ratio_of_edit.Goals as goal

pub of_question-requires-clause-two_values : goal.of_question-requires-clause-two_values
of_question-requires-clause-two_values c =
    two_values c.args.net.now c.requires.legal c.args.asked.now c.requires.asked c.values-values.result
    (c.values-values.ensures ∙ ap (λ (p : Pair). slice_index (sizes c.args.net.now) p.variable) c.target.ensures)

pub of_question-requires-clause-few_values : goal.of_question-requires-clause-few_values
of_question-requires-clause-few_values c =
    few_values c.args.net.now c.requires.legal c.args.asked.now c.requires.asked c.values-values.result
    (c.values-values.ensures ∙ ap (λ (p : Pair). slice_index (sizes c.args.net.now) p.variable) c.target.ensures)

pub returns : goal.returns
returns c =
    c.of_question.ensures
    ∙ ap (λ n. question_ratio c.args.asked.now n (c.args.units.0) (c.args.units.1))
    (c.values-values.ensures ∙ ap (λ (p : Pair). slice_index (sizes c.args.net.now) p.variable) c.target.ensures)
