use Rattle.std.proofs.Common.{ap₂, ◌∙◌}
use Rattle.mk_names.specs.Texts.{same_text}
use Rattle.mk_names.proofs.SameText.{pointwise_is_same_text}
use Rattle.mk_net.proofs.row.RowPartialEq.eq.Goals as goal

pub returns : goal.returns
returns c = c.eq.ensures ∙ pointwise_is_same_text c.numbers.result.now c.numbers-2.result.now
    ∙ ap₂ same_text c.numbers.ensures.numbers c.numbers-2.ensures.numbers
