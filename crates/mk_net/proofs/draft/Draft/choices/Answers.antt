use Rattle.std.proofs.Common.{arith}
use Rattle.std.proofs.Math.Facts.{Fits-of_lt}
use Rattle.mk_net.proofs.Choices.{eight_fit}
use Rattle.mk_net.proofs.draft.Draft.choices.Goals as goal

pub overflow_mul-choices : goal.overflow_mul-choices
overflow_mul-choices c =
    Fits-of_lt (eight_fit c.names.choices c.values_of-choices.result c.names.name-index c.names.invariant.1 c.values_of-choices.ensures.few (omega arith))
