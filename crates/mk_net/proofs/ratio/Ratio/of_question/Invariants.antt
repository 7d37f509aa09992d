use Rattle.std.proofs.Common.{◌≡◌, length}
use Rattle.mk_net.specs.Asked.{factors_of}
use Rattle.mk_net.proofs.ratio.Ratio.of_question.Given as goal

abbrev pub invariant-loop-value : goal.invariant-loop-value
invariant-loop-value l = ((l.factors).items ≡ factors_of (l.fn.question).target.value l.value l.fn.hit l.fn.miss) × (length (l.factors).items ≡ l.value)
