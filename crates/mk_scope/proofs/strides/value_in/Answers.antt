use Rattle.mk_scope.proofs.Pinned.{lets_found}
use Rattle.mk_scope.proofs.strides.value_in.Goals as goal

pub returns-then-pair-variable-clause-some : goal.returns-then-pair-variable-clause-some
returns-then-pair-variable-clause-some c =
    lets_found c.args.pairs.now c.requires.apart c.args.variable c.loop-pair.pair-index _ c.loop-pair-test.true c.if-pair-variable.true c.loop-pair.invariant
