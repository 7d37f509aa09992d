use Rattle.std.proofs.Common.{◌≡◌, drop}
use Rattle.mk_replay.specs.inner.Dues.{value_given}
use Rattle.mk_replay.proofs.by_rule.value_given.Given as goal

abbrev pub invariant-loop-pair : goal.invariant-loop-pair
invariant-loop-pair l =
    value_given l.known l.variable ≡ value_given (drop l.pair-index l.known) l.variable
