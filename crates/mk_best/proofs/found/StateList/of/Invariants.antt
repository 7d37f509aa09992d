use Rattle.std.proofs.Common.{◌≡◌, take}
use Rattle.mk_best.specs.inner.Values.{values_in}
use Rattle.mk_best.proofs.found.StateList.of.Given as goal

abbrev pub invariant-loop-pair : goal.invariant-loop-pair
invariant-loop-pair l = l.values.items ≡ values_in (take l.pair-index l.pairs)
