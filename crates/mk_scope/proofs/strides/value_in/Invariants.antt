use Rattle.std.proofs.Common.{◌≡◌, ℕ, true, take}
use Rattle.mk_scope.specs.inner.Strides.{lets}
use Rattle.mk_scope.proofs.strides.value_in.Given as goal

abbrev pub invariant-loop-pair : goal.invariant-loop-pair
invariant-loop-pair l = (v : ℕ) → lets (take l.pair-index l.pairs) l.variable v ≡ true
