use Rattle.std.proofs.Common.{◌≡◌, ℕ, ◌<◌, slice_index}
use Rattle.mk_scope.proofs.scope.Scope.size.Given as goal

abbrev pub invariant-loop-place : goal.invariant-loop-place
invariant-loop-place l = record {
  none : (k : ℕ) → k < l.place → slice_index l.self-inside.variables.items k ≡ l.variable → ⊥;
}
