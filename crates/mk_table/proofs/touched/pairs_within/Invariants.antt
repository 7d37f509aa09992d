use Rattle.mk_scope.specs.Scopes.{HasEvent, has_variable}
use Rattle.mk_table.specs.inner.Touched.{IsPart, AreTaken}
use Rattle.mk_table.proofs.touched.pairs_within.Given as goal

abbrev pub invariant-loop-pair : goal.invariant-loop-pair
invariant-loop-pair l = record {
  of_event : IsPart l.kept l.event;
  there : HasEvent l.scope l.kept;
  taken : AreTaken l.event l.pair-index (λ p. has_variable l.scope p.variable) l.kept;
}
