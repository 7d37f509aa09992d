use Rattle.std.proofs.Common.{◌&&◌}
use Rattle.mk_scope.specs.Scopes.{HasEvent, has_variable}
use Rattle.mk_table.specs.Ratios.{has_pair}
use Rattle.mk_table.specs.inner.Touched.{IsPart, AreTaken}
use Rattle.mk_table.proofs.touched.common_within.Given as goal

abbrev pub invariant-loop-pair : goal.invariant-loop-pair
invariant-loop-pair l = record {
  of_event : IsPart l.shared l.event;
  of_others : IsPart l.shared l.others;
  there : HasEvent l.scope l.shared;
  taken : AreTaken l.event l.pair-index (λ p. has_pair l.others p && has_variable l.scope p.variable) l.shared;
}
