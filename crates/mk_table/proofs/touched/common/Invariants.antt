use Rattle.mk_table.specs.Ratios.{has_pair}
use Rattle.mk_table.specs.inner.Touched.{IsPart, AreTaken}
use Rattle.mk_table.proofs.touched.common.Given as goal

abbrev pub invariant-loop-pair : goal.invariant-loop-pair
invariant-loop-pair l = record {
  of_event : IsPart l.shared l.event;
  of_others : IsPart l.shared l.others;
  taken : AreTaken l.event l.pair-index (has_pair l.others) l.shared;
}
