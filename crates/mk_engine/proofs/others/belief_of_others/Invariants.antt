use Rattle.mk_engine.specs.Meaning.{Meaning}
use Rattle.mk_engine.proofs.Found.{IsFound}
use Rattle.mk_engine.proofs.others.belief_of_others.Given as goal

abbrev pub invariant-loop-value : goal.invariant-loop-value
invariant-loop-value g l = record {
  kept : (m : Meaning) → g.E.Engine.stands_for l.fn.engine m → g.E.Engine.stands_for l.engine m;
  found : (m : Meaning) → g.E.Engine.stands_for l.fn.engine m → IsFound g.R.Semiring.encloses
      g.R.Semiring.has_grade g.R.Semiring.is_exact g.R.Semiring.plus_of m (g.E.Engine.grade_of m)
      l.asked l.value l.others;
}
