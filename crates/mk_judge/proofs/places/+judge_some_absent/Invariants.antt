use Rattle.std.proofs.Common.{length}
use Rattle.mk_judge.proofs.places.+judge_some_absent.Given as goal

abbrev pub decreases-judge_some_absent : goal.decreases-judge_some_absent
decreases-judge_some_absent l = length l.parts.now
