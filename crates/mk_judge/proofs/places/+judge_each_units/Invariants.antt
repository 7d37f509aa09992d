use Rattle.std.proofs.Common.{length}
use Rattle.mk_judge.proofs.places.+judge_each_units.Given as goal

abbrev pub decreases-judge_each_units : goal.decreases-judge_each_units
decreases-judge_each_units l = length l.parts.now
