use Rattle.std.proofs.Common.{length}
use Rattle.mk_judge.proofs.places.+judge_each_interval.Given as goal

abbrev pub decreases-judge_each_interval : goal.decreases-judge_each_interval
decreases-judge_each_interval l = length l.parts.now
