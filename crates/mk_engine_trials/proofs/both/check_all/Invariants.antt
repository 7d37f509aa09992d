use Rattle.mk_engine_trials.specs.Used.{IsInUse}
use Rattle.mk_engine_trials.proofs.both.check_all.Given as goal

abbrev pub invariant-loop-about : goal.invariant-loop-about
invariant-loop-about g l = IsInUse g.E.Engine.stands_for l.engine l.comparison.file.now l.before
