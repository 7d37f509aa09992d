use Rattle.mk_engine_trials.specs.Used.{IsInUse}
use Rattle.mk_engine_trials.proofs.both.tell_all.Given as goal

abbrev pub invariant-loop-change : goal.invariant-loop-change
invariant-loop-change g l = IsInUse g.E.Engine.stands_for l.engine l.comparison.file.now l.before
