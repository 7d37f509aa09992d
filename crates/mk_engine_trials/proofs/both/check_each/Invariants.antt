use Rattle.mk_engine_trials.specs.Used.{IsInUse}
use Rattle.mk_engine_trials.proofs.both.check_each.Given as goal

abbrev pub invariant-loop-at : goal.invariant-loop-at
invariant-loop-at g l = IsInUse g.E.Engine.stands_for l.engine l.file l.before
