use Rattle.mk_engine_trials.specs.Used.{IsInUse}
use Rattle.mk_engine_trials.proofs.engines.tell_rows.Given as goal

abbrev pub invariant-loop-variable : goal.invariant-loop-variable
invariant-loop-variable g l = IsInUse g.E.Engine.stands_for l.engine l.file l.variable
