use Rattle.std.proofs.Common.{◌≡◌}
use Rattle.mk_record.proofs.Refusing.{open_from}
use Rattle.mk_record.proofs.refusals.all_resolved.Given as goal

abbrev pub invariant-loop-variable : goal.invariant-loop-variable
invariant-loop-variable l = open_from l.journal.history l.net l.variable ≡ open_from l.journal.history l.net 0
