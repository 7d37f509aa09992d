use Rattle.std.proofs.Common.{◌≡◌, ◌++◌, take}
use Rattle.mk_user_engine.specs.Grouped.{widened}
use Rattle.mk_user_engine.proofs.group.append.Given as goal

abbrev pub invariant-loop-place : goal.invariant-loop-place
invariant-loop-place l = l.names.items ≡ l.fn.names.items ++ widened l.cells (take l.place l.others)
