use Rattle.std.proofs.Common.{◌≡◌, take}
use Rattle.mk_user_engine.proofs.narrow.copy_of.Given as goal

abbrev pub invariant-loop-place : goal.invariant-loop-place
invariant-loop-place l = l.factors.items ≡ take l.place l.ratio.factors.items
