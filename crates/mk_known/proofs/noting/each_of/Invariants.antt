use Rattle.std.proofs.Common.{◌≡◌, take}
use Rattle.mk_known.proofs.noting.each_of.Given as goal

abbrev pub invariant-loop-interval : goal.invariant-loop-interval
invariant-loop-interval l = (l.copy).items ≡ take l.interval-index l.interval-items
