use Rattle.std.proofs.Common.{◌≡◌, take}
use Rattle.mk_asking.proofs.trading.ratio_of_spread.Given as goal

abbrev pub invariant-loop-one : goal.invariant-loop-one
invariant-loop-one l = l.factors.items ≡ take l.one-index l.units
