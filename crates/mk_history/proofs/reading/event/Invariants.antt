use Rattle.std.proofs.Common.{◌≡◌, take}
use Rattle.mk_history.proofs.reading.event.Given as goal

abbrev pub invariant-loop-pair : goal.invariant-loop-pair
invariant-loop-pair l = l.event ≡ take l.pair-index l.pairs
