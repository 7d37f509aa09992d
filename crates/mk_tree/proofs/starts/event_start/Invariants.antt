use Rattle.std.proofs.Common.{◌≡◌, take}
use Rattle.mk_tree.specs.inner.Starts.{event_start}
use Rattle.mk_tree.proofs.starts.event_start.Given as goal

abbrev pub invariant-loop-pair : goal.invariant-loop-pair
invariant-loop-pair l = l.start ≡ event_start l.starts (take l.pair-index l.pairs)
