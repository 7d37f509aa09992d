use Rattle.std.proofs.Common.{◌-◌}
use Rattle.mk_quote.specs.inner.Reached.{HoldsFirst}
use Rattle.mk_quote.proofs.side.SideBounds.first.Given as goal

abbrev pub invariant-loop-range : goal.invariant-loop-range
invariant-loop-range l = HoldsFirst l.self l.bound l.range

abbrev pub decreases-loop-range : goal.decreases-loop-range
decreases-loop-range l = l.range.high - l.range.low
