use Rattle.std.proofs.Common.{◌≡◌, ◌+◌, ◌*◌, ◌^◌, ◌<◌}
use Rattle.mk_scaled.proofs.scaled.quotient.divide_raised.Given as goal

abbrev pub invariant-loop-turn : goal.invariant-loop-turn
invariant-loop-turn l = (l.whole * l.by + l.left ≡ l.number * 2 ^ l._turn) × (l.left < l.by)
