use Rattle.std.proofs.Common.{arith}
use Rattle.mk_scaled.proofs.Quotients.{still_great, doubled_once}
use Rattle.mk_scaled.proofs.scaled.quotient.divide_raised.Goals as goal

pub returns-then-whole-ge-LIMIT : goal.returns-then-whole-ge-LIMIT
returns-then-whole-ge-LIMIT c =
    still_great _ _ _ c.args.by c.loop-turn._turn c.args.k c.loop-turn.invariant.0 (omega arith) c.if-whole-ge-LIMIT.true

pub loop-turn-preserved : goal.loop-turn-preserved
loop-turn-preserved c =
    (doubled_once _ _ _ _ c.loop-turn.invariant.0 c.doubled.ensures.value, c.doubled.ensures.left_less)
