use Rattle.std.proofs.Common.{◌*◌, ◌^◌, ◌≤◌, arith}
use Rattle.mk_cash.proofs.Quotients.{moved_in_range, double_in_range, ceiling_above, ceiling_close}
use Rattle.mk_cash.proofs.loss.quotient_up.Goals.{After-shift-2}
use Rattle.mk_cash.proofs.loss.quotient_up.Goals as goal

-- the divisor is not zero
some : (c : After-shift-2) → 1 ≤ c.shift-2.result
some c = rw c.shift-2.ensures (omega (arith, c.requires.less))

pub shift-requires : goal.shift-requires
shift-requires c = moved_in_range c.args.num.now c.requires.range

pub shift-requires-2 : goal.shift-requires-2
shift-requires-2 c = double_in_range c.args.num.now _ c.requires.range c.requires.more

pub returns-clause-above : goal.returns-clause-above
returns-clause-above c =
    let l = ceiling_above (c.shift.result * 2 ^ 59) c.shift-2.result c.in-Some.ceiling
    (some (goal.at.returns-clause-above c).After-shift-2) c.in-Some.ensures.1 in
    rw (← c.shift-2.ensures) (omega (arith, c.shift.ensures))

pub returns-clause-close : goal.returns-clause-close
returns-clause-close c =
    let l = ceiling_close (c.shift.result * 2 ^ 59) c.shift-2.result c.in-Some.ceiling
    (some (goal.at.returns-clause-close c).After-shift-2) c.in-Some.ensures.1 in
    rw (← c.shift-2.ensures) (omega (arith, c.shift.ensures))
