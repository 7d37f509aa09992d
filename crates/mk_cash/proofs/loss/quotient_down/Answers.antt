use Rattle.std.proofs.Common.{◌*◌, ◌^◌, ◌≤◌, arith}
use Rattle.mk_cash.proofs.Quotients.{moved_in_range, double_in_range, floor_below, floor_close}
use Rattle.mk_cash.proofs.loss.quotient_down.Goals as goal

pub shift-requires : goal.shift-requires
shift-requires c = moved_in_range c.args.num.now c.requires.range

pub shift-requires-2 : goal.shift-requires-2
shift-requires-2 c = double_in_range c.args.num.now _ c.requires.range c.requires.more

pub returns-clause-below : goal.returns-clause-below
returns-clause-below c =
    let l = floor_below (c.shift.result * 2 ^ 59) c.shift-2.result c.in-Some.floor c.in-Some.ensures.1 in
    rw (← c.shift-2.ensures) (omega (arith, c.shift.ensures))

pub returns-clause-close : goal.returns-clause-close
returns-clause-close c =
    let some : 1 ≤ c.shift-2.result = rw c.shift-2.ensures (omega (arith, c.requires.less)) in
    let l = floor_close (c.shift.result * 2 ^ 59) c.shift-2.result c.in-Some.floor some c.in-Some.ensures.1 in
    rw (← c.shift-2.ensures) (omega (arith, c.shift.ensures))
