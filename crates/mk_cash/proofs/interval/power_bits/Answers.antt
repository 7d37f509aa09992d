use Rattle.std.proofs.Common.{lt_of_le_of_lt}
use Rattle.std.proofs.Math.Nat.{pow-le-pow_left}
use Rattle.mk_cash.proofs.Covering.{low_bits, high_bits}
use Rattle.mk_cash.proofs.interval.power_bits.Goals as goal

pub pow_down-low-requires-clause-range : goal.pow_down-low-requires-clause-range
pow_down-low-requires-clause-range c = lt_of_le_of_lt (pow-le-pow_left c.lo.ensures.ordered c.args.power) c.requires.range

pub returns-clause-low_near : goal.returns-clause-low_near
returns-clause-low_near c = low_bits _ c.args.power _ c.pow_down-low.result
    (rw c.lo.ensures.value at c.pow_down-low.ensures.near) c.log2_floor.ensures.greatest

pub returns-clause-high_near : goal.returns-clause-high_near
returns-clause-high_near c = high_bits _ c.args.power _ c.pow_up-high.result
    (rw c.hi.ensures.value at c.pow_up-high.ensures.near) c.log2_floor-2.ensures.below
