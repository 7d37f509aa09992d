use Rattle.std.proofs.Common.{◌-◌, ◌*◌, sym, ◌∙◌, arith}
use Rattle.mk_cash.proofs.Quotients.{is_less, not_less, in_order, less_than_twice, more_than_half, few_together, whole_power_in_range, some_den, less_near, down_within, down_near}
use Rattle.mk_cash.proofs.loss.bits_down.Goals as goal

pub returns-then-lt-clause-near : goal.returns-then-lt-clause-near
returns-then-lt-clause-near c = less_near c.args.num.now c.args.den.now c.args.power (3 * c.args.power) (is_less c.args.num.now c.args.den.now (sym c.lt.ensures ∙ c.if-lt.true))

pub overflow_sub-bits : goal.overflow_sub-bits
overflow_sub-bits c = in_order c.args.num.now c.args.den.now c.log2_floor.result c.log2_floor-2.result (not_less _ _ (sym c.lt.ensures ∙ c.if-lt.false))
    c.log2_floor-2.ensures.below c.log2_floor-2.ensures.greatest c.log2_floor.ensures.below c.log2_floor.ensures.greatest

pub quotient_down-quotient-requires-clause-more : goal.quotient_down-quotient-requires-clause-more
quotient_down-quotient-requires-clause-more c = less_than_twice c.args.num.now c.args.den.now c.log2_floor.result c.log2_floor-2.result (not_less _ _ (sym c.lt.ensures ∙ c.if-lt.false))
    c.log2_floor-2.ensures.below c.log2_floor-2.ensures.greatest c.log2_floor.ensures.below c.log2_floor.ensures.greatest

pub quotient_down-quotient-requires-clause-less : goal.quotient_down-quotient-requires-clause-less
quotient_down-quotient-requires-clause-less c = more_than_half c.args.num.now c.args.den.now c.log2_floor.result c.log2_floor-2.result (not_less _ _ (sym c.lt.ensures ∙ c.if-lt.false))
    c.log2_floor-2.ensures.below c.log2_floor-2.ensures.greatest c.log2_floor.ensures.below c.log2_floor.ensures.greatest

pub pow_down-raised-requires-clause-range : goal.pow_down-raised-requires-clause-range
pow_down-raised-requires-clause-range c = rw c.of_whole.ensures (whole_power_in_range c.quotient_down-quotient.result c.args.power (omega (arith, c.quotient_down-quotient.ensures.fits)) c.requires.small)

pub overflow_mul-bits : goal.overflow_mul-bits
overflow_mul-bits c =
    let few = few_together c.args.num.now c.log2_floor.result c.log2_floor-2.result c.args.power c.requires.range c.log2_floor.ensures.below c.requires.small in
    omega arith

pub overflow_add-log2_floor : goal.overflow_add-log2_floor
overflow_add-log2_floor c =
    let few = few_together c.args.num.now c.log2_floor.result c.log2_floor-2.result c.args.power c.requires.range c.log2_floor.ensures.below c.requires.small in
    omega (arith, c.log2_floor-3.ensures.small)

pub returns-clause-within : goal.returns-clause-within
returns-clause-within c = down_within c.args.num.now c.args.den.now (c.log2_floor.result - c.log2_floor-2.result) c.args.power c.quotient_down-quotient.result c.pow_down-raised.result c.log2_floor-3.result c.saturating_sub.result
    c.saturating_sub.ensures c.log2_floor-3.ensures.below c.log2_floor-3.ensures.greatest (some_den c.args.den.now c.log2_floor-2.result c.log2_floor-2.ensures.below)
    c.quotient_down-quotient.ensures.below (rw c.of_whole.ensures at c.pow_down-raised.ensures.below)

pub returns-clause-near : goal.returns-clause-near
returns-clause-near c = down_near c.args.num.now c.args.den.now (c.log2_floor.result - c.log2_floor-2.result) c.args.power c.quotient_down-quotient.result c.pow_down-raised.result c.log2_floor-3.result c.saturating_sub.result
    c.saturating_sub.ensures c.log2_floor-3.ensures.below c.log2_floor-3.ensures.greatest (some_den c.args.den.now c.log2_floor-2.result c.log2_floor-2.ensures.below)
    c.quotient_down-quotient.ensures.close c.quotient_down-quotient.ensures.full (rw c.of_whole.ensures at c.pow_down-raised.ensures.near)

pub returns-clause-fits : goal.returns-clause-fits
returns-clause-fits c =
    let few = few_together c.args.num.now c.log2_floor.result c.log2_floor-2.result c.args.power c.requires.range c.log2_floor.ensures.below c.requires.small in
    omega (arith, c.log2_floor-3.ensures.small, c.saturating_sub.ensures)
