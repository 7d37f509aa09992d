use Rattle.std.proofs.Common.{◌-◌, sym, ◌∙◌, arith}
use Rattle.mk_cash.proofs.Quotients.{is_less, not_less, in_order, less_than_twice, more_than_half, few_together, whole_power_in_range, some_den, less_power, up_above, up_near}
use Rattle.mk_cash.proofs.loss.bits_up.Goals as goal

pub returns-then-lt-clause-above : goal.returns-then-lt-clause-above
returns-then-lt-clause-above c = less_power c.args.num.now c.args.den.now c.args.power (is_less c.args.num.now c.args.den.now (sym c.lt.ensures ∙ c.if-lt.true))

pub overflow_sub-bits : goal.overflow_sub-bits
overflow_sub-bits c = in_order c.args.num.now c.args.den.now c.log2_floor.result c.log2_floor-2.result (not_less _ _ (sym c.lt.ensures ∙ c.if-lt.false))
    c.log2_floor-2.ensures.below c.log2_floor-2.ensures.greatest c.log2_floor.ensures.below c.log2_floor.ensures.greatest

pub quotient_up-quotient-requires-clause-more : goal.quotient_up-quotient-requires-clause-more
quotient_up-quotient-requires-clause-more c = less_than_twice c.args.num.now c.args.den.now c.log2_floor.result c.log2_floor-2.result (not_less _ _ (sym c.lt.ensures ∙ c.if-lt.false))
    c.log2_floor-2.ensures.below c.log2_floor-2.ensures.greatest c.log2_floor.ensures.below c.log2_floor.ensures.greatest

pub quotient_up-quotient-requires-clause-less : goal.quotient_up-quotient-requires-clause-less
quotient_up-quotient-requires-clause-less c = more_than_half c.args.num.now c.args.den.now c.log2_floor.result c.log2_floor-2.result (not_less _ _ (sym c.lt.ensures ∙ c.if-lt.false))
    c.log2_floor-2.ensures.below c.log2_floor-2.ensures.greatest c.log2_floor.ensures.below c.log2_floor.ensures.greatest

pub pow_up-raised-requires-clause-range : goal.pow_up-raised-requires-clause-range
pow_up-raised-requires-clause-range c = rw c.of_whole.ensures (whole_power_in_range c.quotient_up-quotient.result c.args.power (c.quotient_up-quotient.ensures.fits) c.requires.small)

pub overflow_mul-bits : goal.overflow_mul-bits
overflow_mul-bits c =
    let few = few_together c.args.num.now c.log2_floor.result c.log2_floor-2.result c.args.power c.requires.range c.log2_floor.ensures.below c.requires.small in
    omega arith

pub overflow_add-log2_floor : goal.overflow_add-log2_floor
overflow_add-log2_floor c =
    let few = few_together c.args.num.now c.log2_floor.result c.log2_floor-2.result c.args.power c.requires.range c.log2_floor.ensures.below c.requires.small in
    omega (arith, c.log2_floor-3.ensures.small)

pub returns-clause-above : goal.returns-clause-above
returns-clause-above c = up_above c.args.num.now c.args.den.now (c.log2_floor.result - c.log2_floor-2.result) c.args.power c.quotient_up-quotient.result c.pow_up-raised.result c.log2_floor-3.result c.saturating_sub.result
    c.saturating_sub.ensures c.log2_floor-3.ensures.below c.log2_floor-3.ensures.greatest (some_den c.args.den.now c.log2_floor-2.result c.log2_floor-2.ensures.below)
    c.quotient_up-quotient.ensures.above (rw c.of_whole.ensures at c.pow_up-raised.ensures.above)

pub returns-clause-near : goal.returns-clause-near
returns-clause-near c = up_near c.args.num.now c.args.den.now (c.log2_floor.result - c.log2_floor-2.result) c.args.power c.quotient_up-quotient.result c.pow_up-raised.result c.log2_floor-3.result c.saturating_sub.result
    c.saturating_sub.ensures c.log2_floor-3.ensures.below c.log2_floor-3.ensures.greatest (some_den c.args.den.now c.log2_floor-2.result c.log2_floor-2.ensures.below)
    (less_than_twice c.args.num.now c.args.den.now c.log2_floor.result c.log2_floor-2.result (not_less _ _ (sym c.lt.ensures ∙ c.if-lt.false))
    c.log2_floor-2.ensures.below c.log2_floor-2.ensures.greatest c.log2_floor.ensures.below c.log2_floor.ensures.greatest)
    c.quotient_up-quotient.ensures.close (rw c.of_whole.ensures at c.pow_up-raised.ensures.near)

pub returns-clause-fits : goal.returns-clause-fits
returns-clause-fits c =
    let few = few_together c.args.num.now c.log2_floor.result c.log2_floor-2.result c.args.power c.requires.range c.log2_floor.ensures.below c.requires.small in
    omega (arith, c.log2_floor-3.ensures.small, c.saturating_sub.ensures)
