use Rattle.std.proofs.Common.{◌^◌, le_trans}
use Rattle.mk_net.specs.Bounds.{million}
use Rattle.mk_cash.proofs.Losses.{covers_bound}
use Rattle.mk_cash.proofs.loss.bound.Goals as goal

pub bits_down-low-requires-clause-range : goal.bits_down-low-requires-clause-range
bits_down-low-requires-clause-range c = le_trans c.lo.ensures.ordered c.initial_total-total.ensures.upper

pub bits_up-high-requires-clause-range : goal.bits_up-high-requires-clause-range
bits_up-high-requires-clause-range c = rw c.hi-2.ensures.value c.initial_total-total.ensures.upper

pub returns-clause-covers : goal.returns-clause-covers
returns-clause-covers c = λ m encloses part graded exact.
    let total = c.initial_total-total.result in
    let least = c.args.least.now in
    let told = c.initial_total-total.ensures in
    covers_bound c.args.points_per_bit (million ^ c.args.variables) total.lo total.hi told.grade.grade m least.lo least.hi graded.grade _ _
    (record { lower = told.encloses.lower; upper = told.encloses.upper; near = told.grade.has.near }) told.grade.small
    (record { lower = encloses.lower; upper = encloses.upper; near = graded.has.near }) graded.small
    (λ small. (told.exact small).same) (λ small. (exact small).same)
    (le_trans least.positive encloses.lower) part
    (rw (← c.lo.ensures.value, ← c.hi.ensures.value) (record { none = c.bits_down-low.ensures.none; within = c.bits_down-low.ensures.within; near = c.bits_down-low.ensures.near }))
    (rw (← c.hi-2.ensures.value, ← c.lo-2.ensures.value) (record { above = c.bits_up-high.ensures.above; near = c.bits_up-high.ensures.near }))
