use Rattle.std.proofs.Common.{None, sym, ap, ◌∙◌}
use Rattle.mk_quote.specs.Values.{value_interval}
use Rattle.mk_quote.proofs.Spreading.{none_given_at, all_intervals, right_if_given, in_range_if_given}
use Rattle.mk_quote.proofs.spread_quote.SpreadQuote.intervals.Goals as goal

pub returns-in_err-interval_of-clause-right : goal.returns-in_err-interval_of-clause-right
returns-in_err-interval_of-clause-right c =
    let quote = c.args.self.now in
    let items = c.as_slice-value-items.result.now in
    rw c.from_residual.ensures
    (right_if_given quote.sides.items items c.as_slice-value-items.ensures.value None
    (none_given_at items c.loop-value.value-index c.loop-value.intervals.items c.value-item.result c.loop-value-test.true c.loop-value.invariant.so_far
    (sym (ap value_interval c.value-item.is) ∙ sym c.in_err-interval_of.ensures)))

pub returns-clause-in_range : goal.returns-clause-in_range
returns-clause-in_range c =
    let quote = c.args.self.now in
    let items = c.as_slice-value-items.result.now in
    in_range_if_given quote.sides.items items c.as_slice-value-items.ensures.value c.loop-value.intervals.items
    (all_intervals items c.loop-value.value-index c.loop-value.intervals.items c.loop-value-test.false c.loop-value.invariant.so_far)

pub returns-clause-right : goal.returns-clause-right
returns-clause-right c =
    let quote = c.args.self.now in
    let items = c.as_slice-value-items.result.now in
    right_if_given quote.sides.items items c.as_slice-value-items.ensures.value _
    (all_intervals items c.loop-value.value-index c.loop-value.intervals.items c.loop-value-test.false c.loop-value.invariant.so_far)
