use Rattle.std.proofs.Common.{option_map}
use Rattle.mk_quote.specs.Values.{side_in}
use Rattle.mk_judge.proofs.Placing.{split_first, split_item, one_interval_more}
use Rattle.mk_judge.proofs.places.+judge_each_interval.Goals as goal

pub returns-in-len1-up-intervals : goal.returns-in-len1-up-intervals
returns-in-len1-up-intervals t c =
    let parts = split_item c.args.parts.now c.value-item.result c.value-item.is
    c.in-len1-up.len_at_least in
    let intervals = split_first c.args.intervals.now (0, 0) c.in-len1-up-intervals.len_at_least in
    rw (parts, intervals, c.and.ensures)
    (one_interval_more c.args.small (option_map (side_in c.args.bounds.now) c.value-item.result) _
    c.judge_interval_for-first.result c.judge_each_interval.result _ _ _
    (rw c.side_of.ensures at c.judge_interval_for-first.ensures) c.judge_each_interval.ensures)
