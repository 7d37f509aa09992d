use Rattle.std.proofs.Common.{option_map}
use Rattle.mk_quote.specs.Values.{side_in}
use Rattle.mk_judge.proofs.Placing.{split_first, split_item, one_ratio_more}
use Rattle.mk_judge.proofs.places.+judge_each_units.Goals as goal

pub returns-in-len1-up-units : goal.returns-in-len1-up-units
returns-in-len1-up-units t c =
    let parts = split_item c.args.parts.now c.value-item.result c.value-item.is
    c.in-len1-up.len_at_least in
    let xs = split_first c.args.xs.now 0 c.in-len1-up-xs.len_at_least in
    let units = split_first c.args.units.now 0 c.in-len1-up-units.len_at_least in
    rw (parts, xs, units, c.and.ensures)
    (one_ratio_more c.args.small (option_map (side_in c.args.bounds.now) c.value-item.result) _
    c.judge_units_for-first.result c.judge_each_units.result _ _ _ _
    (rw c.side_of.ensures at c.judge_units_for-first.ensures) c.judge_each_units.ensures)
