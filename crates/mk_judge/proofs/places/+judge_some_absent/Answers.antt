use Rattle.std.proofs.Common.{option_map}
use Rattle.mk_quote.specs.Values.{side_in}
use Rattle.mk_judge.proofs.Placing.{split_item, one_absent_more}
use Rattle.mk_judge.proofs.places.+judge_some_absent.Goals as goal

pub returns-in-len1-up : goal.returns-in-len1-up
returns-in-len1-up t c =
    let parts = split_item c.args.parts.now c.value-item.result c.value-item.is
    c.in-len1-up.len_at_least in
    rw (parts, c.or.ensures)
    (one_absent_more c.judge_absent-first.result c.judge_some_absent.result c.args.small
    (option_map (side_in c.args.bounds.now) c.value-item.result) _
    (rw c.side_of.ensures at c.judge_absent-first.ensures) c.judge_some_absent.ensures)
