use Rattle.std.proofs.Common.{◌+◌, ◌-◌, ◌*◌, arith}
use Rattle.mk_judge.specs.Compared.{LeavesOpen}
use Rattle.mk_judge.proofs.Judging.{says_as}
use Rattle.mk_judge.proofs.Nearness.{near_same_as}
use Rattle.mk_judge.proofs.Pricing.{less_in_range}
use Rattle.mk_judge.proofs.price.near_above.Goals as goal

pub mul-less-requires : goal.mul-less-requires
mul-less-requires c =
    rw c.exact-2.ensures.upper
    (less_in_range _ c.args.near (c.args.near - 1) (omega arith) c.requires.whole_range)

pub returns : goal.returns
returns c = λ price is.
    let less = c.mul-less in
    let more = c.mul-more in
    let v = price.num * c.args.near in
    let w = price.den * (c.args.near - 1) in
    let units = c.saturating_sub.result in
    let before = c.saturating_sub.ensures in
    says_as c.compare_above.result (v * 10000000000) (units * (w * 1)) _ _ _ _ (omega arith) (rw (← before) (omega arith))
    (λ (left : LeavesOpen more.result less.result (v * 10000000000) (units * (w * 1))). λ g h graded graded'.
    near_same_as (v * 10000000000) (units * (w * 1)) (g + 0 + 1 + (h + 0 + 1)) _ _ _ (omega arith) (rw (← before) (omega arith)) (omega arith)
    (left.near (g + 0 + 1) (h + 0 + 1) (more.ensures.grade g 0 graded c.exact.ensures.grade) (less.ensures.grade h 0 graded' c.exact-2.ensures.grade)))
    (c.compare_above.ensures v w
    (more.ensures.encloses price.num c.args.near is.part_holds c.exact.ensures.encloses)
    (less.ensures.encloses price.den (c.args.near - 1) is.whole_holds c.exact-2.ensures.encloses))
