use Rattle.std.proofs.Common.{◌+◌, ◌-◌, ◌*◌, arith}
use Rattle.mk_judge.specs.Compared.{LeavesOpen}
use Rattle.mk_judge.proofs.Judging.{says_as}
use Rattle.mk_judge.proofs.Nearness.{near_same_as}
use Rattle.mk_judge.proofs.Pricing.{less_in_range}
use Rattle.mk_judge.proofs.price.near_below.Goals as goal

pub mul-less-requires : goal.mul-less-requires
mul-less-requires c =
    rw c.exact.ensures.upper
    (less_in_range _ c.args.near (c.args.near - 1) (omega arith) c.requires.part_range)

pub returns : goal.returns
returns c = λ price is.
    let less = c.mul-less in
    let more = c.mul-more in
    let v = price.num * (c.args.near - 1) in
    let w = price.den * c.args.near in
    says_as c.compare_below.result ((c.args.low + 1) * (w * 1)) (v * 10000000000) _ _ _ _ (omega arith) (omega arith)
    (λ (left : LeavesOpen less.result more.result ((c.args.low + 1) * (w * 1)) (v * 10000000000)). λ g h graded graded'.
    near_same_as ((c.args.low + 1) * (w * 1)) (v * 10000000000) (g + 0 + 1 + (h + 0 + 1)) _ _ _ (omega arith) (omega arith) (omega arith)
    (left.near (g + 0 + 1) (h + 0 + 1) (less.ensures.grade g 0 graded c.exact.ensures.grade) (more.ensures.grade h 0 graded' c.exact-2.ensures.grade)))
    (c.compare_below.ensures v w
    (less.ensures.encloses price.num (c.args.near - 1) is.part_holds c.exact.ensures.encloses)
    (more.ensures.encloses price.den c.args.near is.whole_holds c.exact-2.ensures.encloses))
