use Rattle.std.proofs.Common.{◌^◌, ◌≤◌, arith}
use Rattle.mk_scaled.specs.Range.{pow_le}
use Rattle.mk_judge_points.proofs.cash.almost.Goals as goal

pub exact-requires : goal.exact-requires
exact-requires c =
    let low : 2 ^ 1 ≤ 2 ^ c.args.parts = pow_le 1 c.args.parts c.requires.some_parts in
    let high : 2 ^ c.args.parts ≤ 2 ^ 59 = pow_le c.args.parts 59 c.requires.few_parts in
    omega (arith, low, high)
