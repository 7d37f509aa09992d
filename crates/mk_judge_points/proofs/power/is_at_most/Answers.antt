use Rattle.std.proofs.Common.{arith}
use Rattle.mk_judge_points.proofs.Lifting.{lift_left, lift_right, left_decides, right_decides}
use Rattle.mk_judge_points.proofs.power.is_at_most.Goals as goal

pub returns-then-below-above : goal.returns-then-below-above
returns-then-below-above c =
    let left = c.mantissa.ensures in
    let right = c.mantissa-then-below-above.ensures in
    rw c.lifted.ensures
    (right_decides c.args.left.now c.mantissa.result c.exponent.result c.args.bits c.args.right.now c.mantissa-then-below-above.result c.exponent-2.result c.args.more
    (rw (left.value, c.exponent.ensures.value) left.stored.written) (rw (right.value, c.exponent-2.ensures.value) right.stored.written)
    _ c.if-below-above.true (lift_right _ _ _ (rw right.value right.stored.form.positive) (rw left.value left.stored.form.below)))

pub returns-else-below-above : goal.returns-else-below-above
returns-else-below-above c =
    let left = c.mantissa-else-below-above.ensures in
    let right = c.mantissa-else-below-above-2.ensures in
    rw c.lifted-else-below-above.ensures
    (left_decides c.args.left.now c.mantissa-else-below-above.result c.exponent.result c.args.bits c.args.right.now c.mantissa-else-below-above-2.result c.exponent-2.result c.args.more
    (rw (left.value, c.exponent.ensures.value) left.stored.written) (rw (right.value, c.exponent-2.ensures.value) right.stored.written)
    _ (omega (arith, c.if-below-above.false)) (lift_left _ _ _ (rw left.value left.stored.form.positive) (rw right.value right.stored.form.below)))
