use Rattle.std.proofs.Common.{arith}
use Rattle.mk_scaled.proofs.Widened.{IsFull-shift, StandsFor-shift, shift_room, shift_digits}
use Rattle.mk_scaled.proofs.scaled.wide.Wide.shifted.Goals as goal

pub overflow_add-result : goal.overflow_add-result
overflow_add-result c =
    let r = shift_room _ _ c.min-inside.result c.args.k c.number.invariant c.min-inside.ensures (rw c.number.view_is c.requires) in
    omega arith

pub returns-clause-full : goal.returns-clause-full
returns-clause-full c =
    rw (shift_digits c.number.inside.mantissa _ _ c.number.invariant.below c.min-inside.ensures)
    (IsFull-shift _ _ _ c.args.k c.number.invariant c.min-inside.ensures (rw c.number.view_is c.requires))

pub returns-clause-exact : goal.returns-clause-exact
returns-clause-exact c =
    rw (shift_digits c.number.inside.mantissa _ _ c.number.invariant.below c.min-inside.ensures, ← c.number.view_is)
    (StandsFor-shift _ _ _ c.args.k c.min-inside.ensures)
