use Rattle.std.proofs.Common.{arith}
use Rattle.mk_scaled.proofs.Cut.{rounds_up, rounds_up_carry, room_to_grow}
use Rattle.mk_scaled.proofs.scaled.wide.Wide.round_up.Goals as goal

pub returns-then-narrow-2 : goal.returns-then-narrow-2
returns-then-narrow-2 c = λ x h.
    let n = c.narrow-narrow.ensures in
    rounds_up_carry c.narrow-narrow.result.mantissa _ x n.form n.room (omega arith) (rw c.if-narrow.true at (n.same x h))

pub returns : goal.returns
returns c = λ x h.
    let n = c.narrow-narrow.ensures in
    rounds_up _ _ x _ n.form (room_to_grow _ _ n.form.below c.else-narrow.either) (n.same x h)
