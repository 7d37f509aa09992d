use Rattle.std.proofs.Common.{◌*◌, arith}
use Rattle.mk_judge.proofs.Solving.{one_least, ceiling_least, bits_in_range}
use Rattle.mk_judge.proofs.solvency.least_units.Goals as goal

pub returns-then-bits-scale : goal.returns-then-bits-scale
returns-then-bits-scale c = one_least c.args.scale.now c.args.gain.now c.requires.positive c.if-bits-scale.true

pub shift-requires : goal.shift-requires
shift-requires c = bits_in_range c.of_whole.result _ c.of_whole.ensures (omega (arith, c.requires.room))

pub returns : goal.returns
returns c =
    let one = c.of_whole.ensures in
    let shifted = c.shift.ensures in
    ceiling_least c.args.scale.now c.args.gain.now c.requires.positive c.if-bits-scale.false c.div_ceil.result (c.shift.result * 1) (c.args.gain.now * 1)
    (rw (shifted, one) (omega arith)) (omega arith) c.div_ceil.ensures
