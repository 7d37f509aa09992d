use Rattle.std.proofs.Common.{◌+◌, ◌*◌, arith}
use Rattle.mk_cell.proofs.Ends.{up_within, end_in_range, ends_in_range, one_in_range}
use Rattle.mk_cell.proofs.enclosing.above.Goals as goal

pub shift-lo-requires : goal.shift-lo-requires
shift-lo-requires c = let e = c.of_whole.ensures in rw e (one_in_range _ c.args.exponent c.requires.exponent_at_most (end_in_range c.args.digits c.args.exponent (omega arith) c.requires.exponent_at_most))

pub shift-places-requires : goal.shift-places-requires
shift-places-requires c = let e = c.of_whole-2.ensures in rw e (one_in_range _ c.args.exponent c.requires.exponent_at_most (end_in_range (6 * c.args.grade + 1) c.args.exponent (omega arith) c.requires.exponent_at_most))

pub add_up-requires : goal.add_up-requires
add_up-requires c =
    let i = c.shift-lo.ensures in
    let j = c.shift-places.ensures in
    let e = c.of_whole.ensures in
    let f = c.of_whole-2.ensures in
    rw (i, e, j, f)
    (ends_in_range _ _ c.args.exponent c.requires.exponent_at_most (end_in_range c.args.digits c.args.exponent (omega arith) c.requires.exponent_at_most)
    (end_in_range (6 * c.args.grade + 1) c.args.exponent (omega arith) c.requires.exponent_at_most))

pub returns-clause-reaches : goal.returns-clause-reaches
returns-clause-reaches c =
    let h = rw (c.shift-lo.ensures, c.of_whole.ensures, c.shift-places.ensures, c.of_whole-2.ensures) at c.add_up.ensures.above in
    let u = c.between.ensures.upper in
    omega arith

pub returns-clause-within : goal.returns-clause-within
returns-clause-within c =
    let h = rw (c.shift-lo.ensures, c.of_whole.ensures, c.shift-places.ensures, c.of_whole-2.ensures) at c.add_up.ensures in
    let u = c.between.ensures.upper in
    let w = up_within c.args.digits (6 * c.args.grade + 1) c.args.exponent c.add_up.result (omega arith) (omega arith) (omega arith) h in
    omega arith
