use Rattle.std.proofs.Common.{arith}
use Rattle.mk_cell.proofs.Each.{each_next, each_stands}
use Rattle.mk_cell.proofs.scaling.times_each.Goals as goal

pub loop-c-preserved : goal.loop-c-preserved
loop-c-preserved c =
    let l = c.loop-c.invariant.digits_length in
    let m = c.loop-c.invariant.exponents_length in
    each_next c.loop-c.c c.args.digits.now c.args.exponents.now c.args.other_digits.now c.args.other_exponents.now c.loop-c.digits c.loop-c.exponents c.times-product.result.digits c.times-product.result.exponent
    c.loop-c.invariant (omega arith) (omega arith) c.times-product.ensures.rounded

pub returns : goal.returns
returns c = λ j k f g n p a b.
    each_stands c.loop-c.c c.args.digits.now c.args.exponents.now c.args.other_digits.now c.args.other_exponents.now c.loop-c.digits c.loop-c.exponents j k f g n p
    c.loop-c.invariant (omega arith) c.requires.same_length a b
