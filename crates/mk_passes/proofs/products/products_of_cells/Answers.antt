use Rattle.std.proofs.Common.{◌+◌, length, take, length-take-le, arith}
use Rattle.mk_passes.proofs.Unrounded.{left, left_exponent, right, right_exponent, are_unrounded, pairs_stand, stands_for}
use Rattle.mk_passes.proofs.products.products_of_cells.Goals as goal

pub over_products-requires : goal.over_products-requires
over_products-requires g c =
    let d = c.args.left.digits.now in let e = c.args.left.exponents.now in let md = c.args.right.digits.now in let me = c.args.right.exponents.now in
    let onto = c.args.onto.now in let base = c.args.base in let xs = c.args.chosen.now in (
      left d e md me onto base xs,
      left_exponent d e md me onto base xs,
      right d e md me onto base xs,
      right_exponent d e md me onto base xs,
      are_unrounded d e md me onto base xs c.loop-place.places c.loop-place.sums (omega (arith, c.requires.few, c.loop-place.invariant.long)) (omega (arith, c.requires.few, c.loop-place.invariant.long_too))
          c.requires.within c.requires.onto c.requires.full c.requires.cells c.requires.other_cells
          (λ k l. c.loop-place.invariant.places k (omega (arith, l, c.loop-place-test.false))) (λ k l. c.loop-place.invariant.sums k (omega (arith, l, c.loop-place-test.false))),
    )

pub returns : goal.returns
returns g c = λ j k f h n p pairs.
    let d = c.args.left.digits.now in let e = c.args.left.exponents.now in let md = c.args.right.digits.now in let me = c.args.right.exponents.now in
    let onto = c.args.onto.now in let base = c.args.base in let xs = c.args.chosen.now in
    let all = are_unrounded d e md me onto base xs c.loop-place.places c.loop-place.sums (omega (arith, c.requires.few, c.loop-place.invariant.long)) (omega (arith, c.requires.few, c.loop-place.invariant.long_too))
    c.requires.within c.requires.onto c.requires.full c.requires.cells c.requires.other_cells
    (λ i l. c.loop-place.invariant.places i (omega (arith, l, c.loop-place-test.false))) (λ i l. c.loop-place.invariant.sums i (omega (arith, l, c.loop-place-test.false))) in
    let long = length-take-le (length xs) c.loop-place.places (omega (arith, c.requires.few, c.loop-place.invariant.long)) in
    stands_for d e md me onto base xs g.R.Semiring.plus_of g.met.R.Semiring.lawful (length (take (length xs) c.loop-place.places)) long (j + k) c.over_products.result.digits c.over_products.result.exponent f h (n + p)
    (c.over_products.ensures (left d e md me onto base xs) (left_exponent d e md me onto base xs) (right d e md me onto base xs) (right_exponent d e md me onto base xs) all
    j k _ _ n p (pairs_stand d e md me onto base xs (length (take (length xs) c.loop-place.places)) long j k f h n p pairs))
