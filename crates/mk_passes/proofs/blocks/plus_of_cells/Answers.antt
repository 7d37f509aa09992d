use Rattle.std.proofs.Common.{◌+◌, ℕ, length, take, slice_index, arith, subst}
use Rattle.mk_cell.specs.Cell.{StandsAt}
use Rattle.mk_cell.specs.Passes.{plus_below}
use Rattle.mk_passes.proofs.Blocked.{AreGathered, gathered_first, gathered_stand, gathered_cells, gathered_all}
use Rattle.mk_passes.proofs.blocks.plus_of_cells.Goals as goal

pub over-requires : goal.over-requires
over-requires g c =
    let at : ℕ → ℕ = λ k. c.args.base + slice_index c.args.offsets.now k in
    let count = length c.args.offsets.now in
    gathered_cells at count c.args.digits.now c.args.exponents.now (take count c.loop-place.block_digits) (take count c.loop-place.block_exponents)
    (gathered_first at count c.args.digits.now c.args.exponents.now c.loop-place.block_digits c.loop-place.block_exponents (omega (arith, c.requires.few, c.loop-place.invariant.long)) (omega (arith, c.requires.few, c.loop-place.invariant.long_too))
    (λ k l. c.requires.within k 0 l) (λ k l. c.loop-place.invariant.digits k (omega (arith, c.loop-place-test.false))) (λ k l. c.loop-place.invariant.exponents k (omega (arith, c.loop-place-test.false))))
    c.requires.cells

pub returns : goal.returns
returns g c = λ k f n a.
    let R = g.R.Semiring in
    let at : ℕ → ℕ = λ i. c.args.base + slice_index c.args.offsets.now i in
    let count = length c.args.offsets.now in
    let are : AreGathered at count c.args.digits.now c.args.exponents.now (take count c.loop-place.block_digits) (take count c.loop-place.block_exponents) =
    gathered_first at count c.args.digits.now c.args.exponents.now c.loop-place.block_digits c.loop-place.block_exponents (omega (arith, c.requires.few, c.loop-place.invariant.long)) (omega (arith, c.requires.few, c.loop-place.invariant.long_too))
    (λ i l. c.requires.within i 0 l) (λ i l. c.loop-place.invariant.digits i (omega (arith, c.loop-place-test.false))) (λ i l. c.loop-place.invariant.exponents i (omega (arith, c.loop-place-test.false))) in
    let made = c.over.ensures k (λ i. f (at i)) n (gathered_stand at count c.args.digits.now c.args.exponents.now _ _ are k f n (λ i l. a.listed i 0 l)) in
    let same = subst (λ m. StandsAt k c.over.result.digits c.over.result.exponent (plus_below R.plus_of m (λ i. f (at i))) (n + m)) are.long made in
    subst (λ v. StandsAt k c.over.result.digits c.over.result.exponent v (n + count)) (gathered_all R.plus_of g.met.R.Semiring.lawful (λ i. f (c.args.base + i)) c.args.offsets.now) same
