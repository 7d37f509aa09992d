use Rattle.std.proofs.Common.{◌+◌, ℕ, length, take, slice_index, arith, subst}
use Rattle.mk_cell.specs.Cell.{StandsAt}
use Rattle.mk_cell.specs.Passes.{plus_below}
use Rattle.mk_passes.proofs.Blocked.{AreGathered, gathered_first, gathered_cells}
use Rattle.mk_passes.proofs.Paired.{gathered_each, gathered_at}
use Rattle.mk_scope.proofs.Runs.{all_at}
use Rattle.mk_passes.proofs.products.plus_of_others.Goals as goal

pub over-requires : goal.over-requires
over-requires g c =
    let at : ℕ → ℕ = λ k. slice_index c.args.onto.now (c.args.base + slice_index c.args.chosen.now k) in
    let count = length c.args.chosen.now in
    gathered_cells at count c.args.other_digits.now c.args.other_exponents.now (take count c.loop-place.block_digits) (take count c.loop-place.block_exponents)
    (gathered_first at count c.args.other_digits.now c.args.other_exponents.now c.loop-place.block_digits c.loop-place.block_exponents (omega (arith, c.requires.few, c.loop-place.invariant.long)) (omega (arith, c.requires.few, c.loop-place.invariant.long_too))
    (λ k l. c.requires.onto (c.args.base + slice_index c.args.chosen.now k) 0 (c.requires.within k 0 l)) (λ k l. c.loop-place.invariant.digits k (omega (arith, c.loop-place-test.false))) (λ k l. c.loop-place.invariant.exponents k (omega (arith, c.loop-place-test.false))))
    c.requires.other_cells

pub returns : goal.returns
returns g c = λ k f n a.
    let R = g.R.Semiring in
    let at : ℕ → ℕ = λ i. slice_index c.args.onto.now (c.args.base + slice_index c.args.chosen.now i) in
    let count = length c.args.chosen.now in
    let are : AreGathered at count c.args.other_digits.now c.args.other_exponents.now (take count c.loop-place.block_digits) (take count c.loop-place.block_exponents) =
    gathered_first at count c.args.other_digits.now c.args.other_exponents.now c.loop-place.block_digits c.loop-place.block_exponents (omega (arith, c.requires.few, c.loop-place.invariant.long)) (omega (arith, c.requires.few, c.loop-place.invariant.long_too))
    (λ i l. c.requires.onto (c.args.base + slice_index c.args.chosen.now i) 0 (c.requires.within i 0 l)) (λ i l. c.loop-place.invariant.digits i (omega (arith, c.loop-place-test.false))) (λ i l. c.loop-place.invariant.exponents i (omega (arith, c.loop-place-test.false))) in
    let v : ℕ → ℕ = λ i. f (c.args.base + slice_index c.args.chosen.now i) in
    let made = c.over.ensures k v n (gathered_each at count c.args.other_digits.now c.args.other_exponents.now _ _ are k v n (λ i l. all_at (λ y. StandsAt k (slice_index c.args.other_digits.now (slice_index c.args.onto.now y)) (slice_index c.args.other_exponents.now (slice_index c.args.onto.now y)) (f y) n) c.args.base c.args.chosen.now i a l)) in
    let same = subst (λ m. StandsAt k c.over.result.digits c.over.result.exponent (plus_below R.plus_of m v) (n + m)) are.long made in
    subst (λ s. StandsAt k c.over.result.digits c.over.result.exponent s (n + count)) (gathered_at R.plus_of g.met.R.Semiring.lawful f c.args.base c.args.chosen.now) same
