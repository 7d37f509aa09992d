use Rattle.std.proofs.Common.{◌+◌, ◌<◌, length, slice_index, arith, ◌∙◌}
use Rattle.mk_cell.specs.Cell.{IsCell}
use Rattle.mk_passes.specs.Parts.{IsTimesCell}
use Rattle.mk_scope.specs.Runs.{IsAmong, cells_at}
use Rattle.mk_passes.proofs.Changes.{cell_left, written_among}
use Rattle.mk_scope.proofs.Runs.{at_place, all_at, apart_at}
use Rattle.mk_passes.proofs.times.times_listed.Goals as goal

pub times_at-requires-clause-within : goal.times_at-requires-clause-within
times_at-requires-clause-within c =
    let l : c.loop-place.place < length c.args.offsets.now = omega (arith, c.loop-place-test.true) in
    omega (arith, all_at (λ k. k < length c.args.digits.now) c.args.base c.args.offsets.now c.loop-place.place c.requires.within l, c.loop-place.invariant.as_many_digits)

pub times_at-requires-clause-within_exponents : goal.times_at-requires-clause-within_exponents
times_at-requires-clause-within_exponents c =
    let l : c.loop-place.place < length c.args.offsets.now = omega (arith, c.loop-place-test.true) in
    omega (arith, all_at (λ k. k < length c.args.exponents.now) c.args.base c.args.offsets.now c.loop-place.place c.requires.within_exponents l, c.loop-place.invariant.as_many_exponents)

pub times_at-requires-clause-cell : goal.times_at-requires-clause-cell
times_at-requires-clause-cell c =
    let i = c.loop-place.place in let base = c.args.base in let offsets = c.args.offsets.now in
    let l : i < length offsets = omega (arith, c.loop-place-test.true) in
    cell_left _ (IsAmong (cells_at base offsets) i) c.args.digits.now c.args.exponents.now c.loop-place.digits c.loop-place.exponents (base + slice_index offsets i) c.loop-place.invariant
    (λ p. apart_at base offsets i c.requires.rising l p.0 p.1 (p.2 ∙ at_place base offsets i l))
    (all_at (λ k. IsCell (slice_index c.args.digits.now k) (slice_index c.args.exponents.now k)) base offsets i c.requires.cells l)

pub loop-place-preserved : goal.loop-place-preserved
loop-place-preserved c =
    let i = c.loop-place.place in let base = c.args.base in let offsets = c.args.offsets.now in
    let l : i < length offsets = omega (arith, c.loop-place-test.true) in
    written_among (λ k d e x y. IsTimesCell d e c.args.other.digits c.args.other.exponent x y) (cells_at base offsets) c.args.digits.now c.args.exponents.now c.loop-place.digits c.loop-place.exponents
    c.times_at.new.digits c.times_at.new.exponents i (base + slice_index offsets i) (at_place base offsets i l) (apart_at base offsets i c.requires.rising l)
    (all_at (λ k. k < length c.args.digits.now) base offsets i c.requires.within l) (all_at (λ k. k < length c.args.exponents.now) base offsets i c.requires.within_exponents l)
    c.loop-place.invariant c.times_at.ensures.digits c.times_at.ensures.exponents (record { times = c.times_at.ensures.times })

pub overflow_add-cell : goal.overflow_add-cell
overflow_add-cell c =
    let l : c.loop-place.place < length c.args.offsets.now = omega (arith, c.loop-place-test.true) in
    omega (arith, all_at (λ k. k < length c.args.digits.now) c.args.base c.args.offsets.now c.loop-place.place c.requires.within l)
