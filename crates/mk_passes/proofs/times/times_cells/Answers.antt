use Rattle.std.proofs.Common.{◌≡◌, ◌<◌, length, slice_index, arith}
use Rattle.mk_cell.specs.Cell.{IsCell}
use Rattle.mk_scope.specs.Scopes.{cells_in}
use Rattle.mk_scope.specs.Cells.{cell_in}
use Rattle.mk_passes.specs.Parts.{IsTimesCell}
use Rattle.mk_passes.proofs.Changes.{left_cell, room_cell, changed_where}
use Rattle.mk_scope.proofs.Kept.{cell_within}
use Rattle.mk_passes.proofs.Placed.{IsBefore, placed_below, placed_each, placed_rising, message_more}
use Rattle.mk_passes.proofs.times.times_cells.Goals as goal

pub times_far-requires-clause-within : goal.times_far-requires-clause-within
times_far-requires-clause-within c =
    let at = c.lists-run in placed_below _ _ at.result.0.now at.result.1.now at.result.2 at.ensures c.loop-place.place (omega (arith, at.ensures.one_each, c.loop-place-test.true)) (length c.loop-place.digits) (omega (arith, c.loop-place.invariant.as_many_digits, c.requires.full.as_many_digits))

pub times_far-requires-clause-within_exponents : goal.times_far-requires-clause-within_exponents
times_far-requires-clause-within_exponents c =
    let at = c.lists-run in placed_below _ _ at.result.0.now at.result.1.now at.result.2 at.ensures c.loop-place.place (omega (arith, at.ensures.one_each, c.loop-place-test.true)) (length c.loop-place.exponents) (omega (arith, c.loop-place.invariant.as_many_exponents, c.requires.full.as_many_exponents))

pub times_far-requires-clause-rising : goal.times_far-requires-clause-rising
times_far-requires-clause-rising c =
    let d = c.loop-place.place in let part = c.args.places.now.part in
    let l : d < cells_in part = omega (arith, c.lists-run.ensures.one_each, c.loop-place-test.true) in
    placed_rising part c.args.places.now.whole c.lists-run.result.0.now c.lists-run.result.1.now c.lists-run.result.2 c.lists-run.ensures d l

pub times_far-requires-clause-cells : goal.times_far-requires-clause-cells
times_far-requires-clause-cells c =
    let d = c.loop-place.place in let part = c.args.places.now.part in let whole = c.args.places.now.whole in
    let l : d < cells_in part = omega (arith, c.lists-run.ensures.one_each, c.loop-place-test.true) in
    placed_each part whole c.lists-run.result.0.now c.lists-run.result.1.now c.lists-run.result.2 c.lists-run.ensures d l (λ k. IsCell (slice_index c.loop-place.digits k) (slice_index c.loop-place.exponents k))
    (λ k m e.
    left_cell _ (IsBefore part whole d) c.args.digits.now c.args.exponents.now c.loop-place.digits c.loop-place.exponents c.requires.room.0 1 k c.requires.room.1 c.loop-place.invariant
    (λ p. omega (arith, p.1, e)) (omega (arith, m, c.requires.full.as_many_digits)))

pub times_far-requires-clause-other : goal.times_far-requires-clause-other
times_far-requires-clause-other c =
    room_cell c.args.other_digits.now c.args.other_exponents.now c.requires.other_room.0 1 c.loop-place.place c.requires.other_room.1
    (omega (arith, c.requires.other_full.as_many_digits, c.lists-run.ensures.one_each, c.loop-place-test.true))

pub loop-place-preserved : goal.loop-place-preserved
loop-place-preserved c =
    let d = c.loop-place.place in let part = c.args.places.now.part in
    let l : d < cells_in part = omega (arith, c.lists-run.ensures.one_each, c.loop-place-test.true) in
    message_more part c.args.places.now.whole c.lists-run.result.0.now c.lists-run.result.1.now c.lists-run.result.2 c.lists-run.ensures d l c.args.other_digits.now c.args.other_exponents.now c.args.digits.now c.args.exponents.now
    c.loop-place.digits c.loop-place.exponents c.times_far.new.digits c.times_far.new.exponents c.loop-place.invariant c.times_far.ensures

pub returns-clause-changed : goal.returns-clause-changed
returns-clause-changed c =
    let part = c.args.places.now.part in let whole = c.args.places.now.whole in
    let m = c.args.other_digits.now in let x' = c.args.other_exponents.now in
    let all : cells_in part ≡ c.loop-place.place = omega (arith, c.lists-run.ensures.one_each, c.loop-place-test.false) in
    changed_where (λ i d e x y. IsTimesCell d e (slice_index m (cell_in part whole i)) (slice_index x' (cell_in part whole i)) x y) (IsBefore part whole c.loop-place.place) (λ i. i < cells_in whole)
    c.args.digits.now c.args.exponents.now c.loop-place.digits c.loop-place.exponents (λ i l. (l, omega (arith, all, cell_within part whole c.lists-run.ensures.lies_in i l))) (λ i p. p.0) c.loop-place.invariant
