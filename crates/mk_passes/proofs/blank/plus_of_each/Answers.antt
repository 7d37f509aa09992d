use Rattle.std.proofs.Common.{◌≡◌, ℕ, ◌+◌, ◌-◌, ◌*◌, List, length, slice_index, arith, ap, subst, sym, ◌∙◌}
use Rattle.std.specs.Vec.{with_items}
use Rattle.std.proofs.lemmas.List.{get_or-replicate}
use Rattle.mk_states.specs.States.{plus_over}
use Rattle.mk_cell.specs.Cell.{StandsAt}
use Rattle.mk_passes.specs.Blank.{one_digits, one_exponent, filled}
use Rattle.mk_passes.specs.inner.Made.{CanAdd, MakesPlus}
use Rattle.mk_passes.proofs.Making.{can_add, made_each, put_first, within_written}
use Rattle.mk_passes.proofs.Filled.{all_blank, full_room, full_listed, held_items, held_after}
use Rattle.mk_scope.specs.Runs.{runs_of}
use Rattle.mk_passes.proofs.OnesSum.{ones_listed}
use Rattle.mk_scope.proofs.Runs.{length-runs}
use Rattle.mk_passes.proofs.blank.plus_of_each.Goals as goal

pub overflow_mul-lists : goal.overflow_mul-lists
overflow_mul-lists g c = let e = length-runs c.args.lists.run c.args.lists.offsets.now in omega (arith, e, c.requires.few)

pub plus_of_ones-cell-requires : goal.plus_of_ones-cell-requires
plus_of_ones-cell-requires g c = let e = length-runs c.args.lists.run c.args.lists.offsets.now in omega (arith, e, c.requires.few)

pub put_sums-requires : goal.put_sums-requires
put_sums-requires g c =
    let d = c.args.from.digits.now in let e = c.args.from.exponents.now in let lists = c.args.lists in
    put_first (CanAdd d e lists.bases.now lists.offsets.now lists.run) (length lists.bases.now) _ _
    (omega (arith, c.deref_mut.ensures.len, c.fill.ensures.all_digits)) (omega (arith, c.deref_mut-else-from-cells.ensures.len, c.fill.ensures.all_exponents))
    (can_add d e lists.bases.now lists.offsets.now lists.run c.requires.some c.requires.few
    (λ b l. within_written c.args.cells (length d) (slice_index lists.bases.now b) (runs_of lists.run lists.offsets.now) c.if-from-cells.false (c.requires.within b l))
    (c.requires.room.0, full_room c.args.cells d e c.requires.whole c.if-from-cells.false c.requires.room.0 _ c.requires.room.1))

pub returns-then-from-cells-clause-stand : goal.returns-then-from-cells-clause-stand
returns-then-from-cells-clause-stand g c = λ b l k f n h.
    let d = c.args.from.digits.now in let e = c.args.from.exponents.now in let offsets = runs_of c.args.lists.run c.args.lists.offsets.now in let count = length c.args.lists.bases.now in
    let base = slice_index c.args.lists.bases.now b in let R = g.R.Semiring in let cell = c.plus_of_ones-cell.result in
    let blank = all_blank c.args.cells d e c.requires.whole c.if-from-cells.true in
    let made = subst (λ m. StandsAt k cell.digits cell.exponent (plus_over R.plus_of 0 (λ j. f (base + j)) offsets) (n + (2 * m - 1))) (sym (length-runs c.args.lists.run c.args.lists.offsets.now))
    (c.plus_of_ones-cell.ensures offsets (length-runs c.args.lists.run c.args.lists.offsets.now) k (λ j. f (base + j)) n (ones_listed k c.args.cells d e blank.0 blank.1 f n base offsets (c.requires.within b l) h)) in
    let i : cell.digits ≡ slice_index (filled one_digits count c.put_everywhere.new.digits.items) b =
    sym (ap (λ (ys : List ℕ). slice_index ys b) c.put_everywhere.ensures.digits ∙ get_or-replicate count b cell.digits 0 l) in
    let j : cell.exponent ≡ slice_index (filled one_exponent count c.put_everywhere.new.exponents.items) b =
    sym (ap (λ (ys : List ℕ). slice_index ys b) c.put_everywhere.ensures.exponents ∙ get_or-replicate count b cell.exponent 0 l) in
    subst (λ y. StandsAt k (slice_index (filled one_digits count c.put_everywhere.new.digits.items) b) y (plus_over R.plus_of 0 (λ x. f (base + x)) offsets) (n + (2 * length offsets - 1))) j
    (subst (λ y. StandsAt k y cell.exponent (plus_over R.plus_of 0 (λ x. f (base + x)) offsets) (n + (2 * length offsets - 1))) i made)

pub returns-else-from-cells-clause-stand : goal.returns-else-from-cells-clause-stand
returns-else-from-cells-clause-stand g c = λ b l k f n h.
    let offsets = runs_of c.args.lists.run c.args.lists.offsets.now in let count = length c.args.lists.bases.now in
    let base = slice_index c.args.lists.bases.now b in let R = g.R.Semiring in
    let nd = c.put_sums.new.digits in let ne = c.put_sums.new.exponents in
    let made = made_each (MakesPlus R.plus_of c.args.from.digits.now c.args.from.exponents.now c.args.lists.bases.now offsets) count _ _ nd ne c.put_sums.ensures b l k f n (full_listed c.args.cells c.args.from.digits.now c.args.from.exponents.now c.requires.whole c.if-from-cells.false k f n base offsets h) in
    let i = held_items one_digits count c.fill.new.digits nd (omega (arith, c.put_sums.auto.digits, c.deref_mut.ensures.len)) c.fill.ensures.all_digits in
    let j = held_items one_exponent count c.fill.new.exponents ne (omega (arith, c.put_sums.auto.exponents, c.deref_mut-else-from-cells.ensures.len)) c.fill.ensures.all_exponents in
    subst (λ (ys : List ℕ). StandsAt k (slice_index (filled one_digits count (with_items c.fill.new.digits nd).items) b) (slice_index ys b) (plus_over R.plus_of 0 (λ x. f (base + x)) offsets) (n + (2 * length offsets - 1))) (sym j)
    (subst (λ (ys : List ℕ). StandsAt k (slice_index ys b) (slice_index ne b) (plus_over R.plus_of 0 (λ x. f (base + x)) offsets) (n + (2 * length offsets - 1))) (sym i) made)

pub returns-else-from-cells-clause-held : goal.returns-else-from-cells-clause-held
returns-else-from-cells-clause-held g c =
    held_after (length c.args.lists.bases.now) c.fill.new.digits c.fill.new.exponents c.put_sums.new.digits c.put_sums.new.exponents
    (omega (arith, c.put_sums.auto.digits, c.deref_mut.ensures.len)) (omega (arith, c.put_sums.auto.exponents, c.deref_mut-else-from-cells.ensures.len))
    c.fill.ensures.all_digits c.fill.ensures.all_exponents (omega (arith, c.fill.ensures.digits_room, c.requires.out.digits_fit)) (omega (arith, c.fill.ensures.exponents_room, c.requires.out.exponents_fit))
