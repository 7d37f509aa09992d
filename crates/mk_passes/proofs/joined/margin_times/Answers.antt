use Rattle.std.proofs.Common.{◌≡◌, ℕ, ◌+◌, ◌-◌, ◌*◌, ◌<◌, ◌≤◌, List, length, slice_index, arith, ap, subst, sym, refl, ◌∙◌}
use Rattle.std.specs.Vec.{with_items}
use Rattle.std.proofs.lemmas.List.{get_or_default}
use Rattle.mk_scope.specs.Scopes.{ScopeOf, LiesIn, cells_in}
use Rattle.mk_scope.specs.Cells.{cell_in, cells_beside, cells_onto}
use Rattle.mk_passes.specs.Blank.{one_digits, one_exponent, filled}
use Rattle.mk_passes.specs.Parts.{MakesPlusOfPairs, StandListed}
use Rattle.mk_cell.specs.Cell.{StandsAt}
use Rattle.mk_states.specs.States.{plus_over}
use Rattle.mk_scope.specs.Runs.{runs_of}
use Rattle.mk_passes.proofs.Filled.{all_blank, all_full, filled_full, full_room, held_items}
use Rattle.mk_scope.proofs.Kept.{cell_within}
use Rattle.mk_scope.proofs.Onto.{places_beside}
use Rattle.mk_passes.proofs.Paired.{full_made, blank_made}
use Rattle.mk_scope.proofs.Reached.{each_onto, onto_within}
use Rattle.mk_passes.proofs.joined.margin_times.Goals as goal

pub plus_of_each-requires-clause-within : goal.plus_of_each-requires-clause-within
plus_of_each-requires-clause-within g c = λ b l.
    let part = c.args.places.now.part in let whole = c.args.places.now.whole in let bases = c.lists-run.result.0.now in let offsets = runs_of c.lists-run.result.2 c.lists-run.result.1.now in
    rw c.whole_cells.ensures (onto_within part whole (slice_index bases b) offsets b (c.lists-run.ensures.onto b (omega (arith, l, c.lists-run.ensures.one_each))))

pub products_at_each-requires-clause-within : goal.products_at_each-requires-clause-within
products_at_each-requires-clause-within g c = λ b l.
    let part = c.args.places.now.part in let whole = c.args.places.now.whole in let bases = c.single_lists.result.0.now in let offsets = c.single_lists.result.1.now in
    let count : length c.onto-onto.result.now ≡ cells_in whole = c.onto-onto.ensures.one_each ∙ ap cells_in c.requires.one_whole in
    rw count (onto_within part whole (slice_index bases b) offsets b (c.single_lists.ensures.onto b (omega (arith, l, c.single_lists.ensures.one_each))))

pub products_at_each-requires-clause-onto : goal.products_at_each-requires-clause-onto
products_at_each-requires-clause-onto g c = λ i z l.
    let other = c.args.other_places.now.part in let whole = c.args.other_places.now.whole in let onto = c.onto-onto.result.now in
    let k : i < cells_in whole = omega (arith, l, c.onto-onto.ensures.one_each) in
    let w = cell_within other whole c.part_cells.ensures.lies_in i k in
    subst (λ y. y < length c.args.right.digits.now) (sym (get_or_default onto i z 0 l ∙ c.onto-onto.ensures.cell i k)) (omega (arith, w, c.part_cells.ensures.cells, c.if-right-part_cells.false))

pub products_at_each-requires-clause-other_room : goal.products_at_each-requires-clause-other_room
products_at_each-requires-clause-other_room g c =
    let count = cells_in c.args.other_places.now.part in
    (c.requires.other_room.0, full_room count c.args.right.digits.now c.args.right.exponents.now c.requires.other (omega (arith, c.part_cells.ensures.cells, c.if-right-part_cells.false)) c.requires.other_room.0 1 c.requires.other_room.1)

pub returns-then-right-part_cells-clause-made : goal.returns-then-right-part_cells-clause-made
returns-then-right-part_cells-clause-made g c = λ d l.
    let part = c.args.places.now.part in let whole = c.args.places.now.whole in let other = c.args.other_places.now.part in
    let bases = c.lists-run.result.0.now in let offsets = runs_of c.lists-run.result.2 c.lists-run.result.1.now in let are = c.lists-run.ensures in
    let R = g.R.Semiring in let count = cells_in other in
    let od = filled one_digits (cells_in whole) c.args.left.digits.now in let oe = filled one_exponent (cells_in whole) c.args.left.exponents.now in
    let md = filled one_digits count c.args.right.digits.now in let me = filled one_exponent count c.args.right.exponents.now in
    let onto = cells_onto part whole d in let goes : ℕ → ℕ = cell_in other whole in
    let lies : LiesIn other whole = subst (λ (s : ScopeOf). LiesIn other s) c.requires.one_whole c.part_cells.ensures.lies_in in
    let blank = all_blank count c.args.right.digits.now c.args.right.exponents.now c.requires.other (omega (arith, c.part_cells.ensures.cells, c.if-right-part_cells.true)) in
    let nd = c.plus_of_each.new.out_digits.items in let ne = c.plus_of_each.new.out_exponents.items in
    let made = blank_made R.plus_of od oe md me goes (slice_index bases d) offsets onto (are.onto d l) (cells_beside part whole) (places_beside part whole bases offsets c.lists-run.result.2 are)
    (slice_index (filled one_digits (length bases) nd) d) (slice_index (filled one_exponent (length bases) ne) d) count c.args.right.digits.now c.args.right.exponents.now refl refl blank.0 blank.1
    (each_onto part whole d (λ i. goes i < count) (λ i k. cell_within other whole lies i k))
    (subst (λ m. (k : ℕ) (f : ℕ → ℕ) (n : ℕ) → StandListed k (filled one_digits m c.args.left.digits.now) (filled one_exponent m c.args.left.exponents.now) f n (slice_index bases d) offsets
    → StandsAt k (slice_index (filled one_digits (length bases) nd) d) (slice_index (filled one_exponent (length bases) ne) d) (plus_over R.plus_of 0 (λ i. f (slice_index bases d + i)) offsets) (n + (2 * length offsets - 1)))
    c.whole_cells.ensures (c.plus_of_each.ensures.stand d (omega (arith, l, are.one_each)))) in
    subst (λ m. MakesPlusOfPairs R.plus_of od oe md me goes onto (2 * cells_beside part whole + 1) (slice_index (filled one_digits m nd) d) (slice_index (filled one_exponent m ne) d)) are.one_each made

pub returns-else-right-part_cells-clause-made : goal.returns-else-right-part_cells-clause-made
returns-else-right-part_cells-clause-made g c = λ d l.
    let part = c.args.places.now.part in let whole = c.args.places.now.whole in let other = c.args.other_places.now.part in
    let bases = c.single_lists.result.0.now in let offsets = c.single_lists.result.1.now in let are = c.single_lists.ensures in
    let R = g.R.Semiring in let count = cells_in other in let places = c.onto-onto.result.now in
    let od = filled one_digits (cells_in whole) c.args.left.digits.now in let oe = filled one_exponent (cells_in whole) c.args.left.exponents.now in
    let md = filled one_digits count c.args.right.digits.now in let me = filled one_exponent count c.args.right.exponents.now in
    let onto = cells_onto part whole d in let goes : ℕ → ℕ = cell_in other whole in
    let written : count ≤ length c.args.right.digits.now = omega (arith, c.part_cells.ensures.cells, c.if-right-part_cells.false) in
    let long : length places ≡ cells_in whole = c.onto-onto.ensures.one_each ∙ ap cells_in c.requires.one_whole in
    let goes_are : (i : ℕ) → i < cells_in whole → slice_index places i ≡ goes i = subst (λ (s : ScopeOf). (i : ℕ) → i < cells_in s → slice_index places i ≡ cell_in other s i) c.requires.one_whole c.onto-onto.ensures.cell in
    let nd = c.products_at_each.new.digits in let ne = c.products_at_each.new.exponents in
    let made = full_made R.plus_of od oe md me goes (slice_index bases d) offsets onto (are.onto d l) (cells_beside part whole) (places_beside part whole bases offsets 1 are)
    (slice_index nd d) (slice_index ne d) (filled one_digits (length places) c.args.left.digits.now) (filled one_exponent (length places) c.args.left.exponents.now) c.args.right.digits.now c.args.right.exponents.now places
    (ap (λ m. filled one_digits m c.args.left.digits.now) long) (ap (λ m. filled one_exponent m c.args.left.exponents.now) long)
    (sym (filled_full one_digits count c.args.right.digits.now written)) (sym (filled_full one_exponent count c.args.right.exponents.now (all_full count c.args.right.digits.now c.args.right.exponents.now c.requires.other written)))
    (each_onto part whole d (λ i. slice_index places i ≡ goes i) goes_are)
    (c.products_at_each.ensures.made d (omega (arith, l, are.one_each))) in
    let all = are.one_each in
    let i = held_items one_digits (cells_in part) c.fill.new.digits nd (omega (arith, c.products_at_each.auto.digits, c.deref_mut.ensures.len)) (omega (arith, c.fill.ensures.all_digits, all)) in
    let j = held_items one_exponent (cells_in part) c.fill.new.exponents ne (omega (arith, c.products_at_each.auto.exponents, c.deref_mut-else-right-part_cells.ensures.len)) (omega (arith, c.fill.ensures.all_exponents, all)) in
    subst (λ (ys : List ℕ). MakesPlusOfPairs R.plus_of od oe md me goes onto (2 * cells_beside part whole + 1) (slice_index (filled one_digits (cells_in part) (with_items c.fill.new.digits nd).items) d) (slice_index ys d)) (sym j)
    (subst (λ (ys : List ℕ). MakesPlusOfPairs R.plus_of od oe md me goes onto (2 * cells_beside part whole + 1) (slice_index ys d) (slice_index ne d)) (sym i) made)
