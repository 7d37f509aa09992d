use Rattle.std.proofs.Common.{ℕ, ◌<◌, ◌≤◌, List, [], length, replicate, slice_index, inr, refl, arith, ap, sym, subst, ◌∙◌}
use Rattle.mk_scope.specs.Scopes.{cells_in}
use Rattle.mk_scope.specs.Cells.{cell_in}
use Rattle.mk_table.specs.Lists.{table_in}
use Rattle.mk_passes.specs.Blank.{one_digits, one_exponent, filled}
use Rattle.mk_passes.specs.Parts.{IsTimesCell}
use Rattle.mk_table.specs.inner.Store.{head_in, tables_of}
use Rattle.mk_passes.proofs.Filled.{at_most, all_blank, all_full, filled_length, filled_full, filled_empty, one_at, full_room, times_same}
use Rattle.mk_scope.proofs.Kept.{cell_within}
use Rattle.mk_passes.proofs.OnesSum.{times_one}
use Rattle.mk_passes.proofs.Spread.{spread_changed}
use Rattle.mk_table.proofs.Stored.{cells_blank, table_is_full, not_written}
use Rattle.mk_table.proofs.Ranges.{changed_same, room_same, columns_full}
use Rattle.mk_table.proofs.store.Store.times.Goals as goal
use Rattle.mk_table.proofs.store.Store.times.Goals.{After-columns-message}

long : (c : After-columns-message) → cells_in c.args.places.now.part ≤ length c.args.spare.now.digits.items
long c = omega (arith, c.part_cells.ensures.cells, c.len.ensures, c.if-len-part_cells.false, c.args.spare.now.digits.ok.0)

pub returns-then-len-part_cells-clause-changed : goal.returns-then-len-part_cells-clause-changed
returns-then-len-part_cells-clause-changed c =
    let s = c.args.self.now in let old = tables_of c.args.scopes.now s.heads.items s.digits.items s.exponents.items in
    let m = cells_in c.args.places.now.part in
    let none = all_blank m _ _ c.requires.whole (omega (arith, c.part_cells.ensures.cells, c.len.ensures, c.if-len-part_cells.true, c.args.spare.now.digits.ok.0)) in
    let full = table_is_full c.args.scopes.now s.heads.items s.digits.items s.exponents.items _ _ _ c.requires.opened.store c.args.k c.requires.table in
    let count = ap cells_in c.requires.places in
    record {
      as_many_digits = refl;
      as_many_exponents = refl;
      done = λ j l.
          let q = slice_index (table_in old c.args.k).digits j in let x = slice_index (table_in old c.args.k).exponents j in
          let p = cell_in c.args.places.now.part c.args.places.now.whole j in let inside : p < m = cell_within c.args.places.now.part c.args.places.now.whole c.part_cells.ensures.lies_in j l in
          let stand = c.requires.room.1.stand.each j (omega (arith, l, count, full.as_many_digits)) in
          subst (λ y. IsTimesCell q x y (slice_index (filled one_exponent m c.args.spare.now.exponents.items) p) q x) (sym (one_at one_digits m p _ none.0 inside))
          (subst (λ y. IsTimesCell q x one_digits y q x) (sym (one_at one_exponent m p _ none.1 inside)) (times_one q x stand.form));
      digits_left = λ j l. refl;
      exponents_left = λ j l. refl;
    }

pub returns-then-not-is_written-clause-changed : goal.returns-then-not-is_written-clause-changed
returns-then-not-is_written-clause-changed c =
    let s = c.args.self.now in let scopes = c.args.scopes.now in let k = c.args.k in
    let old = tables_of scopes s.heads.items s.digits.items s.exponents.items in let count = ap cells_in c.requires.places in
    let part = c.args.places.now.part in let whole = c.args.places.now.whole in let n = cells_in whole in let m = cells_in part in
    let md = c.args.spare.now.digits.items in let me = c.args.spare.now.exponents.items in let lies = c.part_cells.ensures.lies_in in
    let long : m ≤ length md = omega (arith, c.part_cells.ensures.cells, c.len.ensures, c.if-len-part_cells.false, c.args.spare.now.digits.ok.0) in
    let long_too = all_full m md me c.requires.whole long in
    let blank = cells_blank scopes s.heads.items s.digits.items s.exponents.items _ _ _ c.requires.opened.store k c.requires.table (not_written (head_in s.heads.items k).place (sym c.is_written.ensures ∙ c.if-not-is_written.true)) in
    let after = tables_of scopes c.spread.new.self.heads.items c.spread.new.self.digits.items c.spread.new.self.exponents.items in
    let nd = (table_in after k).digits in let ne = (table_in after k).exponents in
    let full = c.spread.ensures.full in let room = c.requires.other_room.1 in
    let all = filled_full one_digits n nd (omega (arith, full.as_many_digits)) in let all_too = filled_full one_exponent n ne (omega (arith, full.as_many_exponents)) in
    let many = filled_length one_digits m md (at_most m md me c.requires.whole).0 in
    changed_same (λ i d e y z. IsTimesCell d e (slice_index (filled one_digits m md) (cell_in part whole i)) (slice_index (filled one_exponent m me) (cell_in part whole i)) y z) (λ i. i < n) _ _ _ _ _ _ _ _
    (filled_empty one_digits n ∙ ap (λ i. replicate i one_digits) count ∙ sym blank.0) (filled_empty one_exponent n ∙ ap (λ i. replicate i one_exponent) count ∙ sym blank.1) all all_too
    (spread_changed part whole lies [] [] md me nd ne (refl, refl) (record { either = inr (full.as_many_digits, full.as_many_exponents) }) (λ p l. (room.stand.each p (omega (arith, l, many))).form)
    (λ j l. ap (λ (ys : List ℕ). slice_index ys j) all ∙ c.spread.ensures.digits j l) (λ j l. ap (λ (ys : List ℕ). slice_index ys j) all_too ∙ c.spread.ensures.exponents j l))

pub change-requires-clause-fits : goal.change-requires-clause-fits
change-requires-clause-fits c =
    let all = long (goal.at.change-requires-clause-fits c).After-columns-message in (
      c.requires.places,
      columns_full _ _ _ _ _ c.requires.whole all c.columns-message.ensures.digits c.columns-message.ensures.exponents,
      room_same 1 _ _ _ _ c.columns-message.ensures.digits c.columns-message.ensures.exponents
          (c.requires.other_room.0, full_room _ _ _ c.requires.whole all c.requires.other_room.0 1 c.requires.other_room.1),
      c.requires.room,
    )

pub returns-clause-changed : goal.returns-clause-changed
returns-clause-changed c =
    let m = cells_in c.args.places.now.part in let md = c.args.spare.now.digits.items in let me = c.args.spare.now.exponents.items in
    let all = long (goal.at.returns-clause-changed c).After-columns-message in
    times_same c.args.places.now.part c.args.places.now.whole _ _ _ _ _ _ _ _ _ _ _ _ (c.columns-message.ensures.digits ∙ sym (filled_full one_digits m md all))
    (c.columns-message.ensures.exponents ∙ sym (filled_full one_exponent m me (all_full m md me c.requires.whole all))) refl refl refl refl c.change.ensures.made
