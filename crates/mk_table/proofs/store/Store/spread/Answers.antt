use Rattle.std.proofs.Common.{◌≡◌, ℕ, ◌<◌, ◌≤◌, List, length, replicate, slice_index, refl, arith, ap, sym, ◌∙◌}
use Rattle.std.proofs.lemmas.List.{get_or-replicate, length-replicate}
use Rattle.mk_scope.specs.Scopes.{cells_in}
use Rattle.mk_scope.specs.Cells.{cell_in}
use Rattle.mk_table.specs.Lists.{table_in}
use Rattle.mk_passes.specs.Blank.{one_digits, one_exponent, filled}
use Rattle.mk_table.specs.inner.Store.{scope_in, store_tables}
use Rattle.mk_passes.proofs.Filled.{all_blank, all_full, filled_full, one_at}
use Rattle.mk_scope.proofs.Kept.{cell_within}
use Rattle.mk_table.proofs.Stored.{table_is_full, tables_length}
use Rattle.mk_table.proofs.Ranges.{after_digits, after_exponents, columns_full}
use Rattle.mk_table.proofs.store.Store.spread.Goals as goal
use Rattle.mk_table.proofs.store.Store.spread.Goals.{After-blank, After-columns-message}

long : (c : After-columns-message) → cells_in c.args.places.now.part ≤ length c.args.spare.now.digits.items
long c = omega (arith, c.part_cells.ensures.cells, c.len.ensures, c.if-len-part_cells.false, c.args.spare.now.digits.ok.0)

blanked : (c : After-blank) → let count = cells_in (scope_in c.args.scopes.now c.args.k) in let after = table_in (store_tables c.args.scopes.now c.blank.new.self) c.args.k in
    (after.digits ≡ replicate count one_digits) × (after.exponents ≡ replicate count one_exponent)
blanked c =
    let old = store_tables c.args.scopes.now c.args.self.now in let count = cells_in (scope_in c.args.scopes.now c.args.k) in
    let within : c.args.k < length old = (let i = tables_length c.args.scopes.now c.args.self.now.heads.items c.args.self.now.digits.items c.args.self.now.exponents.items in omega (arith, i, c.requires.table)) in (
      after_digits old old _ c.args.k within refl (replicate count one_digits) (replicate count one_exponent) c.blank.ensures.tables,
      after_exponents old old _ c.args.k within refl (replicate count one_digits) (replicate count one_exponent) c.blank.ensures.tables,
    )

pub returns-then-len-part_cells-clause-full : goal.returns-then-len-part_cells-clause-full
returns-then-len-part_cells-clause-full c =
    let blank = (blanked (goal.at.returns-then-len-part_cells-clause-full c).After-blank) in let count = ap cells_in c.requires.places in
    record {
      as_many_digits = ap (λ (ys : List ℕ). length ys) blank.0 ∙ length-replicate _ one_digits ∙ sym count;
      as_many_exponents = ap (λ (ys : List ℕ). length ys) blank.1 ∙ length-replicate _ one_exponent ∙ sym count;
    }

-- nothing is written of the message
none : (c : After-blank) → (length c.args.spare.now.digits.items ≡ 0) × (length c.args.spare.now.exponents.items ≡ 0)
none c = all_blank _ _ _ c.requires.whole (omega (arith, c.part_cells.ensures.cells, c.len.ensures, c.if-len-part_cells.true, c.args.spare.now.digits.ok.0))

-- a cell that is one, like that of the message
one_too : (one count m : ℕ) (ys xs : List ℕ) (j p : ℕ) → ys ≡ replicate count one → length xs ≡ 0 → j < count → p < m → slice_index ys j ≡ slice_index (filled one m xs) p
one_too one count m ys xs j p blank none l within = ap (λ (zs : List ℕ). slice_index zs j) blank ∙ get_or-replicate count j one 0 l ∙ sym (one_at one m p xs none within)

pub returns-then-len-part_cells-clause-digits : goal.returns-then-len-part_cells-clause-digits
returns-then-len-part_cells-clause-digits c = λ j l.
    let at = (goal.at.returns-then-len-part_cells-clause-digits c).After-blank in let count = ap cells_in c.requires.places in
    one_too one_digits _ _ _ _ j _ (blanked at).0 (none at).0 (omega (arith, l, count)) (cell_within c.args.places.now.part c.args.places.now.whole c.part_cells.ensures.lies_in j l)

pub returns-then-len-part_cells-clause-exponents : goal.returns-then-len-part_cells-clause-exponents
returns-then-len-part_cells-clause-exponents c = λ j l.
    let at = (goal.at.returns-then-len-part_cells-clause-exponents c).After-blank in let count = ap cells_in c.requires.places in
    one_too one_exponent _ _ _ _ j _ (blanked at).1 (none at).1 (omega (arith, l, count)) (cell_within c.args.places.now.part c.args.places.now.whole c.part_cells.ensures.lies_in j l)

pub change-requires-clause-fits : goal.change-requires-clause-fits
change-requires-clause-fits c =
    let all = long (goal.at.change-requires-clause-fits c).After-columns-message in
    (c.requires.places, columns_full _ _ _ _ _ c.requires.whole all c.columns-message.ensures.digits c.columns-message.ensures.exponents, c.part_cells.ensures.lies_in)

pub returns-clause-full : goal.returns-clause-full
returns-clause-full c =
    let s = c.change.new.self in
    let full = table_is_full _ s.heads.items s.digits.items s.exponents.items _ _ _ c.change.ensures.cells.opened.store c.args.k c.requires.table in let count = ap cells_in c.requires.places in
    record { as_many_digits = full.as_many_digits ∙ sym count; as_many_exponents = full.as_many_exponents ∙ sym count }

pub returns-clause-digits : goal.returns-clause-digits
returns-clause-digits c = λ j i.
    let all = filled_full one_digits _ _ (long (goal.at.returns-clause-digits c).After-columns-message) in
    c.change.ensures.made.0 j i ∙ ap (λ (ys : List ℕ). slice_index ys (cell_in c.args.places.now.part c.args.places.now.whole j)) (c.columns-message.ensures.digits ∙ sym all)

pub returns-clause-exponents : goal.returns-clause-exponents
returns-clause-exponents c = λ j i.
    let all = filled_full one_exponent _ _ (all_full _ _ _ c.requires.whole (long (goal.at.returns-clause-exponents c).After-columns-message)) in
    c.change.ensures.made.1 j i ∙ ap (λ (ys : List ℕ). slice_index ys (cell_in c.args.places.now.part c.args.places.now.whole j)) (c.columns-message.ensures.exponents ∙ sym all)
