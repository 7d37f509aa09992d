use Rattle.std.proofs.Common.{◌≡◌, ℕ, ◌+◌, ◌*◌, ◌<◌, ◌≤◌, All, List, length, arith, ap, sym, subst, ◌∙◌, refl, slice_index, [], replicate}
use Rattle.mk_scope.specs.Cells.{cell_in, cells_where}
use Rattle.mk_net.specs.declared.words.Pair.{Pair}
use Rattle.mk_passes.proofs.Filled.{all_full, filled_full, filled_empty}
use Rattle.mk_table.proofs.Multiplied.{few_chosen, chosen_within, onto_within, from_code, from_blank, event_passes, IsTotal, is_total}
use Rattle.mk_scope.specs.Scopes.{ScopeOf, PlacesOf, LiesIn, HasEvent, cells_in}
use Rattle.mk_table.specs.Tables.{TableOf}
use Rattle.mk_table.specs.Lists.{table_in}
use Rattle.mk_passes.specs.Parts.{AreBlankOrFull, IsFull}
use Rattle.mk_passes.specs.Blank.{one_digits, one_exponent, filled}
use Rattle.mk_table.specs.inner.Store.{scope_in, head_in, store_tables}
use Rattle.mk_table.specs.inner.Touched.{HasTouched}
use Rattle.mk_table.proofs.Whole.{AreParts, parts_room}
use Rattle.mk_table.proofs.Stored.{cells_blank, not_written}
use Rattle.mk_table.proofs.Seen.{IsSeen, is_seen, seen_lent}
use Rattle.mk_table.proofs.tables.Tables.total_times.Given.{Over}
use Rattle.mk_table.proofs.tables.Tables.total_times.Goals as goal
use Rattle.mk_table.proofs.tables.Tables.total_times.Goals.{After-deref-scopes, After-as_slice, After-plus_of_products, After-plus_where}

seen : (g : Over) (c : After-deref-scopes g) (k : ℕ) → k < length c.args.self.now → IsSeen c.deref-scopes.result.now c.self.inside.store c.args.self.now k
seen g c = seen_lent _ _ c.deref-scopes.ensures c.self.inside.store _ c.self.invariant.store_is c.self.view_is

-- what the code reads of both tables and of the places
record AreRead (now other : TableOf) (event : List Pair) (d e md me onto xs : List ℕ) : Type 0 where
  lies : LiesIn other.scope now.scope
  digits : filled one_digits (length onto) d ≡ now.digits
  exponents : filled one_exponent (length onto) e ≡ now.exponents
  other_digits : md ≡ other.digits
  other_exponents : me ≡ other.exponents
  onto_is : (i : ℕ) → i < cells_in now.scope → slice_index onto i ≡ cell_in other.scope now.scope i
  onto_long : length onto ≡ cells_in now.scope
  listed : xs ≡ cells_where now.scope event

lies_now : (places : PlacesOf) (whole part : ScopeOf) → places ≡ record { whole = whole; part = part } → LiesIn places.part places.whole → LiesIn part whole
lies_now places whole part same = subst (λ (s : PlacesOf). LiesIn s.part s.whole) same

parts_of : (t : TableOf) (d e : List ℕ) → d ≡ t.digits → e ≡ t.exponents
    → IsFull t.scope t.digits t.exponents → HasTouched t.scope t.touched
    → AreParts t t.scope t.shift d e
parts_of t d e same same_too full there = record { scope_is = refl; shift_is = refl; digits_are = same; exponents_are = same_too; full = full; there = there }

are_read : (g : Over) (c : After-as_slice g) → IsSeen c.deref-scopes.result.now c.self.inside.store c.args.self.now c.args.k × IsSeen c.deref-scopes.result.now c.self.inside.store c.args.self.now c.args.message
    × AreRead (table_in c.args.self.now c.args.k) (table_in c.args.self.now c.args.message) c.args.event.now c.cells.result.0.now c.cells.result.1.now
    c.cells-2.result.0.now c.cells-2.result.1.now c.onto.result.now c.as_slice.result.now
are_read g c =
    let see = seen_lent _ _ c.deref-scopes.ensures c.self.inside.store _ c.self.invariant.store_is c.self.view_is in
    let k = see c.args.k c.requires.table in let m = see c.args.message c.requires.message_table in
    let now = table_in c.args.self.now c.args.k in let onto = c.onto.result.now in let S = c.deref-scopes.result.now in
    let view : store_tables S c.self.inside.store ≡ c.args.self.now = ap (λ (x : List ScopeOf). store_tables x c.self.inside.store) c.deref-scopes.ensures
    ∙ c.self.view_is in
    let onto_long : length onto ≡ cells_in now.scope = subst (λ (x : PlacesOf). length onto ≡ cells_in x.whole) c.requires.places c.onto.ensures.one_each in
    let count : length onto ≡ cells_in (scope_in S c.args.k) = onto_long ∙ ap cells_in (sym k.scope) in
    let md = c.cells-2.result.0.now in let me = c.cells-2.result.1.now in let C = cells_in (scope_in S c.args.message) in
    let long : length md ≡ C = c.cells-2.ensures.written (sym c.is_written.ensures ∙ c.if-not-is_written.false) in
    let long_too = all_full C md me c.cells-2.ensures.whole (omega (arith, long)) in (
      k,
      m,
      record {
        lies = lies_now _ _ _ c.requires.places c.part_cells.ensures.lies_in;
        digits = ap (λ i. filled one_digits i c.cells.result.0.now) count ∙ c.cells.ensures.digits
            ∙ ap (λ (ts : List TableOf). (table_in ts c.args.k).digits) view;
        exponents = ap (λ i. filled one_exponent i c.cells.result.1.now) count ∙ c.cells.ensures.exponents
            ∙ ap (λ (ts : List TableOf). (table_in ts c.args.k).exponents) view;
        other_digits = sym (filled_full one_digits C md (omega (arith, long))) ∙ c.cells-2.ensures.digits
            ∙ ap (λ (ts : List TableOf). (table_in ts c.args.message).digits) view;
        other_exponents = sym (filled_full one_exponent C me long_too) ∙ c.cells-2.ensures.exponents
            ∙ ap (λ (ts : List TableOf). (table_in ts c.args.message).exponents) view;
        onto_is = subst (λ (x : PlacesOf). (i : ℕ) → i < cells_in x.whole → slice_index onto i ≡ cell_in x.part x.whole i) c.requires.places c.onto.ensures.cell;
        onto_long = onto_long;
        listed = c.as_slice.ensures ∙ c.cells_where.ensures.cells ∙ ap (λ (x : ScopeOf). cells_where x c.args.event.now) (c.scope.ensures ∙ k.scope);
      },
    )

total : (g : Over) (c : After-plus_of_products g) → IsSeen c.deref-scopes.result.now c.self.inside.store c.args.self.now c.args.k × IsSeen c.deref-scopes.result.now c.self.inside.store c.args.self.now c.args.message
    × AreRead (table_in c.args.self.now c.args.k) (table_in c.args.self.now c.args.message) c.args.event.now c.cells.result.0.now c.cells.result.1.now
    c.cells-2.result.0.now c.cells-2.result.1.now c.onto.result.now c.as_slice.result.now
    → IsTotal g.R.Semiring.plus_of (table_in c.args.self.now c.args.k) (table_in c.args.self.now c.args.message) c.args.event.now
    c.plus_of_products.result.digits c.plus_of_products.result.exponent
total g c see =
    let read = see.2 in
    let now = table_in c.args.self.now c.args.k in let other = table_in c.args.self.now c.args.message in
    is_total g.R.Semiring.plus_of g.met.R.Semiring.lawful now other c.args.event.now read.lies see.0.full.as_many_digits see.1.full.as_many_digits see.1.there _ _
    (from_code now other (event_passes now c.args.event.now) read.lies _ _ _ _ c.onto.result.now c.as_slice.result.now read.digits read.exponents
    read.other_digits read.other_exponents read.listed read.onto_is
    g.R.Semiring.plus_of c.plus_of_products.result c.plus_of_products.ensures)

-- where nothing is written of the message
blank_total : (g : Over) (c : After-plus_where g)
    → IsTotal g.R.Semiring.plus_of (table_in c.args.self.now c.args.k) (table_in c.args.self.now c.args.message) c.args.event.now c.plus_where.result.digits
    c.plus_where.result.exponent
blank_total g c =
    let list = c.args.self.now in let m = c.args.message in let now = table_in list c.args.k in let other = table_in list m in let s = c.self.inside.store in
    let seen = is_seen _ s list c.self.invariant.store_is c.self.view_is m c.requires.message_table in
    let size = cells_in other.scope in let count = ap cells_in seen.scope in
    let blank = cells_blank c.self.inside.scopes.value s.heads.items s.digits.items s.exponents.items _ _ _ c.self.invariant.store_is m seen.within
    (not_written (head_in s.heads.items m).place (sym c.is_written.ensures ∙ c.if-not-is_written.true)) in
    let digits : other.digits ≡ filled one_digits size [] = ap (λ (ts : List TableOf). (table_in ts m).digits) (sym c.self.view_is) ∙ blank.0
    ∙ ap (λ i. replicate i one_digits) count ∙ sym (filled_empty one_digits size) in
    let exponents : other.exponents ≡ filled one_exponent size [] =
    ap (λ (ts : List TableOf). (table_in ts m).exponents) (sym c.self.view_is) ∙ blank.1 ∙ ap (λ i. replicate i one_exponent) count
    ∙ sym (filled_empty one_exponent size) in
    let lies : LiesIn other.scope now.scope = lies_now _ _ _ c.requires.places c.part_cells.ensures.lies_in in
    is_total g.R.Semiring.plus_of g.met.R.Semiring.lawful now other c.args.event.now lies c.plus_where.ensures.full.as_many_digits seen.full.as_many_digits
    seen.there _ _
    (from_blank now other (event_passes now c.args.event.now) lies [] [] digits exponents refl refl g.R.Semiring.plus_of c.plus_where.result.digits
    c.plus_where.result.exponent c.plus_where.ensures.stands)

pub returns-then-not-is_written-clause-stands : goal.returns-then-not-is_written-clause-stands
returns-then-not-is_written-clause-stands g c = (blank_total g (goal.at.returns-then-not-is_written-clause-stands g c).After-plus_where).stands

pub returns-then-not-is_written-clause-own : goal.returns-then-not-is_written-clause-own
returns-then-not-is_written-clause-own g c = (blank_total g (goal.at.returns-then-not-is_written-clause-own g c).After-plus_where).own

pub cells-requires-clause-table : goal.cells-requires-clause-table
cells-requires-clause-table g c = (seen g (goal.at.cells-requires-clause-table g c).After-deref-scopes _ c.requires.table).within

pub cells-requires-2-clause-table : goal.cells-requires-2-clause-table
cells-requires-2-clause-table g c = (seen g (goal.at.cells-requires-2-clause-table g c).After-deref-scopes _ c.requires.message_table).within

pub scope-requires : goal.scope-requires
scope-requires g c = (seen g (goal.at.scope-requires g c).After-deref-scopes _ c.requires.table).within

pub cells_where-requires : goal.cells_where-requires
cells_where-requires g c =
    let k = seen g (goal.at.cells_where-requires g c).After-deref-scopes _ c.requires.table in
    subst (λ (x : ScopeOf). HasEvent x c.args.event.now) (sym (c.scope.ensures ∙ k.scope)) c.requires.event

pub plus_of_products-requires-clause-within : goal.plus_of_products-requires-clause-within
plus_of_products-requires-clause-within g c =
    let see = are_read g (goal.at.plus_of_products-requires-clause-within g c).After-as_slice in let read = see.2 in
    let now = table_in c.args.self.now c.args.k in let other = table_in c.args.self.now c.args.message in let passes = event_passes now c.args.event.now in
    let inside = chosen_within now other passes read.lies (length c.onto.result.now) read.onto_long in
    subst (λ (ys : List ℕ). All (λ i. 0 + i < length c.onto.result.now) ys) (sym read.listed) (λ i z l. let w = inside i z l in omega (arith, w))

pub plus_of_products-requires-clause-onto : goal.plus_of_products-requires-clause-onto
plus_of_products-requires-clause-onto g c =
    let see = are_read g (goal.at.plus_of_products-requires-clause-onto g c).After-as_slice in let read = see.2 in
    let now = table_in c.args.self.now c.args.k in let other = table_in c.args.self.now c.args.message in let passes = event_passes now c.args.event.now in
    onto_within now other passes read.lies c.onto.result.now _ read.onto_long read.onto_is
    (ap (λ (ys : List ℕ). length ys) read.other_digits ∙ see.1.full.as_many_digits)

pub plus_of_products-requires-clause-whole : goal.plus_of_products-requires-clause-whole
plus_of_products-requires-clause-whole g c =
    let see = are_read g (goal.at.plus_of_products-requires-clause-whole g c).After-as_slice in let read = see.2 in
    subst (λ i. AreBlankOrFull i c.cells.result.0.now c.cells.result.1.now) (sym (read.onto_long ∙ ap cells_in (sym see.0.scope))) c.cells.ensures.whole

pub plus_of_products-requires-clause-room : goal.plus_of_products-requires-clause-room
plus_of_products-requires-clause-room g c =
    let see = are_read g (goal.at.plus_of_products-requires-clause-room g c).After-as_slice in let read = see.2 in
    let now = table_in c.args.self.now c.args.k in let other = table_in c.args.self.now c.args.message in let passes = event_passes now c.args.event.now in
    let few : length c.as_slice.result.now ≤ cells_in now.scope = let l = few_chosen now other passes read.lies in
    let i = ap (λ (ys : List ℕ). length ys) read.listed in omega (arith, l, i) in
    parts_room now now.scope now.shift _ _ (parts_of _ _ _ read.digits read.exponents see.0.full see.0.there) (2 * cells_in now.scope) (2 * length c.as_slice.result.now) c.requires.room (omega (arith, few))

pub plus_of_products-requires-clause-other_room : goal.plus_of_products-requires-clause-other_room
plus_of_products-requires-clause-other_room g c =
    let see = are_read g (goal.at.plus_of_products-requires-clause-other_room g c).After-as_slice in let read = see.2 in
    let other = table_in c.args.self.now c.args.message in
    parts_room other other.scope other.shift _ _ (parts_of _ _ _ read.other_digits read.other_exponents see.1.full see.1.there) 1 1 c.requires.message_room (omega arith)

pub returns-clause-stands : goal.returns-clause-stands
returns-clause-stands g c =
    let at = goal.at.returns-clause-stands g c in (total g at.After-plus_of_products (are_read g at.After-as_slice)).stands

pub returns-clause-own : goal.returns-clause-own
returns-clause-own g c =
    let at = goal.at.returns-clause-own g c in (total g at.After-plus_of_products (are_read g at.After-as_slice)).own
