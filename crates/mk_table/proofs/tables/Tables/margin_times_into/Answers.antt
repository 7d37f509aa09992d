use Rattle.std.proofs.Common.{◌≡◌, ℕ, ◌+◌, ◌*◌, ◌<◌, List, length, arith, ap, sym, subst, ◌∙◌, inl}
use Rattle.std.specs.Prelude.{Option}
use Rattle.mk_states.specs.States.{plus_over}
use Rattle.mk_scope.specs.Cells.{cell_in, cells_onto, cells_beside}
use Rattle.mk_passes.proofs.Filled.{at_most, filled_length}
use Rattle.mk_table.proofs.Pluses.{AreMade, made_of_parts, joined_numbers}
use Rattle.mk_net.specs.declared.words.Pair.{Pair}
use Rattle.mk_scope.specs.Scopes.{ScopeOf, LiesIn, cells_in}
use Rattle.mk_table.specs.Lists.{table_in}
use Rattle.mk_table.specs.Ratios.{KeepsPairs}
use Rattle.mk_passes.specs.Parts.{AreBlankOrFull}
use Rattle.mk_table.specs.inner.Touched.{IsEitherWithin}
use Rattle.mk_passes.specs.Blank.{one_digits, one_exponent, filled}
use Rattle.mk_table.specs.inner.Store.{IsStoreOf, scope_in, head_in, store_tables}
use Rattle.mk_table.proofs.Whole.{parts_room}
use Rattle.mk_table.proofs.Seen.{IsSeen, is_seen, opened, HasHeads, heads_kept, HasBecome, both_become}
use Rattle.mk_table.proofs.Seen.{ArePlaced, are_placed, parts_filled, room_lent}
use Rattle.mk_table.proofs.tables.Tables.margin_times_into.Given.{Over}
use Rattle.mk_table.proofs.tables.Tables.margin_times_into.Goals as goal
use Rattle.mk_table.proofs.tables.Tables.margin_times_into.Goals.{After-open, After-put, After-put_both_ratios_within}

seen : (g : Over) (c : After-open g) (k : ℕ) → k < length c.args.self.now → IsSeen c.deref-scopes.result.now c.open.new.self c.args.self.now k
seen g c = is_seen _ c.open.new.self _ c.open.ensures.same.opened.store (opened _ _ c.deref-scopes.ensures c.self.inside.store c.open.new.self _ c.open.ensures.same.tables
    c.self.view_is)

placed : (g : Over) (c : After-open g) → ArePlaced c.deref-scopes.result.now c.args.self.now c.args.k c.args.out c.args.places.now
placed g c = are_placed _ c.open.new.self _ _ _ _ c.requires.places (seen g c _ c.requires.table) (seen g c _ c.requires.out_table)

placed_too : (g : Over) (c : After-open g) → ArePlaced c.deref-scopes.result.now c.args.self.now c.args.k c.args.other c.args.other_places.now
placed_too g c = are_placed _ c.open.new.self _ _ _ _ c.requires.other_places (seen g c _ c.requires.table) (seen g c _ c.requires.other_table)

heads : (g : Over) (c : After-put g) → HasHeads c.args.self.now c.put.new.self
heads g c =
    heads_kept _ _ c.open.new.self c.put.new.self (opened _ _ c.deref-scopes.ensures c.self.inside.store c.open.new.self _ c.open.ensures.same.tables c.self.view_is)
    _ c.requires.out_table
    c.put.ensures.opened.store _ _ c.put.ensures.tables

becomes : (g : Over) (c : After-put_both_ratios_within g) → HasHeads c.args.self.now c.put.new.self
    → let count = cells_in (scope_in c.deref-scopes.result.now c.args.out) in
    HasBecome c.args.self.now (store_tables c.self.inside.scopes.value c.put_both_ratios_within.new.self) c.args.out
    ((table_in c.args.self.now c.args.k).shift + (table_in c.args.self.now c.args.other).shift)
    (filled one_digits count c.margin_times.new.out_digits.items) (filled one_exponent count c.margin_times.new.out_exponents.items)
    (head_in c.put_both_ratios_within.new.self.heads.items c.args.out).touched
becomes g c keep =
    both_become _ _ c.deref-scopes.ensures _ c.open.new.self c.put.new.self c.put_both_ratios_within.new.self
    (opened _ _ c.deref-scopes.ensures c.self.inside.store c.open.new.self _ c.open.ensures.same.tables c.self.view_is)
    _ c.requires.out_table _ _ _ _ (ap (λ i. i + (head_in c.put.new.self.heads.items c.args.other).shift) (keep.shift _ c.requires.table)
    ∙ ap (λ i. (table_in c.args.self.now c.args.k).shift + i) (keep.shift _ c.requires.other_table)) _ c.put.ensures.tables
    c.put_both_ratios_within.ensures.ratios.tables

either : (g : Over) (c : After-put_both_ratios_within g) → HasHeads c.args.self.now c.put.new.self
    → scope_in c.deref-scopes.result.now c.args.out ≡ (table_in c.args.self.now c.args.out).scope
    → IsEitherWithin (table_in c.args.self.now c.args.out).scope (table_in c.args.self.now c.args.k).touched (table_in c.args.self.now c.args.other).touched
    (head_in c.put_both_ratios_within.new.self.heads.items c.args.out).touched
either g c keep scope_is =
    let one = (table_in c.args.self.now c.args.k).touched in let other = (table_in c.args.self.now c.args.other).touched in
    let S = scope_in c.deref-scopes.result.now c.args.out in
    subst (λ (x : ScopeOf). IsEitherWithin x one other (head_in c.put_both_ratios_within.new.self.heads.items c.args.out).touched) scope_is
    (subst (λ (u : Option (List Pair)). IsEitherWithin S u other (head_in c.put_both_ratios_within.new.self.heads.items c.args.out).touched)
    (keep.touched _ c.requires.table)
    (subst (λ (u : Option (List Pair)). IsEitherWithin S (head_in c.put.new.self.heads.items c.args.k).touched u
    (head_in c.put_both_ratios_within.new.self.heads.items c.args.out).touched) (keep.touched _ c.requires.other_table)
    c.put_both_ratios_within.ensures.within))

many : (count out : ℕ) (xs ys : List ℕ) → AreBlankOrFull count xs ys → count ≡ out → length (filled one_digits out xs) ≡ out
many count out xs ys whole same = filled_length one_digits out xs (let few = at_most count xs ys whole in omega (arith, few.0, same))

pub cells-requires-clause-table : goal.cells-requires-clause-table
cells-requires-clause-table g c =
    (seen g (goal.at.cells-requires-clause-table g c).After-open c.args.k c.requires.table).within

pub put_both_ratios_within-requires-clause-table : goal.put_both_ratios_within-requires-clause-table
put_both_ratios_within-requires-clause-table g c =
    (seen g (goal.at.put_both_ratios_within-requires-clause-table g c).After-open c.args.k c.requires.table).within

pub cells-requires-2-clause-table : goal.cells-requires-2-clause-table
cells-requires-2-clause-table g c =
    (seen g (goal.at.cells-requires-2-clause-table g c).After-open c.args.other c.requires.other_table).within

pub put_both_ratios_within-requires-clause-second_table : goal.put_both_ratios_within-requires-clause-second_table
put_both_ratios_within-requires-clause-second_table g c =
    (seen g (goal.at.put_both_ratios_within-requires-clause-second_table g c).After-open c.args.other c.requires.other_table).within

pub put-requires-clause-table : goal.put-requires-clause-table
put-requires-clause-table g c =
    (seen g (goal.at.put-requires-clause-table g c).After-open c.args.out c.requires.out_table).within

pub put_both_ratios_within-requires-clause-out_table : goal.put_both_ratios_within-requires-clause-out_table
put_both_ratios_within-requires-clause-out_table g c =
    (seen g (goal.at.put_both_ratios_within-requires-clause-out_table g c).After-open c.args.out c.requires.out_table).within

pub margin_times-requires-clause-whole : goal.margin_times-requires-clause-whole
margin_times-requires-clause-whole g c =
    let k = seen g (goal.at.margin_times-requires-clause-whole g c).After-open c.args.k c.requires.table in
    let o = seen g (goal.at.margin_times-requires-clause-whole g c).After-open c.args.out c.requires.out_table in
    let p = placed g (goal.at.margin_times-requires-clause-whole g c).After-open in
    subst (λ (x : ScopeOf). AreBlankOrFull (cells_in x) c.cells.result.0.now c.cells.result.1.now) (sym p.whole_is) c.cells.ensures.whole

pub margin_times-requires-clause-other : goal.margin_times-requires-clause-other
margin_times-requires-clause-other g c =
    let m = seen g (goal.at.margin_times-requires-clause-other g c).After-open c.args.other c.requires.other_table in
    let q = placed_too g (goal.at.margin_times-requires-clause-other g c).After-open in
    subst (λ (x : ScopeOf). AreBlankOrFull (cells_in x) c.cells-2.result.0.now c.cells-2.result.1.now) (sym q.part_is) c.cells-2.ensures.whole

pub margin_times-requires-clause-room : goal.margin_times-requires-clause-room
margin_times-requires-clause-room g c =
    let k = seen g (goal.at.margin_times-requires-clause-room g c).After-open c.args.k c.requires.table in
    let o = seen g (goal.at.margin_times-requires-clause-room g c).After-open c.args.out c.requires.out_table in
    let p = placed g (goal.at.margin_times-requires-clause-room g c).After-open in
    let parts = parts_filled _ c.open.new.self _ _ k c.args.places.now.whole _ _ p.whole_is c.cells.ensures.digits c.cells.ensures.exponents in
    let few = ap cells_in p.whole_now in
    parts_room _ _ _ _ _ parts (2 * cells_in (table_in c.args.self.now c.args.k).scope) (2 * cells_in c.args.places.now.whole) c.requires.room
    (omega (arith, few))

pub margin_times-requires-clause-other_room : goal.margin_times-requires-clause-other_room
margin_times-requires-clause-other_room g c =
    let m = seen g (goal.at.margin_times-requires-clause-other_room g c).After-open c.args.other c.requires.other_table in
    let q = placed_too g (goal.at.margin_times-requires-clause-other_room g c).After-open in
    let others = parts_filled _ c.open.new.self _ _ m c.args.other_places.now.part _ _ q.part_is c.cells-2.ensures.digits c.cells-2.ensures.exponents in
    parts_room _ _ _ _ _ others 1 1 c.requires.other_room (omega arith)

pub margin_times-requires-clause-out : goal.margin_times-requires-clause-out
margin_times-requires-clause-out g c =
    let k = seen g (goal.at.margin_times-requires-clause-out g c).After-open c.args.k c.requires.table in
    let o = seen g (goal.at.margin_times-requires-clause-out g c).After-open c.args.out c.requires.out_table in
    let p = placed g (goal.at.margin_times-requires-clause-out g c).After-open in
    let fit = room_lent _ _ c.deref-scopes.ensures _ c.self.invariant.digits_fit _ o.within in
    let fit_too = room_lent _ _ c.deref-scopes.ensures _ c.self.invariant.exponents_fit _ o.within in
    let e = ap cells_in p.part_is in
    record {
      whole = record { either = inl (ap (λ (zs : List ℕ). length zs) c.clear.ensures.digits, ap (λ (zs : List ℕ). length zs) c.clear.ensures.exponents) };
      digits_fit = omega (arith, fit, e, c.clear.ensures.digits_room);
      exponents_fit = omega (arith, fit_too, e, c.clear.ensures.exponents_room);
    }

pub put-requires-clause-whole : goal.put-requires-clause-whole
put-requires-clause-whole g c =
    let k = seen g (goal.at.put-requires-clause-whole g c).After-open c.args.k c.requires.table in
    let o = seen g (goal.at.put-requires-clause-whole g c).After-open c.args.out c.requires.out_table in
    let p = placed g (goal.at.put-requires-clause-whole g c).After-open in
    subst (λ (x : ScopeOf). AreBlankOrFull (cells_in x) c.margin_times.new.out_digits.items c.margin_times.new.out_exponents.items) p.part_is
    c.margin_times.ensures.held.whole

pub put_both_ratios_within-requires-clause-small : goal.put_both_ratios_within-requires-clause-small
put_both_ratios_within-requires-clause-small g c =
    let s = c.requires.room.small_shift in let i = (heads g (goal.at.put_both_ratios_within-requires-clause-small g c).After-put).shift _ c.requires.table in
    omega (arith, s, i)

pub put_both_ratios_within-requires-clause-small_too : goal.put_both_ratios_within-requires-clause-small_too
put_both_ratios_within-requires-clause-small_too g c =
    let s = c.requires.other_room.small_shift in let i = (heads g (goal.at.put_both_ratios_within-requires-clause-small_too g c).After-put).shift _
    c.requires.other_table in
    omega (arith, s, i)

pub invariant_of-self : goal.invariant_of-self
invariant_of-self g c =
    record {
      store_is = subst (λ (x : List ScopeOf). IsStoreOf x c.put_both_ratios_within.new.self) c.deref-scopes.ensures c.put_both_ratios_within.ensures.ratios.store;
      digits_fit = λ j l. let f = c.self.invariant.digits_fit j l in omega (arith, f, c.clear.ensures.digits_room, c.margin_times.ensures.digits_room);
      exponents_fit = λ j l. let f = c.self.invariant.exponents_fit j l in omega (
        arith,
        f,
        c.clear.ensures.exponents_room,
        c.margin_times.ensures.exponents_room,
      );
    }

pub returns-clause-only : goal.returns-clause-only
returns-clause-only g c =
    let keep = heads g (goal.at.returns-clause-only g c).After-put in let made = becomes g
    (goal.at.returns-clause-only g c).After-put_both_ratios_within keep in
    made.only

pub returns-clause-full : goal.returns-clause-full
returns-clause-full g c =
    let k = seen g (goal.at.returns-clause-full g c).After-open c.args.k c.requires.table in
    let o = seen g (goal.at.returns-clause-full g c).After-open c.args.out c.requires.out_table in
    let p = placed g (goal.at.returns-clause-full g c).After-open in
    let keep = heads g (goal.at.returns-clause-full g c).After-put in let made = becomes g
    (goal.at.returns-clause-full g c).After-put_both_ratios_within keep in
    made.full (many _ _ _ _ c.margin_times.ensures.held.whole (ap cells_in p.part_is) ∙ ap cells_in o.scope)

pub returns-clause-shift : goal.returns-clause-shift
returns-clause-shift g c =
    let keep = heads g (goal.at.returns-clause-shift g c).After-put in let made = becomes g
    (goal.at.returns-clause-shift g c).After-put_both_ratios_within keep in
    made.shift_is

pub returns-clause-numbers : goal.returns-clause-numbers
returns-clause-numbers g c =
    let k = seen g (goal.at.returns-clause-numbers g c).After-open c.args.k c.requires.table in
    let o = seen g (goal.at.returns-clause-numbers g c).After-open c.args.out c.requires.out_table in
    let p = placed g (goal.at.returns-clause-numbers g c).After-open in
    let m = seen g (goal.at.returns-clause-numbers g c).After-open c.args.other c.requires.other_table in
    let q = placed_too g (goal.at.returns-clause-numbers g c).After-open in
    let keep = heads g (goal.at.returns-clause-numbers g c).After-put in let made = becomes g
    (goal.at.returns-clause-numbers g c).After-put_both_ratios_within keep in
    let parts = parts_filled _ c.open.new.self _ _ k c.args.places.now.whole _ _ p.whole_is c.cells.ensures.digits c.cells.ensures.exponents in
    let others = parts_filled _ c.open.new.self _ _ m c.args.other_places.now.part _ _ q.part_is c.cells-2.ensures.digits c.cells-2.ensures.exponents in
    λ f h n r has has_other.
    let R = g.R.Semiring in let now = table_in c.args.self.now c.args.k in let other = table_in c.args.self.now c.args.other in
    let there = (table_in c.args.self.now c.args.out).scope in
    let S = scope_in c.deref-scopes.result.now c.args.out in let nd = filled one_digits (cells_in S) c.margin_times.new.out_digits.items in
    let ne = filled one_exponent (cells_in S) c.margin_times.new.out_exponents.items in
    let opart = c.args.other_places.now.part in let whole = c.args.places.now.whole in
    let md = filled one_digits (cells_in opart) c.cells-2.result.0.now in let me = filled one_exponent (cells_in opart) c.cells-2.result.1.now in
    let od = filled one_digits (cells_in whole) c.cells.result.0.now in let oe = filled one_exponent (cells_in whole) c.cells.result.1.now in
    let other_lies : LiesIn other.scope now.scope = subst (λ (x : ScopeOf). LiesIn x now.scope) q.part_now
    (subst (λ (x : ScopeOf). LiesIn opart x) p.whole_now c.margin_times.ensures.other_lies_in) in
    let pluses = made_of_parts R.plus_of now other whole opart there now.shift other.shift od oe md me nd ne parts others
    (subst (λ (x : ScopeOf). AreMade R.plus_of od oe md me opart whole x nd ne) o.scope
    (subst (λ (x : ScopeOf). AreMade R.plus_of od oe md me opart whole x (filled one_digits (cells_in x) c.margin_times.new.out_digits.items)
    (filled one_exponent (cells_in x) c.margin_times.new.out_exponents.items)) p.part_is c.margin_times.ensures.made)) in
    made.numbers (λ d. plus_over R.plus_of 0 (λ i. f i * h (cell_in other.scope now.scope i)) (cells_onto there now.scope d))
    (n + r + (2 * cells_beside there now.scope + 1))
    (joined_numbers now other there (p.lies_now c.margin_times.ensures.lies_in) other_lies others.there _
    (either g (goal.at.returns-clause-numbers g c).After-put_both_ratios_within keep o.scope) parts.full others.full R.plus_of g.met.R.Semiring.lawful
    (2 * cells_beside there now.scope + 1) nd ne (many _ _ _ _ c.margin_times.ensures.held.whole (ap cells_in p.part_is) ∙ ap cells_in o.scope) pluses f h n r
    has has_other)

pub returns-clause-touched : goal.returns-clause-touched
returns-clause-touched g c =
    let keep = heads g (goal.at.returns-clause-touched g c).After-put in let made = becomes g
    (goal.at.returns-clause-touched g c).After-put_both_ratios_within keep in
    subst (λ (u : Option (List Pair)). KeepsPairs (table_in c.args.self.now c.args.out).scope (table_in c.args.self.now c.args.k).touched
    (table_in c.args.self.now c.args.other).touched u) (sym made.touched_is)
    (either g (goal.at.returns-clause-touched g c).After-put_both_ratios_within keep (seen g
    (goal.at.returns-clause-touched g c).After-open c.args.out c.requires.out_table).scope).kept
