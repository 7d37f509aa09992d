use Rattle.std.proofs.Common.{◌≡◌, ℕ, ◌+◌, ◌-◌, ◌*◌, ◌<◌, ◌≤◌, List, length, arith, ap, sym, subst, ◌∙◌, slice_index, inl}
use Rattle.std.specs.Prelude.{Option, None}
use Rattle.mk_states.specs.States.{plus_over}
use Rattle.mk_scope.specs.Cells.{cells_onto, cells_beside}
use Rattle.mk_scope.specs.Runs.{runs_of}
use Rattle.mk_passes.proofs.Filled.{at_most, filled_length}
use Rattle.mk_scope.proofs.Onto.{all_beside}
use Rattle.mk_table.proofs.Margins.{margin_numbers}
use Rattle.mk_net.specs.declared.words.Pair.{Pair}
use Rattle.mk_scope.specs.Scopes.{ScopeOf, cells_in}
use Rattle.mk_table.specs.Tables.{TableOf, HasNumbers}
use Rattle.mk_table.specs.Lists.{table_in}
use Rattle.mk_table.specs.Ratios.{KeepsPairs}
use Rattle.mk_passes.specs.Parts.{AreBlankOrFull}
use Rattle.mk_table.specs.inner.Touched.{IsWithin}
use Rattle.mk_passes.specs.Blank.{one_digits, one_exponent, filled}
use Rattle.mk_table.specs.inner.Store.{IsStoreOf, scope_in, head_in, store_tables}
use Rattle.mk_table.proofs.Whole.{parts_room}
use Rattle.mk_scope.proofs.Reached.{onto_within}
use Rattle.mk_table.proofs.Seen.{IsSeen, is_seen, opened, HasHeads, heads_kept, HasBecome, both_become}
use Rattle.mk_table.proofs.Seen.{ArePlaced, are_placed, parts_counted, room_lent}
use Rattle.mk_table.proofs.tables.Tables.margin_into.Given.{Over}
use Rattle.mk_table.proofs.tables.Tables.margin_into.Goals as goal
use Rattle.mk_table.proofs.tables.Tables.margin_into.Goals.{After-open, After-put, After-put_ratios_within}

seen : (g : Over) (c : After-open g) (k : ℕ) → k < length c.args.self.now → IsSeen c.deref-scopes.result.now c.open.new.self c.args.self.now k
seen g c = is_seen _ c.open.new.self _ c.open.ensures.same.opened.store (opened _ _ c.deref-scopes.ensures c.self.inside.store c.open.new.self _ c.open.ensures.same.tables
    c.self.view_is)

placed : (g : Over) (c : After-open g) → ArePlaced c.deref-scopes.result.now c.args.self.now c.args.k c.args.out c.args.places.now
placed g c = are_placed _ c.open.new.self _ _ _ _ c.requires.places (seen g c _ c.requires.table) (seen g c _ c.requires.out_table)

heads : (g : Over) (c : After-put g) → HasHeads c.args.self.now c.put.new.self
heads g c =
    heads_kept _ _ c.open.new.self c.put.new.self (opened _ _ c.deref-scopes.ensures c.self.inside.store c.open.new.self _ c.open.ensures.same.tables c.self.view_is)
    _ c.requires.out_table
    c.put.ensures.opened.store _ _ c.put.ensures.tables

becomes : (g : Over) (c : After-put_ratios_within g) → HasHeads c.args.self.now c.put.new.self
    → let count = cells_in (scope_in c.deref-scopes.result.now c.args.out) in
    HasBecome c.args.self.now (store_tables c.self.inside.scopes.value c.put_ratios_within.new.self) c.args.out ((table_in c.args.self.now c.args.k).shift)
    (filled one_digits count c.plus_of_each.new.out_digits.items) (filled one_exponent count c.plus_of_each.new.out_exponents.items)
    (head_in c.put_ratios_within.new.self.heads.items c.args.out).touched
becomes g c keep =
    both_become _ _ c.deref-scopes.ensures _ c.open.new.self c.put.new.self c.put_ratios_within.new.self
    (opened _ _ c.deref-scopes.ensures c.self.inside.store c.open.new.self _ c.open.ensures.same.tables c.self.view_is)
    _ c.requires.out_table _ _ _ _ (keep.shift _ c.requires.table) _ c.put.ensures.tables c.put_ratios_within.ensures.ratios.tables

inside : (g : Over) (c : After-put_ratios_within g) → HasHeads c.args.self.now c.put.new.self
    → c.args.places.now.part ≡ scope_in c.deref-scopes.result.now c.args.out
    → IsWithin c.args.places.now.part (table_in c.args.self.now c.args.k).touched (head_in c.put_ratios_within.new.self.heads.items c.args.out).touched
inside g c keep part_is =
    subst (λ (x : ScopeOf). IsWithin x (table_in c.args.self.now c.args.k).touched (head_in c.put_ratios_within.new.self.heads.items c.args.out).touched)
    (sym part_is)
    (subst (λ (u : Option (List Pair)). IsWithin (scope_in c.deref-scopes.result.now c.args.out) u
    (head_in c.put_ratios_within.new.self.heads.items c.args.out).touched) (keep.touched _ c.requires.table) c.put_ratios_within.ensures.within)

pub cells-requires-clause-table : goal.cells-requires-clause-table
cells-requires-clause-table g c =
    (seen g (goal.at.cells-requires-clause-table g c).After-open c.args.k c.requires.table).within

pub scope-requires : goal.scope-requires
scope-requires g c =
    (seen g (goal.at.scope-requires g c).After-open c.args.k c.requires.table).within

pub put_ratios_within-requires-clause-table : goal.put_ratios_within-requires-clause-table
put_ratios_within-requires-clause-table g c =
    (seen g (goal.at.put_ratios_within-requires-clause-table g c).After-open c.args.k c.requires.table).within

pub put-requires-clause-table : goal.put-requires-clause-table
put-requires-clause-table g c =
    (seen g (goal.at.put-requires-clause-table g c).After-open c.args.out c.requires.out_table).within

pub put_ratios_within-requires-clause-out_table : goal.put_ratios_within-requires-clause-out_table
put_ratios_within-requires-clause-out_table g c =
    (seen g (goal.at.put_ratios_within-requires-clause-out_table g c).After-open c.args.out c.requires.out_table).within

pub plus_of_each-requires-clause-within : goal.plus_of_each-requires-clause-within
plus_of_each-requires-clause-within g c =
    let k = seen g (goal.at.plus_of_each-requires-clause-within g c).After-open c.args.k c.requires.table in
    let o = seen g (goal.at.plus_of_each-requires-clause-within g c).After-open c.args.out c.requires.out_table in
    let p = placed g (goal.at.plus_of_each-requires-clause-within g c).After-open in
    let bases = c.lists-run.result.0.now in let offsets = runs_of c.lists-run.result.2 c.lists-run.result.1.now in let are = c.lists-run.ensures in
    let count : c.cells-2.result ≡ cells_in c.args.places.now.whole = c.cells-2.ensures.cells ∙ ap cells_in (c.scope.ensures ∙ sym p.whole_is) in
    λ b l. rw count (onto_within c.args.places.now.part c.args.places.now.whole (slice_index bases b) offsets b (are.onto b (omega (arith, l, are.one_each))))

pub plus_of_each-requires-clause-room : goal.plus_of_each-requires-clause-room
plus_of_each-requires-clause-room g c =
    let k = seen g (goal.at.plus_of_each-requires-clause-room g c).After-open c.args.k c.requires.table in
    let o = seen g (goal.at.plus_of_each-requires-clause-room g c).After-open c.args.out c.requires.out_table in
    let p = placed g (goal.at.plus_of_each-requires-clause-room g c).After-open in
    let bases = c.lists-run.result.0.now in let offsets = runs_of c.lists-run.result.2 c.lists-run.result.1.now in let are = c.lists-run.ensures in
    let parts = parts_counted _ c.open.new.self _ _ k c.args.places.now.whole _ _ _ p.whole_is
    (c.cells-2.ensures.cells ∙ ap cells_in c.scope.ensures) c.cells.ensures.digits c.cells.ensures.exponents in
    let few : length offsets ≤ cells_in (table_in c.args.self.now c.args.k).scope = let e = ap cells_in p.whole_now in omega (arith, e, are.few) in
    parts_room _ _ _ _ _ parts (2 * cells_in (table_in c.args.self.now c.args.k).scope) (2 * length offsets) c.requires.room (omega (arith, few))

pub plus_of_each-requires-clause-out : goal.plus_of_each-requires-clause-out
plus_of_each-requires-clause-out g c =
    let k = seen g (goal.at.plus_of_each-requires-clause-out g c).After-open c.args.k c.requires.table in
    let o = seen g (goal.at.plus_of_each-requires-clause-out g c).After-open c.args.out c.requires.out_table in
    let p = placed g (goal.at.plus_of_each-requires-clause-out g c).After-open in
    let are = c.lists-run.ensures in let e = ap cells_in p.part_is in
    let fit = room_lent _ _ c.deref-scopes.ensures _ c.self.invariant.digits_fit _ o.within in
    let fit_too = room_lent _ _ c.deref-scopes.ensures _ c.self.invariant.exponents_fit _ o.within in
    record {
      whole = record { either = inl (ap (λ (zs : List ℕ). length zs) c.clear.ensures.digits, ap (λ (zs : List ℕ). length zs) c.clear.ensures.exponents) };
      digits_fit = omega (arith, fit, e, are.one_each, c.clear.ensures.digits_room);
      exponents_fit = omega (arith, fit_too, e, are.one_each, c.clear.ensures.exponents_room);
    }

pub put-requires-clause-whole : goal.put-requires-clause-whole
put-requires-clause-whole g c =
    let k = seen g (goal.at.put-requires-clause-whole g c).After-open c.args.k c.requires.table in
    let o = seen g (goal.at.put-requires-clause-whole g c).After-open c.args.out c.requires.out_table in
    let p = placed g (goal.at.put-requires-clause-whole g c).After-open in
    subst (λ n. AreBlankOrFull n c.plus_of_each.new.out_digits.items c.plus_of_each.new.out_exponents.items)
    (c.lists-run.ensures.one_each ∙ ap cells_in p.part_is) c.plus_of_each.ensures.held.whole

pub invariant_of-self : goal.invariant_of-self
invariant_of-self g c =
    record {
      store_is = subst (λ (x : List ScopeOf). IsStoreOf x c.put_ratios_within.new.self) c.deref-scopes.ensures c.put_ratios_within.ensures.ratios.store;
      digits_fit = λ j l. let f = c.self.invariant.digits_fit j l in omega (arith, f, c.clear.ensures.digits_room, c.plus_of_each.ensures.digits_room);
      exponents_fit = λ j l. let f = c.self.invariant.exponents_fit j l in omega (
        arith,
        f,
        c.clear.ensures.exponents_room,
        c.plus_of_each.ensures.exponents_room,
      );
    }

pub returns-clause-only : goal.returns-clause-only
returns-clause-only g c =
    let keep = heads g (goal.at.returns-clause-only g c).After-put in let made = becomes g (goal.at.returns-clause-only g c).After-put_ratios_within keep in
    made.only

pub returns-clause-full : goal.returns-clause-full
returns-clause-full g c =
    let k = seen g (goal.at.returns-clause-full g c).After-open c.args.k c.requires.table in
    let o = seen g (goal.at.returns-clause-full g c).After-open c.args.out c.requires.out_table in
    let p = placed g (goal.at.returns-clause-full g c).After-open in
    let keep = heads g (goal.at.returns-clause-full g c).After-put in let made = becomes g (goal.at.returns-clause-full g c).After-put_ratios_within keep in
    let are = c.lists-run.ensures in let some = at_most (length c.lists-run.result.0.now) c.plus_of_each.new.out_digits.items
    c.plus_of_each.new.out_exponents.items c.plus_of_each.ensures.held.whole in
    let many : length (filled one_digits (length c.lists-run.result.0.now) c.plus_of_each.new.out_digits.items) ≡ cells_in c.args.places.now.part =
    filled_length one_digits _ c.plus_of_each.new.out_digits.items some.0 ∙ are.one_each in
    let all : length c.lists-run.result.0.now ≡ cells_in (scope_in c.deref-scopes.result.now c.args.out) = are.one_each ∙ ap cells_in p.part_is in
    made.full (ap (λ n. length (filled one_digits n c.plus_of_each.new.out_digits.items)) (sym all) ∙ many ∙ ap cells_in p.part_now)

pub returns-clause-shift : goal.returns-clause-shift
returns-clause-shift g c =
    let keep = heads g (goal.at.returns-clause-shift g c).After-put in let made = becomes g (goal.at.returns-clause-shift g c).After-put_ratios_within keep in
    made.shift_is

pub returns-clause-numbers : goal.returns-clause-numbers
returns-clause-numbers g c =
    let k = seen g (goal.at.returns-clause-numbers g c).After-open c.args.k c.requires.table in
    let o = seen g (goal.at.returns-clause-numbers g c).After-open c.args.out c.requires.out_table in
    let p = placed g (goal.at.returns-clause-numbers g c).After-open in
    let keep = heads g (goal.at.returns-clause-numbers g c).After-put in let made = becomes g
    (goal.at.returns-clause-numbers g c).After-put_ratios_within keep in
    let bases = c.lists-run.result.0.now in let offsets = runs_of c.lists-run.result.2 c.lists-run.result.1.now in let are = c.lists-run.ensures in
    let parts = parts_counted _ c.open.new.self _ _ k c.args.places.now.whole _ _ _ p.whole_is
    (c.cells-2.ensures.cells ∙ ap cells_in c.scope.ensures) c.cells.ensures.digits c.cells.ensures.exponents in
    let some = at_most (length c.lists-run.result.0.now) c.plus_of_each.new.out_digits.items c.plus_of_each.new.out_exponents.items
    c.plus_of_each.ensures.held.whole in
    let many : length (filled one_digits (length c.lists-run.result.0.now) c.plus_of_each.new.out_digits.items) ≡ cells_in c.args.places.now.part =
    filled_length one_digits _ c.plus_of_each.new.out_digits.items some.0 ∙ are.one_each in
    let all : length c.lists-run.result.0.now ≡ cells_in (scope_in c.deref-scopes.result.now c.args.out) = are.one_each ∙ ap cells_in p.part_is in
    λ f n h.
    let now = table_in c.args.self.now c.args.k in let there = (table_in c.args.self.now c.args.out).scope in let part = c.args.places.now.part in
    let sums : ScopeOf → ℕ → ℕ = λ x d. plus_over g.R.Semiring.plus_of 0 f (cells_onto x now.scope d) in
    let steps : ScopeOf → ℕ = λ x. n + (2 * cells_beside x now.scope - 1) in
    let table : ScopeOf → ℕ → TableOf = λ x m. record {
      scope = x;
      shift = now.shift;
      digits = filled one_digits m c.plus_of_each.new.out_digits.items;
      exponents = filled one_exponent m c.plus_of_each.new.out_exponents.items;
      touched = (head_in c.put_ratios_within.new.self.heads.items c.args.out).touched;
    }
    in
    let first = margin_numbers g.R.Semiring.plus_of g.met.R.Semiring.lawful now c.args.places.now.whole part now.shift _ _
    (filled one_digits (length bases) c.plus_of_each.new.out_digits.items) (filled one_exponent (length bases) c.plus_of_each.new.out_exponents.items)
    bases offsets c.lists-run.result.2 (head_in c.put_ratios_within.new.self.heads.items c.args.out).touched parts are many
    (inside g (goal.at.returns-clause-numbers g c).After-put_ratios_within keep p.part_is) c.plus_of_each.ensures.stand f n h in
    subst (λ (u : TableOf). HasNumbers u (sums there) (steps there)) (sym made.table)
    (subst (λ (x : ScopeOf). HasNumbers (table x (cells_in (scope_in c.deref-scopes.result.now c.args.out))) (sums x) (steps x)) p.part_now
    (subst (λ m. HasNumbers (table part m) (sums part) (steps part)) all first))

pub returns-clause-beside : goal.returns-clause-beside
returns-clause-beside g c =
    let k = seen g (goal.at.returns-clause-beside g c).After-open c.args.k c.requires.table in
    let o = seen g (goal.at.returns-clause-beside g c).After-open c.args.out c.requires.out_table in
    let p = placed g (goal.at.returns-clause-beside g c).After-open in
    subst (λ (x : ScopeOf). cells_in x * cells_beside x (table_in c.args.self.now c.args.k).scope ≡ cells_in (table_in c.args.self.now c.args.k).scope)
    p.part_now
    (subst (λ (x : ScopeOf). cells_in c.args.places.now.part * cells_beside c.args.places.now.part x ≡ cells_in x) p.whole_now
    (all_beside c.args.places.now.part c.args.places.now.whole _ _ _ c.lists-run.ensures))

pub returns-clause-touched : goal.returns-clause-touched
returns-clause-touched g c =
    let k = seen g (goal.at.returns-clause-touched g c).After-open c.args.k c.requires.table in
    let o = seen g (goal.at.returns-clause-touched g c).After-open c.args.out c.requires.out_table in
    let p = placed g (goal.at.returns-clause-touched g c).After-open in
    let keep = heads g (goal.at.returns-clause-touched g c).After-put in let made = becomes g
    (goal.at.returns-clause-touched g c).After-put_ratios_within keep in
    subst (λ (u : Option (List Pair)). KeepsPairs (table_in c.args.self.now c.args.out).scope (table_in c.args.self.now c.args.k).touched None u)
    (sym made.touched_is)
    (subst (λ (x : ScopeOf). KeepsPairs x (table_in c.args.self.now c.args.k).touched None
    (head_in c.put_ratios_within.new.self.heads.items c.args.out).touched) p.part_now (inside g
    (goal.at.returns-clause-touched g c).After-put_ratios_within keep p.part_is).kept)
