use Rattle.std.proofs.Common.{◌≡◌, ℕ, ◌+◌, ◌-◌, ◌*◌, ◌<◌, ◌≤◌, All, List, length, arith, ap, sym, subst, ◌∙◌, refl, slice_index}
use Rattle.std.specs.Prelude.{Option}
use Rattle.mk_states.specs.States.{plus_over}
use Rattle.mk_scope.specs.Cells.{cells_onto, cells_beside, cells_where}
use Rattle.mk_scope.specs.Runs.{runs_of}
use Rattle.mk_passes.proofs.Filled.{at_most, filled_length, all_full, held_after, filled_full}
use Rattle.mk_table.proofs.Margins.{again_after}
use Rattle.std.proofs.lemmas.List.Elements.{All-weaker}
use Rattle.mk_scope.specs.Places.{ArePlaces}
use Rattle.mk_table.specs.inner.Store.{is_written, scope_in, head_in, store_tables}
use Rattle.mk_scope.proofs.Reached.{where_within, onto_within}
use Rattle.mk_table.proofs.Whole.{AreParts, parts_full, parts_room}
use Rattle.mk_table.proofs.Taken.{onto_kept}
use Rattle.std.specs.Vec.{with_items}
use Rattle.mk_net.specs.declared.words.Pair.{Pair}
use Rattle.mk_scope.specs.Scopes.{ScopeOf, HasEvent, cells_in}
use Rattle.mk_table.specs.Tables.{TableOf, HasNumbers}
use Rattle.mk_table.specs.Lists.{table_in}
use Rattle.mk_table.specs.Ratios.{KeepsPairs}
use Rattle.mk_table.specs.declared.store.Head.{Head}
use Rattle.mk_passes.specs.Parts.{AreBlankOrFull}
use Rattle.mk_table.specs.inner.Touched.{IsEither, IsWithin}
use Rattle.mk_passes.specs.Blank.{one_digits, one_exponent, filled}
use Rattle.mk_table.proofs.Seen.{IsSeen, is_seen, opened, HasHeads, heads_kept, HasBecome, both_become}
use Rattle.mk_table.proofs.Seen.{ArePlaced, are_placed, room_lent}
use Rattle.mk_table.proofs.tables.Tables.margin_again_into.Given.{Over}
use Rattle.mk_table.proofs.tables.Tables.margin_again_into.Goals as goal
use Rattle.mk_table.proofs.tables.Tables.margin_again_into.Goals.{After-open, After-as_slice, After-plus_at_chosen, After-put, After-take_ratios_within}

seen : (g : Over) (c : After-open g) (k : ℕ) → k < length c.args.self.now → IsSeen c.deref-scopes.result.now c.open.new.self c.args.self.now k
seen g c = is_seen _ c.open.new.self _ c.open.ensures.same.opened.store (opened _ _ c.deref-scopes.ensures c.self.inside.store c.open.new.self _ c.open.ensures.same.tables
    c.self.view_is)

placed : (g : Over) (c : After-open g) → ArePlaced c.deref-scopes.result.now c.args.self.now c.args.k c.args.out c.args.places.now
placed g c = are_placed _ c.open.new.self _ _ _ _ c.requires.places (seen g c _ c.requires.table) (seen g c _ c.requires.out_table)

heads : (g : Over) (c : After-put g) → HasHeads c.args.self.now c.put.new.self
heads g c =
    heads_kept _ _ c.open.new.self c.put.new.self (opened _ _ c.deref-scopes.ensures c.self.inside.store c.open.new.self _ c.open.ensures.same.tables c.self.view_is)
    _ c.requires.out_table
    c.put.ensures.opened.store _ _ c.put.ensures.tables

becomes : (g : Over) (c : After-take_ratios_within g) → HasHeads c.args.self.now c.put.new.self
    → let count = cells_in (scope_in c.deref-scopes.result.now c.args.out) in
    HasBecome c.args.self.now (store_tables c.self.inside.scopes.value c.take_ratios_within.new.self) c.args.out ((table_in c.args.self.now c.args.k).shift)
    (filled one_digits count (with_items c.fill.new.digits c.plus_at_chosen.new.out_digits).items)
    (filled one_exponent count (with_items c.fill.new.exponents c.plus_at_chosen.new.out_exponents).items)
    (head_in c.take_ratios_within.new.self.heads.items c.args.out).touched
becomes g c keep =
    both_become _ _ c.deref-scopes.ensures _ c.open.new.self c.put.new.self c.take_ratios_within.new.self
    (opened _ _ c.deref-scopes.ensures c.self.inside.store c.open.new.self _ c.open.ensures.same.tables c.self.view_is)
    _ c.requires.out_table _ _ _ _ (keep.shift _ c.requires.table) _ c.put.ensures.tables c.take_ratios_within.ensures.ratios.tables

parts : (g : Over) (c : After-as_slice g) → IsSeen c.deref-scopes.result.now c.open.new.self c.args.self.now c.args.k
    → c.args.places.now.whole ≡ scope_in c.deref-scopes.result.now c.args.k
    → AreParts (table_in c.args.self.now c.args.k) c.args.places.now.whole (table_in c.args.self.now c.args.k).shift c.cells.result.0.now c.cells.result.1.now
parts g c k whole_is =
    let d = c.cells.result.0.now in let e = c.cells.result.1.now in let K = cells_in (scope_in c.deref-scopes.result.now c.args.k) in
    let long : length d ≡ K = c.cells.ensures.written (ap (λ (h : Head). is_written h.place) (c.open.ensures.kept c.args.k) ∙ sym c.is_written.ensures
    ∙ c.if-not-is_written.false) in
    let long_too = all_full K d e c.cells.ensures.whole (omega (arith, long)) in
    k.parts _ d e whole_is (sym (filled_full one_digits K d (omega (arith, long))) ∙ c.cells.ensures.digits)
    (sym (filled_full one_exponent K e long_too) ∙ c.cells.ensures.exponents)

chosen_is : (g : Over) (c : After-as_slice g) → c.as_slice.result.now ≡ cells_where (scope_in c.deref-scopes.result.now c.args.out)
    c.pairs_within-allowed.result
chosen_is g c = c.as_slice.ensures ∙ c.cells_where.ensures.cells ∙ ap (λ (x : ScopeOf). cells_where x c.pairs_within-allowed.result) c.scope-part.ensures

-- as many bases as the part has cells
all : (g : Over) (c : After-as_slice g) → c.args.places.now.part ≡ scope_in c.deref-scopes.result.now c.args.out
    → length c.lists-run.result.0.now ≡ cells_in (scope_in c.deref-scopes.result.now c.args.out)
all g c part_is = c.lists-run.ensures.one_each ∙ ap cells_in part_is

whole_there : (g : Over) (c : After-plus_at_chosen g) → c.args.out < length c.deref-scopes.result.now
    → length c.lists-run.result.0.now ≡ cells_in (scope_in c.deref-scopes.result.now c.args.out)
    → AreBlankOrFull (cells_in (scope_in c.deref-scopes.result.now c.args.out)) (with_items c.fill.new.digits c.plus_at_chosen.new.out_digits).items
    (with_items c.fill.new.exponents c.plus_at_chosen.new.out_exponents).items
whole_there g c within all =
    let fit = room_lent _ _ c.deref-scopes.ensures _ c.self.invariant.digits_fit _ within in
    let fit_too = room_lent _ _ c.deref-scopes.ensures _ c.self.invariant.exponents_fit _ within in
    let held = held_after (cells_in (scope_in c.deref-scopes.result.now c.args.out)) c.fill.new.digits c.fill.new.exponents c.plus_at_chosen.new.out_digits
    c.plus_at_chosen.new.out_exponents
    (omega (arith, c.plus_at_chosen.auto.out_digits, c.deref_mut.ensures.len)) (omega (arith, c.plus_at_chosen.auto.out_exponents, c.deref_mut-2.ensures.len))
    (c.fill.ensures.all_digits ∙ all) (c.fill.ensures.all_exponents ∙ all)
    (omega (arith, fit, c.take.ensures.digits_room, c.fill.ensures.digits_room)) (omega (
      arith,
      fit_too,
      c.take.ensures.exponents_room,
      c.fill.ensures.exponents_room,
    )) in held.whole

inside : (g : Over) (c : After-take_ratios_within g) → HasHeads c.args.self.now c.put.new.self
    → scope_in c.deref-scopes.result.now c.args.out ≡ (table_in c.args.self.now c.args.out).scope
    → IsWithin (table_in c.args.self.now c.args.out).scope (table_in c.args.self.now c.args.k).touched c.take_ratios_within.ensures.within.0
inside g c keep scope_is =
    let inner = c.take_ratios_within.ensures.within.0 in
    subst (λ (x : ScopeOf). IsWithin x (table_in c.args.self.now c.args.k).touched inner) scope_is
    (subst (λ (u : Option (List Pair)). IsWithin (scope_in c.deref-scopes.result.now c.args.out) u inner)
    (keep.touched _ c.requires.table) c.take_ratios_within.ensures.within.1)

either : (g : Over) (c : After-take_ratios_within g) → HasHeads c.args.self.now c.put.new.self
    → IsEither (table_in c.args.self.now c.args.out).touched c.take_ratios_within.ensures.within.0
    (head_in c.take_ratios_within.new.self.heads.items c.args.out).touched
either g c keep = subst (λ (u : Option (List Pair)). IsEither u c.take_ratios_within.ensures.within.0
    (head_in c.take_ratios_within.new.self.heads.items c.args.out).touched) (keep.touched _ c.requires.out_table) c.take_ratios_within.ensures.within.2

pub scope-part-requires : goal.scope-part-requires
scope-part-requires g c =
    (seen g (goal.at.scope-part-requires g c).After-open c.args.out c.requires.out_table).within

pub take-requires-clause-table : goal.take-requires-clause-table
take-requires-clause-table g c =
    (seen g (goal.at.take-requires-clause-table g c).After-open c.args.out c.requires.out_table).within

pub put-requires-clause-table : goal.put-requires-clause-table
put-requires-clause-table g c =
    (seen g (goal.at.put-requires-clause-table g c).After-open c.args.out c.requires.out_table).within

pub take_ratios_within-requires-clause-out_table : goal.take_ratios_within-requires-clause-out_table
take_ratios_within-requires-clause-out_table g c =
    (seen g (goal.at.take_ratios_within-requires-clause-out_table g c).After-open c.args.out c.requires.out_table).within

pub cells-requires-clause-table : goal.cells-requires-clause-table
cells-requires-clause-table g c =
    (seen g (goal.at.cells-requires-clause-table g c).After-open c.args.k c.requires.table).within

pub take_ratios_within-requires-clause-table : goal.take_ratios_within-requires-clause-table
take_ratios_within-requires-clause-table g c =
    (seen g (goal.at.take_ratios_within-requires-clause-table g c).After-open c.args.k c.requires.table).within

pub take-requires-clause-digits_fit : goal.take-requires-clause-digits_fit
take-requires-clause-digits_fit g c =
    room_lent _ _ c.deref-scopes.ensures _ c.self.invariant.digits_fit _ (seen g (goal.at.take-requires-clause-digits_fit g c).After-open c.args.out
    c.requires.out_table).within

pub take-requires-clause-exponents_fit : goal.take-requires-clause-exponents_fit
take-requires-clause-exponents_fit g c =
    room_lent _ _ c.deref-scopes.ensures _ c.self.invariant.exponents_fit _ (seen g (goal.at.take-requires-clause-exponents_fit g c).After-open c.args.out
    c.requires.out_table).within

pub fill-requires : goal.fill-requires
fill-requires g c =
    let k = seen g (goal.at.fill-requires g c).After-open c.args.k c.requires.table in let o =
    seen g (goal.at.fill-requires g c).After-open c.args.out c.requires.out_table in let p = placed g (goal.at.fill-requires g c).After-open in
    let fit = room_lent _ _ c.deref-scopes.ensures _ c.self.invariant.digits_fit _ o.within in
    let fit_too = room_lent _ _ c.deref-scopes.ensures _ c.self.invariant.exponents_fit _ o.within in
    let count = c.lists-run.ensures.one_each ∙ ap cells_in p.part_is in
    record {
      whole = subst (λ n. AreBlankOrFull n c.take.new.self.digits.items c.take.new.self.exponents.items) (sym count) c.take.ensures.whole;
      digits_fit = omega (arith, count, fit, c.take.ensures.digits_room);
      exponents_fit = omega (arith, count, fit_too, c.take.ensures.exponents_room);
    }

pub plus_at_chosen-requires-clause-within : goal.plus_at_chosen-requires-clause-within
plus_at_chosen-requires-clause-within g c =
    let k = seen g (goal.at.plus_at_chosen-requires-clause-within g c).After-open c.args.k c.requires.table in
    let o = seen g (goal.at.plus_at_chosen-requires-clause-within g c).After-open c.args.out c.requires.out_table in
    let p = placed g (goal.at.plus_at_chosen-requires-clause-within g c).After-open in
    let bases = c.lists-run.result.0.now in let offsets = runs_of c.lists-run.result.2 c.lists-run.result.1.now in let are = c.lists-run.ensures in
    let read = parts g (goal.at.plus_at_chosen-requires-clause-within g c).After-as_slice k p.whole_is in
    λ b l. let full = parts_full _ _ _ _ _ read in
    rw full.as_many_digits (onto_within c.args.places.now.part c.args.places.now.whole (slice_index bases b) offsets b
    (are.onto b (omega (arith, l, are.one_each))))

pub plus_at_chosen-requires-clause-room : goal.plus_at_chosen-requires-clause-room
plus_at_chosen-requires-clause-room g c =
    let k = seen g (goal.at.plus_at_chosen-requires-clause-room g c).After-open c.args.k c.requires.table in
    let o = seen g (goal.at.plus_at_chosen-requires-clause-room g c).After-open c.args.out c.requires.out_table in
    let p = placed g (goal.at.plus_at_chosen-requires-clause-room g c).After-open in
    let bases = c.lists-run.result.0.now in let offsets = runs_of c.lists-run.result.2 c.lists-run.result.1.now in let are = c.lists-run.ensures in
    let read = parts g (goal.at.plus_at_chosen-requires-clause-room g c).After-as_slice k p.whole_is in
    let few : length offsets ≤ cells_in (table_in c.args.self.now c.args.k).scope = let i = ap cells_in p.whole_now in omega (arith, i, are.few) in
    parts_room _ _ _ _ _ read (2 * cells_in (table_in c.args.self.now c.args.k).scope) (2 * length offsets) c.requires.room (omega (arith, few))

pub plus_at_chosen-requires-clause-chosen : goal.plus_at_chosen-requires-clause-chosen
plus_at_chosen-requires-clause-chosen g c =
    let at = (goal.at.plus_at_chosen-requires-clause-chosen g c).After-as_slice in let bases = c.lists-run.result.0.now in
    let S = scope_in c.deref-scopes.result.now c.args.out in
    let count = all g at (placed g (goal.at.plus_at_chosen-requires-clause-chosen g c).After-open).part_is in
    subst (λ (zs : List ℕ). All (λ b. b < length bases) zs) (sym (chosen_is g at))
    (All-weaker (λ b. 0 + b < cells_in S) (λ b. b < length bases) (λ b h. omega (arith, h, count)) (cells_where S c.pairs_within-allowed.result)
    (where_within S c.pairs_within-allowed.result))

pub put-requires-clause-whole : goal.put-requires-clause-whole
put-requires-clause-whole g c =
    let k = seen g (goal.at.put-requires-clause-whole g c).After-open c.args.k c.requires.table in
    let o = seen g (goal.at.put-requires-clause-whole g c).After-open c.args.out c.requires.out_table in
    let p = placed g (goal.at.put-requires-clause-whole g c).After-open in
    whole_there g (goal.at.put-requires-clause-whole g c).After-plus_at_chosen o.within (all g (goal.at.put-requires-clause-whole g c).After-as_slice p.part_is)

pub returns-clause-only : goal.returns-clause-only
returns-clause-only g c =
    let keep = heads g (goal.at.returns-clause-only g c).After-put in let made = becomes g (goal.at.returns-clause-only g c).After-take_ratios_within keep in
    made.only

pub returns-clause-full : goal.returns-clause-full
returns-clause-full g c =
    let k = seen g (goal.at.returns-clause-full g c).After-open c.args.k c.requires.table in
    let o = seen g (goal.at.returns-clause-full g c).After-open c.args.out c.requires.out_table in
    let p = placed g (goal.at.returns-clause-full g c).After-open in
    let keep = heads g (goal.at.returns-clause-full g c).After-put in let made = becomes g (goal.at.returns-clause-full g c).After-take_ratios_within keep in
    let some = at_most _ (with_items c.fill.new.digits c.plus_at_chosen.new.out_digits).items
    (with_items c.fill.new.exponents c.plus_at_chosen.new.out_exponents).items (whole_there g (goal.at.returns-clause-full g c).After-plus_at_chosen o.within
    (all g (goal.at.returns-clause-full g c).After-as_slice p.part_is)) in
    made.full (filled_length one_digits _ (with_items c.fill.new.digits c.plus_at_chosen.new.out_digits).items some.0 ∙ ap cells_in o.scope)

pub returns-clause-shift : goal.returns-clause-shift
returns-clause-shift g c =
    let keep = heads g (goal.at.returns-clause-shift g c).After-put in let made = becomes g (goal.at.returns-clause-shift g c).After-take_ratios_within keep in
    made.shift_is

pub returns-clause-numbers : goal.returns-clause-numbers
returns-clause-numbers g c =
    let k = seen g (goal.at.returns-clause-numbers g c).After-open c.args.k c.requires.table in
    let o = seen g (goal.at.returns-clause-numbers g c).After-open c.args.out c.requires.out_table in
    let p = placed g (goal.at.returns-clause-numbers g c).After-open in
    let keep = heads g (goal.at.returns-clause-numbers g c).After-put in let made = becomes g
    (goal.at.returns-clause-numbers g c).After-take_ratios_within keep in
    let bases = c.lists-run.result.0.now in let offsets = runs_of c.lists-run.result.2 c.lists-run.result.1.now in let are = c.lists-run.ensures in
    let read = parts g (goal.at.returns-clause-numbers g c).After-as_slice k p.whole_is in
    λ f n has but.
    let now = table_in c.args.self.now c.args.k in let before = table_in c.args.self.now c.args.out in let there = before.scope in
    let allowed = c.pairs_within-allowed.result in let S = c.deref-scopes.result.now in
    let view = opened _ _ c.deref-scopes.ensures c.self.inside.store c.open.new.self _ c.open.ensures.same.tables c.self.view_is in
    let count = all g (goal.at.returns-clause-numbers g c).After-as_slice p.part_is in
    let sums : ℕ → ℕ = λ i. plus_over g.R.Semiring.plus_of 0 f (cells_onto there now.scope i) in let steps = n + (2 * cells_beside there now.scope - 1) in
    let lists : ArePlaces there now.scope bases offsets c.lists-run.result.2 =
    subst (λ (x : ScopeOf). ArePlaces x now.scope bases offsets c.lists-run.result.2) p.part_now
    (subst (λ (x : ScopeOf). ArePlaces c.args.places.now.part x bases offsets c.lists-run.result.2) p.whole_now are) in
    let table : ℕ → TableOf = λ m. record {
      scope = there;
      shift = now.shift;
      digits = filled one_digits m
          (with_items c.fill.new.digits c.plus_at_chosen.new.out_digits).items;
      exponents = filled one_exponent m
          (with_items c.fill.new.exponents c.plus_at_chosen.new.out_exponents).items;
      touched =
          (head_in c.take_ratios_within.new.self.heads.items c.args.out).touched;
    } in
    let first = again_after g.R.Semiring.plus_of g.met.R.Semiring.lawful now before before refl c.args.event.now allowed bases offsets c.as_slice.result.now
    c.lists-run.result.2 lists
    c.pairs_within-allowed.ensures.part (subst (λ (x : ScopeOf). HasEvent x allowed) (c.scope-part.ensures ∙ o.scope) c.pairs_within-allowed.ensures.there)
    (chosen_is g (goal.at.returns-clause-numbers g c).After-as_slice ∙ ap (λ (x : ScopeOf). cells_where x allowed) o.scope)
    c.cells.result.0.now c.cells.result.1.now c.deref_mut.result.now c.deref_mut-2.result.now read.digits_are read.exponents_are read.full.as_many_digits
    (c.deref_mut.ensures.value ∙ c.fill.ensures.digits ∙ ap (λ i. filled one_digits i c.take.new.self.digits.items) count ∙ c.take.ensures.digits
    ∙ ap (λ (ts : List TableOf). (table_in ts c.args.out).digits) view)
    (c.deref_mut-2.ensures.value ∙ c.fill.ensures.exponents ∙ ap (λ i. filled one_exponent i c.take.new.self.exponents.items) count ∙ c.take.ensures.exponents
    ∙ ap (λ (ts : List TableOf). (table_in ts c.args.out).exponents) view)
    c.fill.new.digits c.fill.new.exponents c.plus_at_chosen.new.out_digits c.plus_at_chosen.new.out_exponents
    (record {
      digits = omega (arith, c.plus_at_chosen.auto.out_digits, c.deref_mut.ensures.len);
      exponents = omega (arith, c.plus_at_chosen.auto.out_exponents, c.deref_mut-2.ensures.len);
      all_digits = c.fill.ensures.all_digits ∙ count ∙ ap cells_in o.scope;
      all_exponents = c.fill.ensures.all_exponents ∙ count ∙ ap cells_in o.scope;
    }) c.plus_at_chosen.ensures now.shift _ _ refl (inside g (goal.at.returns-clause-numbers g c).After-take_ratios_within keep o.scope) o.there
    (either g (goal.at.returns-clause-numbers g c).After-take_ratios_within keep) f n has but in
    subst (λ (u : TableOf). HasNumbers u sums steps) (sym made.table) (subst (λ m. HasNumbers (table m) sums steps) (sym (ap cells_in o.scope)) first)

pub returns-clause-touched : goal.returns-clause-touched
returns-clause-touched g c =
    let keep = heads g (goal.at.returns-clause-touched g c).After-put in let made = becomes g
    (goal.at.returns-clause-touched g c).After-take_ratios_within keep in
    subst (λ (u : Option (List Pair)). KeepsPairs (table_in c.args.self.now c.args.out).scope (table_in c.args.self.now c.args.k).touched
    (table_in c.args.self.now c.args.out).touched u) (sym made.touched_is)
    (onto_kept (table_in c.args.self.now c.args.out).scope (table_in c.args.self.now c.args.k).touched _ (table_in c.args.self.now c.args.out).touched _
    (inside g (goal.at.returns-clause-touched g c).After-take_ratios_within keep (seen g (goal.at.returns-clause-touched g c).After-open c.args.out
    c.requires.out_table).scope).kept ((either g (goal.at.returns-clause-touched g c).After-take_ratios_within keep).kept
    (table_in c.args.self.now c.args.out).scope))
