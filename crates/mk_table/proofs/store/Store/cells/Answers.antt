use Rattle.std.proofs.Common.{arith, ap, sym, ◌∙◌, refl, inl}
use Rattle.mk_scope.specs.Scopes.{cells_in}
use Rattle.mk_passes.specs.Blank.{one_digits, one_exponent}
use Rattle.mk_table.specs.inner.Store.{scope_in}
use Rattle.mk_passes.proofs.Filled.{filled_empty}
use Rattle.mk_table.proofs.Stored.{cells_there, cells_blank, range_full, some_written, range_whole, range_filled_digits, range_filled_exponents}
use Rattle.mk_table.proofs.store.Store.cells.Goals as goal

pub overflow_add-end : goal.overflow_add-end
overflow_add-end c =
    let there = cells_there _ _ _ _ _ _ _ c.requires.store c.args.k c.requires.table c.in-Written.first (sym c.place.ensures ∙ c.in-Written.is) in
    let e = c.cells.ensures.cells ∙ ap cells_in c.scope.ensures in
    omega (arith, there, e, c.args.self.now.digits.ok.0)

pub offset_bounds-deref-first : goal.offset_bounds-deref-first
offset_bounds-deref-first c =
    let there = cells_there _ _ _ _ _ _ _ c.requires.store c.args.k c.requires.table c.in-Written.first (sym c.place.ensures ∙ c.in-Written.is) in
    omega (arith, there, c.args.self.now.digits.ok.0, c.deref.ensures.len)

pub slice_bounds-result-end : goal.slice_bounds-result-end
slice_bounds-result-end c =
    let there = cells_there _ _ _ _ _ _ _ c.requires.store c.args.k c.requires.table c.in-Written.first (sym c.place.ensures ∙ c.in-Written.is) in
    let e = c.cells.ensures.cells ∙ ap cells_in c.scope.ensures in
    omega (arith, there, e, c.args.self.now.digits.ok.0, c.deref.ensures.len)

pub offset_bounds-deref-first-in-Written : goal.offset_bounds-deref-first-in-Written
offset_bounds-deref-first-in-Written c =
    let there = cells_there _ _ _ _ _ _ _ c.requires.store c.args.k c.requires.table c.in-Written.first (sym c.place.ensures ∙ c.in-Written.is) in
    omega (arith, there, c.args.self.now.digits.ok.0, c.args.self.now.exponents.ok.0, c.deref.ensures.len)

pub slice_bounds-result-end-in-Written : goal.slice_bounds-result-end-in-Written
slice_bounds-result-end-in-Written c =
    let there = cells_there _ _ _ _ _ _ _ c.requires.store c.args.k c.requires.table c.in-Written.first (sym c.place.ensures ∙ c.in-Written.is) in
    let e = c.cells.ensures.cells ∙ ap cells_in c.scope.ensures in
    omega (arith, there, e, c.args.self.now.exponents.ok.0, c.deref-in-Written.ensures.len, c.requires.store.same_length)

pub returns-in-Written-clause-whole : goal.returns-in-Written-clause-whole
returns-in-Written-clause-whole c =
    range_whole _ _ _ _ _ _ _ c.requires.store c.args.k c.requires.table c.in-Written.first (sym c.place.ensures ∙ c.in-Written.is) c.cells.result (c.cells.ensures.cells ∙ ap cells_in c.scope.ensures)
    c.deref.result.now c.deref-in-Written.result.now c.deref.ensures.value c.deref-in-Written.ensures.value

pub returns-in-Written-clause-digits : goal.returns-in-Written-clause-digits
returns-in-Written-clause-digits c =
    range_filled_digits _ _ _ _ _ _ _ c.requires.store c.args.k c.requires.table c.in-Written.first (sym c.place.ensures ∙ c.in-Written.is) c.cells.result (c.cells.ensures.cells ∙ ap cells_in c.scope.ensures)
    c.deref.result.now c.deref-in-Written.result.now c.deref.ensures.value c.deref-in-Written.ensures.value

pub returns-in-Written-clause-exponents : goal.returns-in-Written-clause-exponents
returns-in-Written-clause-exponents c =
    range_filled_exponents _ _ _ _ _ _ _ c.requires.store c.args.k c.requires.table c.in-Written.first (sym c.place.ensures ∙ c.in-Written.is) c.cells.result (c.cells.ensures.cells ∙ ap cells_in c.scope.ensures)
    c.deref.result.now c.deref-in-Written.result.now c.deref.ensures.value c.deref-in-Written.ensures.value

pub returns-in_default : goal.returns-in_default
returns-in_default c =
    let b = cells_blank _ _ _ _ _ _ _ c.requires.store c.args.k c.requires.table (λ g w. c.in_default.not-Written g (c.place.ensures ∙ w)) in
    record {
      whole = record { either = inl (refl, refl) };
      digits = filled_empty one_digits (cells_in (scope_in c.args.scopes.now c.args.k)) ∙ sym b.0;
      exponents = filled_empty one_exponent (cells_in (scope_in c.args.scopes.now c.args.k)) ∙ sym b.1;
      written = λ h. absurd (some_written _ (λ g w. c.in_default.not-Written g (c.place.ensures ∙ w)) h);
    }

pub returns-in-Written-clause-written : goal.returns-in-Written-clause-written
returns-in-Written-clause-written c = λ h.
    let full = range_full _ _ _ _ _ _ _ c.requires.store c.args.k c.requires.table c.in-Written.first (sym c.place.ensures ∙ c.in-Written.is) c.cells.result (c.cells.ensures.cells ∙ ap cells_in c.scope.ensures)
    c.deref.result.now c.deref-in-Written.result.now c.deref.ensures.value c.deref-in-Written.ensures.value in
    full.as_many_digits
