use Rattle.std.proofs.Common.{List, length, arith, ap, ◌∙◌}
use Rattle.mk_scope.specs.Scopes.{ScopeOf, cells_in}
use Rattle.mk_table.specs.inner.Store.{scope_in}
use Rattle.mk_table.proofs.Made.{seen_within, seen_scope, seen_full}
use Rattle.mk_table.proofs.tables.Tables.cells.Goals as goal

pub scope-requires : goal.scope-requires
scope-requires g c =
    let now = c.args.self.now in let k = c.args.k in let is = c.self.invariant.store_is in
    let within = seen_within c.self.inside.scopes.value c.self.inside.store.heads.items c.self.inside.store.digits.items c.self.inside.store.exponents.items now c.self.view_is k c.requires.table in
    let e = ap (λ (x : List ScopeOf). length x) c.deref.ensures in omega (arith, within, e)

pub returns-clause-cells : goal.returns-clause-cells
returns-clause-cells g c =
    let now = c.args.self.now in let k = c.args.k in let is = c.self.invariant.store_is in
    let within = seen_within c.self.inside.scopes.value c.self.inside.store.heads.items c.self.inside.store.digits.items c.self.inside.store.exponents.items now c.self.view_is k c.requires.table in
    c.cells.ensures.cells ∙ ap cells_in (c.scope.ensures ∙ ap (λ (x : List ScopeOf). scope_in x k) c.deref.ensures ∙ seen_scope c.self.inside.scopes.value c.self.inside.store.heads.items c.self.inside.store.digits.items c.self.inside.store.exponents.items _ _ _ is now c.self.view_is k within)

pub returns-clause-full : goal.returns-clause-full
returns-clause-full g c =
    let now = c.args.self.now in let k = c.args.k in let is = c.self.invariant.store_is in
    let within = seen_within c.self.inside.scopes.value c.self.inside.store.heads.items c.self.inside.store.digits.items c.self.inside.store.exponents.items now c.self.view_is k c.requires.table in
    let full = seen_full c.self.inside.scopes.value c.self.inside.store.heads.items c.self.inside.store.digits.items c.self.inside.store.exponents.items _ _ _ is now c.self.view_is k within in full.as_many_digits
