use Rattle.std.proofs.Common.{◌≡◌, ◌-◌, ◌≤◌, ap, subst, arith}
use Rattle.std.proofs.lemmas.List.{get_or_read}
use Rattle.mk_scope.specs.Scopes.{ScopeOf, IsScope, size_in, cells_in}
use Rattle.mk_scope.proofs.Kept.{column_at}
use Rattle.mk_scope.proofs.Members.{size_pos}
use Rattle.mk_scope.proofs.Values.{cells_pos}
use Rattle.mk_scope.proofs.scope.Scope.column.Goals as goal

some_cell : (kept scope : ScopeOf) → IsScope kept → kept ≡ scope → 1 ≤ cells_in scope
some_cell kept scope is same = subst (λ (s : ScopeOf). 1 ≤ cells_in s) same (cells_pos (size_in kept) kept.variables (λ x q. size_pos kept is x))

pub overflow_sub-variable : goal.overflow_sub-variable
overflow_sub-variable c =
    let some = some_cell _ c.args.self.now c.self.invariant.scope_is c.self.view_is in
    let k = column_at _ c.args.self.now _ _ _ _ c.self.invariant c.self.view_is c.args.variable (cells_in c.args.self.now - 1) c.requires (omega (arith, some)) in
    omega (arith, k.reached)

pub index-requires : goal.index-requires
index-requires c =
    let some = some_cell _ c.args.self.now c.self.invariant.scope_is c.self.view_is in
    let k = column_at _ c.args.self.now _ _ _ _ c.self.invariant c.self.view_is c.args.variable (cells_in c.args.self.now - 1) c.requires (omega (arith, some)) in
    omega (arith, k.started, c.self.inside.starts.ok.0)

pub slice_bounds-result-end : goal.slice_bounds-result-end
slice_bounds-result-end c =
    let some = some_cell _ c.args.self.now c.self.invariant.scope_is c.self.view_is in
    let k = column_at _ c.args.self.now _ _ _ _ c.self.invariant c.self.view_is c.args.variable (cells_in c.args.self.now - 1) c.requires (omega (arith, some)) in
    let s = get_or_read c.self.inside.starts.items (c.args.variable - c.self.inside.first) _ k.started c.index.ensures 0 in
    let e = ap cells_in c.self.view_is in
    omega (arith, k.within, s, some, e, c.self.invariant.counted, c.deref.ensures.len, c.self.inside.columns.ok.0)
