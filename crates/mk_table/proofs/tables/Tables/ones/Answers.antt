use Rattle.std.proofs.Common.{◌≡◌, List, length, arith, ap, sym, subst, ◌∙◌}
use Rattle.mk_scope.specs.Scopes.{ScopeOf}
use Rattle.mk_table.specs.Lists.{IsOnes, table_in}
use Rattle.mk_table.specs.inner.Store.{AreScopes, scope_in, tables_of}
use Rattle.mk_table.proofs.Stored.{tables_length}
use Rattle.mk_table.proofs.Made.{fresh_store, fresh_ones}
use Rattle.mk_table.proofs.tables.Tables.ones.Goals as goal

pub invariant_of-result : goal.invariant_of-result
invariant_of-result g c =
    let kept = c.in_ok-clone.field-0.value in
    let same : kept ≡ c.args.scopes.now.value = c.in_ok-clone.ensures.cases in
    let are : AreScopes kept c.cells-cells.result.0 c.cells-cells.result.1 = subst (λ (x : List ScopeOf). AreScopes x c.cells-cells.result.0 c.cells-cells.result.1) (c.deref.ensures ∙ sym same) c.cells-cells.ensures in
    let many : c.count.result ≡ length kept = c.count.ensures ∙ ap (λ (x : List ScopeOf). length x) (c.deref-2.ensures ∙ sym same) in
    record {
      store_is = fresh_store kept c.cells-cells.result.0 c.cells-cells.result.1 are _ _ _ _ _ _ c.in_ok-with_capacity.ensures.items c.in_ok-with_capacity-2.ensures.items c.in_ok-with_capacity-3.ensures.items
          (omega (arith, many, c.in_ok-with_capacity.ensures.capacity)) (omega (arith, c.in_ok-with_capacity-2.ensures.capacity)) (omega (arith, c.in_ok-with_capacity-3.ensures.capacity));
      digits_fit = λ k l. let m = are.each k l in omega (arith, m, c.in_ok-with_capacity-4.ensures.capacity);
      exponents_fit = λ k l. let m = are.each k l in omega (arith, m, c.in_ok-with_capacity-5.ensures.capacity);
    }

pub returns-clause-one_each : goal.returns-clause-one_each
returns-clause-one_each g c =
    let same : c.in_ok-clone.field-0.value ≡ c.args.scopes.now.value = c.in_ok-clone.ensures.cases in
    tables_length c.in_ok-clone.field-0.value _ _ _ ∙ ap (λ (x : List ScopeOf). length x) same

pub returns-clause-ones : goal.returns-clause-ones
returns-clause-ones g c = λ k l.
    let same : c.in_ok-clone.field-0.value ≡ c.args.scopes.now.value = c.in_ok-clone.ensures.cases in
    let many = ap (λ (x : List ScopeOf). length x) same in
    subst (λ (x : List ScopeOf). IsOnes (scope_in x k) (table_in (tables_of c.in_ok-clone.field-0.value c.in_ok-with_capacity.field-0.items c.in_ok-with_capacity-2.field-0.items c.in_ok-with_capacity-3.field-0.items) k)) same
    (fresh_ones c.in_ok-clone.field-0.value c.in_ok-with_capacity.field-0.items _ _ c.in_ok-with_capacity.ensures.items k (omega (arith, l, many)))
