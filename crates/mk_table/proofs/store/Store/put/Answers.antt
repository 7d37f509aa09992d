use Rattle.std.proofs.Common.{ℕ, ◌≤◌, List, length, replicate, arith, ap, sym, subst, ◌∙◌}
use Rattle.mk_scope.specs.Scopes.{ScopeOf, cells_in}
use Rattle.mk_passes.specs.Parts.{AreBlankOrFull}
use Rattle.mk_table.specs.declared.store.Store.{Store}
use Rattle.mk_passes.specs.Blank.{one_digits, one_exponent, filled}
use Rattle.mk_table.specs.inner.Store.{HasCells, scope_in}
use Rattle.mk_passes.proofs.Filled.{filled_none, filled_full, all_blank, all_full}
use Rattle.mk_table.proofs.store.Store.put.Goals as goal

-- cells that are all there fill their arrays
filled_cells : (scopes : List ScopeOf) (old new : Store) (k C : ℕ) (d e : List ℕ) → AreBlankOrFull C d e → C ≤ length d → HasCells scopes old new k d e
    → HasCells scopes old new k (filled one_digits C d) (filled one_exponent C e)
filled_cells scopes old new k C d e whole long cells =
    subst (λ (ys : List ℕ). HasCells scopes old new k ys (filled one_exponent C e)) (sym (filled_full one_digits C d long))
    (subst (λ (ys : List ℕ). HasCells scopes old new k d ys) (sym (filled_full one_exponent C e (all_full C d e whole long))) cells)

pub returns-then-len-count : goal.returns-then-len-count
returns-then-len-count c =
    let s = c.args.self.now in let d = c.args.spare.now.digits.items in let e = c.args.spare.now.exponents.items in let C = cells_in (scope_in c.args.scopes.now c.args.k) in
    let counted = c.cells-count.ensures.cells ∙ ap cells_in c.scope.ensures in
    let none = all_blank C d e c.requires.whole (omega (arith, counted, c.len.ensures, c.if-len-count.true, c.args.spare.now.digits.ok.0)) in
    subst (λ (ys : List ℕ). HasCells c.args.scopes.now s c.blank.new.self c.args.k ys (filled one_exponent C e)) (sym (filled_none one_digits C d none.0))
    (subst (λ (ys : List ℕ). HasCells c.args.scopes.now s c.blank.new.self c.args.k (replicate C one_digits) ys) (sym (filled_none one_exponent C e none.1)) c.blank.ensures)

pub returns-in-Nowhere : goal.returns-in-Nowhere
returns-in-Nowhere c = filled_cells _ _ _ _ _ _ _ c.requires.whole (omega (arith, c.cells-count.ensures.cells, ap cells_in c.scope.ensures, c.len.ensures, c.if-len-count.false, c.args.spare.now.digits.ok.0)) c.put_end.ensures

pub returns-in-Blank : goal.returns-in-Blank
returns-in-Blank c = filled_cells _ _ _ _ _ _ _ c.requires.whole (omega (arith, c.cells-count.ensures.cells, ap cells_in c.scope.ensures, c.len.ensures, c.if-len-count.false, c.args.spare.now.digits.ok.0)) c.put_at.ensures

pub returns-in-Written : goal.returns-in-Written
returns-in-Written c = filled_cells _ _ _ _ _ _ _ c.requires.whole (omega (arith, c.cells-count.ensures.cells, ap cells_in c.scope.ensures, c.len.ensures, c.if-len-count.false, c.args.spare.now.digits.ok.0)) c.put_at-in-Written.ensures
