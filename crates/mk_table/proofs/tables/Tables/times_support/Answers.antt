use Rattle.std.proofs.Common.{ℕ, ◌+◌, ◌*◌, ◌<◌, All, length, arith, sym, subst, refl}
use Rattle.mk_net.specs.Named.{variable_at}
use Rattle.mk_sums.specs.There.{support_there}
use Rattle.mk_scope.specs.Scopes.{ScopeOf, HasSized}
use Rattle.mk_scope.specs.Cells.{values_at}
use Rattle.mk_table.specs.Lists.{table_in}
use Rattle.mk_table.specs.inner.Store.{store_tables}
use Rattle.mk_table.proofs.Whole.{parts_room, rows_numbers}
use Rattle.mk_table.proofs.Seen.{IsSeen, is_seen, opened, HasBecome, cells_become, cells_long}
use Rattle.mk_table.proofs.tables.Tables.times_support.Given.{Over}
use Rattle.mk_table.proofs.tables.Tables.times_support.Goals as goal
use Rattle.mk_table.proofs.tables.Tables.times_support.Goals.{After-open, After-change}

seen : (g : Over) (c : After-open g) (k : ℕ) → k < length c.args.self.now → IsSeen c.deref-scopes.result.now c.open.new.self c.args.self.now k
seen g c = is_seen _ c.open.new.self _ c.open.ensures.same.opened.store (opened _ _ c.deref-scopes.ensures c.self.inside.store c.open.new.self _ c.open.ensures.same.tables
    c.self.view_is)

becomes : (g : Over) (c : After-change g) →
    let after = table_in (store_tables c.deref-scopes.result.now c.change.new.self) c.args.k in let table = table_in c.args.self.now c.args.k in
    HasBecome c.args.self.now (store_tables c.self.inside.scopes.value c.change.new.self) c.args.k table.shift after.digits after.exponents table.touched
becomes g c = cells_become _ _ c.deref-scopes.ensures _ c.open.new.self c.change.new.self
    (opened _ _ c.deref-scopes.ensures c.self.inside.store c.open.new.self _ c.open.ensures.same.tables c.self.view_is) _ c.requires.table _ _
    c.change.ensures.cells.tables

pub change-requires-clause-table : goal.change-requires-clause-table
change-requires-clause-table g c = (seen g (goal.at.change-requires-clause-table g c).After-open _ c.requires.table).within

pub change-requires-clause-fits : goal.change-requires-clause-fits
change-requires-clause-fits g c =
    let k = seen g (goal.at.change-requires-clause-fits g c).After-open _ c.requires.table in
    record {
      variable = c.requires.variable;
      family = subst (λ (x : ScopeOf). HasSized c.args.net.now x c.args.variable) (sym k.scope) c.requires.family;
      parents = subst (λ (x : ScopeOf). All (HasSized c.args.net.now x) (variable_at c.args.net.now c.args.variable).parents) (sym k.scope) c.requires.parents;
      room = parts_room _ _ _ _ _ (k.parts _ _ _ refl refl refl) 1 1 c.requires.room (omega arith);
    }

pub returns-clause-full : goal.returns-clause-full
returns-clause-full g c =
    let k = seen g (goal.at.returns-clause-full g c).After-open _ c.requires.table in
    (becomes g (goal.at.returns-clause-full g c).After-change).full (cells_long _ c.change.new.self c.change.ensures.cells.opened.store _ k.within _
    k.scope)

pub returns-clause-numbers : goal.returns-clause-numbers
returns-clause-numbers g c = λ f n has.
    let k = seen g (goal.at.returns-clause-numbers g c).After-open _ c.requires.table in
    (becomes g (goal.at.returns-clause-numbers g c).After-change).numbers (λ i. f i * support_there c.args.net.now c.args.variable
    (values_at (table_in c.args.self.now c.args.k).scope i)) (n + 1)
    (rows_numbers _ _ _ _ _ (k.parts _ _ _ refl refl refl) (λ (x : ScopeOf) i. support_there c.args.net.now c.args.variable (values_at x i)) _ _
    c.change.ensures.made f n has)
