use Rattle.std.proofs.Common.{◌≡◌, ◌==◌, true, cond, sym, subst, refl}
use Rattle.std.specs.Prelude.{Option, None}
use Rattle.mk_scope.specs.Scopes.{ScopeOf, has_variable}
use Rattle.mk_scope.specs.Cells.{values_at}
use Rattle.mk_table.specs.Lists.{table_in}
use Rattle.mk_table.specs.Ratios.{KeepsPairs}
use Rattle.mk_table.specs.inner.Touched.{IsBeside}
use Rattle.mk_table.specs.inner.Store.{head_in}
use Rattle.mk_table.proofs.Whole.{kept_numbers}
use Rattle.mk_table.proofs.Seen.{IsOpened, seen_in, has_run}
use Rattle.mk_table.proofs.tables.Tables.restrict.Given.{Over}
use Rattle.mk_table.proofs.tables.Tables.restrict.Goals as goal
use Rattle.mk_table.proofs.tables.Tables.restrict.Goals.{After-open}

opens : (g : Over) (c : After-open g) → IsOpened c.self.inside.scopes.value c.deref-scopes.result.now c.args.self.now c.self.inside.store c.open.new.self
opens g c = record { lent_is = c.deref-scopes.ensures; view = c.self.view_is; same = c.open.ensures.same }

pub change-requires : goal.change-requires
change-requires g c =
    let k = seen_in (opens g (goal.at.change-requires g c).After-open) _ c.requires.table in
    record { opened = c.open.ensures.same.opened; table = k.within; fits = subst (λ (x : ScopeOf). has_variable x c.args.pair.variable ≡ true) (sym k.scope) c.requires.variable }

pub keep_beside-requires-clause-table : goal.keep_beside-requires-clause-table
keep_beside-requires-clause-table g c = (seen_in (opens g (goal.at.keep_beside-requires-clause-table g c).After-open) _ c.requires.table).within

pub returns : goal.returns
returns g c =
    let o = opens g (goal.at.returns g c).After-open in let k = seen_in o _ c.requires.table in
    let run = has_run o _ c.requires.table c.change.ensures.cells c.keep_beside.ensures.ratios _ (λ h. h.shift _ c.requires.table) in
    let beside = subst (λ (t : Option _). IsBeside c.args.pair t (head_in c.keep_beside.new.self.heads.items c.args.k).touched) (run.heads.touched _ c.requires.table) c.keep_beside.ensures.beside in
    record {
      only = run.made.only;
      scope = run.made.scope;
      full = run.full;
      shift = run.made.shift_is;
      numbers = λ f n has. run.made.numbers (λ i. cond (values_at (table_in c.args.self.now c.args.k).scope i c.args.pair.variable == c.args.pair.value) (f i) 0) n
          (kept_numbers _ _ _ _ _ (k.parts _ _ _ refl refl refl) c.args.pair _ _ _ c.change.ensures.made beside f n has);
      touched = subst (λ (t : Option _). KeepsPairs (table_in c.args.self.now c.args.k).scope (table_in c.args.self.now c.args.k).touched None t) (sym run.made.touched_is) (beside.kept _);
    }
