use Rattle.std.proofs.Common.{ap, sym, subst, ◌∙◌, refl}
use Rattle.mk_scope.specs.Scopes.{cells_in}
use Rattle.mk_table.specs.Tables.{TableOf, HasNumbers}
use Rattle.mk_table.specs.Lists.{table_in}
use Rattle.mk_table.proofs.Made.{ones_again}
use Rattle.mk_table.proofs.Seen.{IsOpened, seen_in, has_run}
use Rattle.mk_table.proofs.tables.Tables.clear.Given.{Over}
use Rattle.mk_table.proofs.tables.Tables.clear.Goals as goal
use Rattle.mk_table.proofs.tables.Tables.clear.Goals.{After-open}

opens : (g : Over) (c : After-open g) → IsOpened c.self.inside.scopes.value c.deref-scopes.result.now c.args.self.now c.self.inside.store c.open.new.self
opens g c = record { lent_is = c.deref-scopes.ensures; view = c.self.view_is; same = c.open.ensures.same }

pub blank-requires-clause-table : goal.blank-requires-clause-table
blank-requires-clause-table g c = (seen_in (opens g (goal.at.blank-requires-clause-table g c).After-open) _ c.requires.table).within

pub drop_ratios-requires-clause-table : goal.drop_ratios-requires-clause-table
drop_ratios-requires-clause-table g c = (seen_in (opens g (goal.at.drop_ratios-requires-clause-table g c).After-open) _ c.requires.table).within

pub returns : goal.returns
returns g c =
    let o = opens g (goal.at.returns g c).After-open in
    let run = has_run o _ c.requires.table c.blank.ensures c.drop_ratios.ensures.ratios _ (λ h. refl) in
    record {
      only = run.made.only;
      scope = run.made.scope;
      full = run.full;
      shift = run.made.shift_is;
      ones = subst (λ (u : TableOf). HasNumbers u (λ i. 1) 0) (sym run.made.table)
          (ones_again (table_in c.args.self.now c.args.k).scope _ _ (ap cells_in (seen_in o _ c.requires.table).scope) c.drop_ratios.ensures.touched);
      touched = run.made.touched_is ∙ c.drop_ratios.ensures.touched;
    }
