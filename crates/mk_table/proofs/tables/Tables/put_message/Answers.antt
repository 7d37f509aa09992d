use Rattle.std.proofs.Common.{sym, subst, ◌∙◌}
use Rattle.std.specs.Prelude.{Option}
use Rattle.mk_scope.specs.Cells.{cell_in}
use Rattle.mk_scope.specs.Scopes.{ScopeOf, cells_in}
use Rattle.mk_table.specs.Lists.{table_in}
use Rattle.mk_passes.specs.Parts.{AreBlankOrFull}
use Rattle.mk_table.specs.inner.Numbers.{AreNumbers}
use Rattle.mk_table.specs.inner.Store.{store_tables}
use Rattle.mk_table.proofs.Whole.{touched_cells, put_numbers}
use Rattle.mk_table.proofs.Seen.{IsOpened, AreSeen, seen_in, see_both, spare_fits, has_run, parts_filled}
use Rattle.mk_table.proofs.tables.Tables.put_message.Given.{Over}
use Rattle.mk_table.proofs.tables.Tables.put_message.Goals as goal
use Rattle.mk_table.proofs.tables.Tables.put_message.Goals.{After-open}

opens : (g : Over) (c : After-open g) → IsOpened c.self.inside.scopes.value c.deref-scopes.result.now c.args.self.now c.self.inside.store c.open.new.self
opens g c = record { lent_is = c.deref-scopes.ensures; view = c.self.view_is; same = c.open.ensures.same }

see : (g : Over) (c : After-open g) → AreSeen c.deref-scopes.result.now c.open.new.self c.args.self.now c.args.k c.args.message c.args.places.now
see g c = see_both (opens g c) c.requires.table c.requires.message_table c.requires.places

pub take-requires : goal.take-requires
take-requires g c =
    let o = opens g (goal.at.take-requires g c).After-open in let fits = spare_fits o c.self.invariant _ c.requires.message_table in
    record { store = c.open.ensures.same.opened.store; table = (seen_in o _ c.requires.message_table).within; digits_fit = fits.0; exponents_fit = fits.1 }

pub spread-requires : goal.spread-requires
spread-requires g c =
    let see = see g (goal.at.spread-requires g c).After-open in
    record {
      opened = c.open.ensures.same.opened;
      table = see.one.within;
      places = see.placed.whole_is;
      whole = subst (λ (x : ScopeOf). AreBlankOrFull (cells_in x) c.take.new.self.digits.items c.take.new.self.exponents.items) (sym see.placed.part_is) c.take.ensures.whole;
    }

pub put_ratios-requires : goal.put_ratios-requires
put_ratios-requires g c =
    let see = see g (goal.at.put_ratios-requires g c).After-open in
    record { opened = c.spread.ensures.cells.opened; table = see.one.within; message_table = see.other.within; lies_in = see.placed.lies_kept c.spread.ensures.lies_in }

pub returns : goal.returns
returns g c =
    let at = (goal.at.returns g c).After-open in let see = see g at in
    let run = has_run (opens g at) _ c.requires.table c.spread.ensures.cells c.put_ratios.ensures.ratios _ (λ h. h.shift _ c.requires.message_table) in
    let touched = c.put_ratios.ensures.touched ∙ run.heads.touched _ c.requires.message_table in
    let message = table_in c.args.self.now c.args.message in let there = (table_in c.args.self.now c.args.k).scope in
    let after = table_in (store_tables c.deref-scopes.result.now c.spread.new.self) c.args.k in
    record {
      only = run.made.only;
      scope = run.made.scope;
      full = run.full;
      shift = run.made.shift_is;
      numbers = λ h q other.
          let goes = cell_in message.scope there in
          run.made.numbers (λ i. h (goes i)) q
          (subst (λ (t : Option _). AreNumbers (touched_cells t there) message.shift after.digits after.exponents (λ j. h (goes j)) q) (sym touched)
          (put_numbers message _ _ _ _ (parts_filled _ c.open.new.self _ _ see.other _ _ _ see.placed.part_is c.take.ensures.digits c.take.ensures.exponents) _ _ see.placed.whole_now
          (see.placed.lies_now c.spread.ensures.lies_in) _ _ c.spread.ensures.full.as_many_digits c.spread.ensures.digits c.spread.ensures.exponents h q other));
      touched = run.made.touched_is ∙ touched;
    }
