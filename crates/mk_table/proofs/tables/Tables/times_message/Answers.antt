use Rattle.std.proofs.Common.{◌+◌, ◌*◌, arith, ap, sym, subst, ◌∙◌, refl}
use Rattle.std.specs.Prelude.{Option}
use Rattle.mk_scope.specs.Cells.{cell_in}
use Rattle.mk_scope.specs.Scopes.{ScopeOf, cells_in}
use Rattle.mk_table.specs.Lists.{table_in}
use Rattle.mk_passes.specs.Parts.{AreBlankOrFull}
use Rattle.mk_table.specs.inner.Touched.{IsEither}
use Rattle.mk_table.specs.inner.Store.{head_in}
use Rattle.mk_table.specs.Ratios.{KeepsPairs}
use Rattle.mk_table.proofs.Whole.{parts_room, message_numbers}
use Rattle.mk_table.proofs.Seen.{IsOpened, AreSeen, seen_in, see_both, spare_fits, heads_after, has_run, parts_filled}
use Rattle.mk_table.proofs.tables.Tables.times_message.Given.{Over}
use Rattle.mk_table.proofs.tables.Tables.times_message.Goals as goal
use Rattle.mk_table.proofs.tables.Tables.times_message.Goals.{After-open}

opens : (g : Over) (c : After-open g) → IsOpened c.self.inside.scopes.value c.deref-scopes.result.now c.args.self.now c.self.inside.store c.open.new.self
opens g c = record { lent_is = c.deref-scopes.ensures; view = c.self.view_is; same = c.open.ensures.same }

see : (g : Over) (c : After-open g) → AreSeen c.deref-scopes.result.now c.open.new.self c.args.self.now c.args.k c.args.message c.args.places.now
see g c = see_both (opens g c) c.requires.table c.requires.message_table c.requires.places

pub take-requires : goal.take-requires
take-requires g c =
    let o = opens g (goal.at.take-requires g c).After-open in let fits = spare_fits o c.self.invariant _ c.requires.message_table in
    record { store = c.open.ensures.same.opened.store; table = (seen_in o _ c.requires.message_table).within; digits_fit = fits.0; exponents_fit = fits.1 }

pub times-requires : goal.times-requires
times-requires g c =
    let see = see g (goal.at.times-requires g c).After-open in
    record {
      opened = c.open.ensures.same.opened;
      table = see.one.within;
      places = see.placed.whole_is;
      whole = subst (λ (x : ScopeOf). AreBlankOrFull (cells_in x) c.take.new.self.digits.items c.take.new.self.exponents.items) (sym see.placed.part_is) c.take.ensures.whole;
      room = parts_room _ _ _ _ _ (see.one.parts _ _ _ see.placed.whole_is refl refl) 1 1 c.requires.room (omega arith);
      other_room = parts_room _ _ _ _ _ (parts_filled _ c.open.new.self _ _ see.other _ _ _ see.placed.part_is c.take.ensures.digits c.take.ensures.exponents) 1 1 c.requires.message_room (omega arith);
    }

pub take_ratios-requires : goal.take_ratios-requires
take_ratios-requires g c =
    let at = (goal.at.take_ratios-requires g c).After-open in let see = see g at in let heads = heads_after (opens g at) _ c.requires.table c.times.ensures.cells in
    let small = c.requires.room.small_shift in let small_too = c.requires.message_room.small_shift in
    record {
      opened = c.times.ensures.cells.opened;
      table = see.one.within;
      message_table = see.other.within;
      lies_in = see.placed.lies_kept c.times.ensures.lies_in;
      small = omega (arith, small, heads.shift _ c.requires.table);
      small_too = omega (arith, small_too, heads.shift _ c.requires.message_table);
    }

pub returns : goal.returns
returns g c =
    let at = (goal.at.returns g c).After-open in let see = see g at in
    let run = has_run (opens g at) _ c.requires.table c.times.ensures.cells c.take_ratios.ensures.ratios _
    (λ h. ap (λ i. i + (head_in c.times.new.self.heads.items c.args.message).shift) (h.shift _ c.requires.table) ∙ ap (λ i. (table_in c.args.self.now c.args.k).shift + i) (h.shift _ c.requires.message_table)) in
    let after = (head_in c.take_ratios.new.self.heads.items c.args.k).touched in
    let either = subst (λ (t : Option _). IsEither t (table_in c.args.self.now c.args.message).touched after) (run.heads.touched _ c.requires.table)
    (subst (λ (t : Option _). IsEither (head_in c.times.new.self.heads.items c.args.k).touched t after) (run.heads.touched _ c.requires.message_table) c.take_ratios.ensures.either) in
    record {
      only = run.made.only;
      scope = run.made.scope;
      full = run.full;
      shift = run.made.shift_is;
      numbers = λ f h n q has other.
          run.made.numbers (λ i. f i * h (cell_in (table_in c.args.self.now c.args.message).scope (table_in c.args.self.now c.args.k).scope i)) (n + q + 1)
          (message_numbers _ _ _ _ _ (see.one.parts _ _ _ see.placed.whole_is refl refl) (table_in c.args.self.now c.args.message) _ _ _ _
          (parts_filled _ c.open.new.self _ _ see.other _ _ _ see.placed.part_is c.take.ensures.digits c.take.ensures.exponents) _ _ _
          (see.placed.lies_now c.times.ensures.lies_in) c.times.ensures.changed either f h n q has other);
      touched = subst (λ (t : Option _). KeepsPairs (table_in c.args.self.now c.args.k).scope (table_in c.args.self.now c.args.k).touched
          (table_in c.args.self.now c.args.message).touched t) (sym run.made.touched_is) (either.kept _);
    }
