use Rattle.std.proofs.Common.{◌+◌, ◌*◌, arith, ap, sym, subst, ◌∙◌, refl}
use Rattle.std.specs.Prelude.{Option, Some}
use Rattle.mk_net.specs.Asked.{ratio_pairs}
use Rattle.mk_net.specs.Trades.{trade_ratio}
use Rattle.mk_sums.specs.There.{ratio_there}
use Rattle.mk_scope.specs.Scopes.{ScopeOf, HasEvent, HasOneEach}
use Rattle.mk_scope.specs.Cells.{values_at, cells_where}
use Rattle.mk_table.specs.Lists.{table_in}
use Rattle.mk_table.specs.Ratios.{KeepsPairs}
use Rattle.mk_table.specs.inner.Touched.{IsEither}
use Rattle.mk_table.specs.inner.Store.{head_in}
use Rattle.mk_table.proofs.Whole.{parts_room, ratio_numbers}
use Rattle.mk_table.proofs.Seen.{IsOpened, seen_in, heads_after, has_run}
use Rattle.mk_scope.proofs.Kept.{event_first}
use Rattle.mk_table.proofs.tables.Tables.times_ratio.Given.{Over}
use Rattle.mk_table.proofs.tables.Tables.times_ratio.Goals as goal
use Rattle.mk_table.proofs.tables.Tables.times_ratio.Goals.{After-open}

opens : (g : Over) (c : After-open g) → IsOpened c.self.inside.scopes.value c.deref-scopes.result.now c.args.self.now c.self.inside.store c.open.new.self
opens g c = record { lent_is = c.deref-scopes.ensures; view = c.self.view_is; same = c.open.ensures.same }

pub scope-requires : goal.scope-requires
scope-requires g c = (seen_in (opens g (goal.at.scope-requires g c).After-open) _ c.requires.table).within

pub cells_where-requires : goal.cells_where-requires
cells_where-requires g c =
    let k = seen_in (opens g (goal.at.cells_where-requires g c).After-open) _ c.requires.table in
    subst (λ (x : ScopeOf). HasEvent x c.args.ratio.now.condition) (sym (c.scope.ensures ∙ k.scope))
    (event_first (table_in c.args.self.now c.args.k).scope c.args.ratio.now.condition _ c.requires.event)

pub change-requires : goal.change-requires
change-requires g c =
    let k = seen_in (opens g (goal.at.change-requires g c).After-open) _ c.requires.table in
    record {
      opened = c.open.ensures.same.opened;
      table = k.within;
      fits = (
        subst (λ (x : ScopeOf). HasEvent x (ratio_pairs (trade_ratio c.args.ratio.now))) (sym k.scope) c.requires.event,
        subst (λ (x : ScopeOf). HasOneEach x (trade_ratio c.args.ratio.now)) (sym k.scope) c.requires.one_each,
        c.as_slice-chosen.ensures ∙ c.cells_where.ensures.cells ∙ ap (λ (x : ScopeOf). cells_where x c.args.ratio.now.condition) c.scope.ensures,
        parts_room _ _ _ _ _ (k.parts _ _ _ refl refl refl) 1 1 c.requires.room (omega arith),
      );
    }

pub take_ratio-requires : goal.take_ratio-requires
take_ratio-requires g c =
    let o = opens g (goal.at.take_ratio-requires g c).After-open in let k = seen_in o _ c.requires.table in
    let small = c.requires.room.small_shift in let shift = (heads_after o _ c.requires.table c.change.ensures.cells).shift _ c.requires.table in
    record {
      opened = c.change.ensures.cells.opened;
      table = k.within;
      event = subst (λ (x : ScopeOf). HasEvent x c.args.ratio.now.condition) (sym k.scope)
          (event_first (table_in c.args.self.now c.args.k).scope c.args.ratio.now.condition _ c.requires.event);
      small = omega (arith, small, shift);
    }

pub returns : goal.returns
returns g c =
    let o = opens g (goal.at.returns g c).After-open in let k = seen_in o _ c.requires.table in
    let run = has_run o _ c.requires.table c.change.ensures.cells c.take_ratio.ensures.ratios _ (λ h. ap (λ i. i + 40) (h.shift _ c.requires.table)) in
    let either = subst (λ (t : Option _). IsEither t (Some c.args.ratio.now.condition) (head_in c.take_ratio.new.self.heads.items c.args.k).touched)
    (run.heads.touched _ c.requires.table) c.take_ratio.ensures.either in
    record {
      only = run.made.only;
      scope = run.made.scope;
      full = run.full;
      shift = run.made.shift_is;
      numbers = λ f n has. run.made.numbers (λ i. f i * ratio_there (trade_ratio c.args.ratio.now) (values_at (table_in c.args.self.now c.args.k).scope i)) (n + 1)
          (ratio_numbers _ _ _ _ _ (k.parts _ _ _ refl refl refl) (trade_ratio c.args.ratio.now) c.as_slice-chosen.result.now _ _ _
          (c.as_slice-chosen.ensures ∙ c.cells_where.ensures.cells ∙ ap (λ (x : ScopeOf). cells_where x c.args.ratio.now.condition) c.scope.ensures)
          c.change.ensures.made either f n has);
      touched = subst (λ (t : Option _). KeepsPairs (table_in c.args.self.now c.args.k).scope (table_in c.args.self.now c.args.k).touched (Some c.args.ratio.now.condition) t)
          (sym run.made.touched_is) (either.kept _);
    }
