use Rattle.std.proofs.Common.{◌≡◌, ◌+◌, ◌-◌, true, length, slice_set, refl, sym, ap}
use Rattle.std.proofs.Common.{subst, ◌∙◌, arith}
use Rattle.std.proofs.lemmas.List.{length-set}
use Rattle.mk_net.specs.Trades.{trade_ratio}
use Rattle.mk_table.specs.Tables.{TableOf, HasRoom}
use Rattle.mk_engine.specs.Meaning.{RatioOf}
use Rattle.mk_plan.specs.Shapes.{ShapeOf, IsShapeFor, IsClique, clique_scope, core_scope}
use Rattle.mk_propagate.specs.Placings.{IsPlacedFactor, with_factor_in}
use Rattle.mk_propagate.specs.Flows.{FlowOf, Places}
use Rattle.mk_propagate.specs.inner.Boards.{BoardOf, table_of, core_of, with_core}
use Rattle.mk_propagate.specs.inner.Boards.{with_table}
use Rattle.mk_propagate.specs.inner.Gathered.{IsFollowed}
use Rattle.mk_propagate.specs.inner.Kept.{IsFlow}
use Rattle.mk_propagate.proofs.Boards.{read_there}
use Rattle.mk_propagate.proofs.Marks.{shift_before}
use Rattle.mk_propagate.proofs.Calls.{flow_over, kept_messages, put_there, clique_old}
use Rattle.mk_propagate.proofs.Calls.{takes_ratio, room_with, core_had_room}
use Rattle.mk_propagate.proofs.Calls.{flow_followed, places_followed, ratio_fits_each}
use Rattle.mk_propagate.proofs.flow.Flow.times_ratio.Given.{Over}
use Rattle.mk_propagate.proofs.flow.Flow.times_ratio.Goals.{After-follow}
use Rattle.mk_propagate.proofs.flow.Flow.times_ratio.Goals as goal

-- the core follows the table
board_is : (g : Over) (c : After-follow g) → c.follow.new.board ≡ with_core
    (with_table c.self.inside.board c.args.clique (table_of c.times_ratio.new.self c.args.clique))
    c.args.clique (core_of c.follow.new.board c.args.clique)
board_is g c =
    let k = c.args.clique in
    c.follow.ensures.only
    ∙ ap (λ (x : BoardOf). with_core x k (core_of c.follow.new.board k)) c.times_ratio.ensures.only

pub times_ratio-requires : goal.times_ratio-requires
times_ratio-requires g c =
    let b = c.self.inside.board in let k = c.args.clique in
    let takes = takes_ratio g.R.Semiring.plus_of _ c.args.self.now c.self.view_is b.products _
    c.self.invariant.kept c.requires.0 c.requires.1.has k c.requires.2.clique_is (table_of b k)
    (read_there b.tables (k - 1)) b refl (trade_ratio c.args.ratio.now) c.requires.2 in
    record {
      clique = takes.there;
      ratio = record { event = takes.event; one_each = takes.one_each; room = takes.room };
    }

pub follow-requires : goal.follow-requires
follow-requires g c =
    let plus = g.R.Semiring.plus_of in let inside = c.self.inside in let b = inside.board in
    let k = c.args.clique in let kept = c.self.invariant.kept in
    let made = c.times_ratio in let only = made.ensures.only in let times = made.ensures.made in
    let at = clique_old plus _ c.args.self.now c.self.view_is b.products _ kept c.requires.0
    c.requires.1.has k c.requires.2.clique_is (table_of b k) (read_there b.tables (k - 1)) in
    let same = c.deref.ensures ∙ ap (λ (f : FlowOf). f.shape) c.self.view_is in
    record {
      can = record {
        clique = subst (λ (s : ShapeOf). IsClique s.tree k) (sym c.deref.ensures) at;
        over =
            ap (λ (x : BoardOf). length x.tables) only
            ∙ length-set b.tables (k - 1) (table_of made.new.self k) ∙ kept.one_each
            ∙ ap (λ (s : ShapeOf). length s.tree.cliques) (sym c.deref.ensures);
        of_core =
            ap (λ (x : BoardOf). (core_of x k).scope) only ∙ kept.cores_are.scopes k at
            ∙ ap (λ (s : ShapeOf). core_scope s k) (sym c.deref.ensures);
        of_table =
            times.scope ∙ kept.table_scopes k at
            ∙ ap (λ (s : ShapeOf). clique_scope s k) (sym c.deref.ensures);
        room =
            room_with plus _ c.args.self.now c.self.view_is b.products _ kept c.requires.0
            c.requires.1.has k c.requires.2.clique_is (table_of b k) (read_there b.tables (k - 1))
            (table_of made.new.self k) times.scope g.met.R.Semiring.lawful
            (trade_ratio c.args.ratio.now) c.requires.2
            (omega (arith, c.requires.1.has.counted, c.requires.1.room)) times.shift times.touched
            times.numbers;
      };
      core_room = λ marked.
          subst (λ (t : TableOf). HasRoom t 1) (sym (ap (λ (x : BoardOf). core_of x k) only))
          (core_had_room plus _ c.args.self.now c.self.view_is b.products _ kept c.requires.0
          c.requires.1.has k c.requires.2.clique_is (table_of b k) (read_there b.tables (k - 1))
          (table_of made.new.self k) times.scope (core_of b k) (core_of b k)
          (read_there b.cores (k - 1)) refl c.index_mut.result.now c.index_mut.result.now
          c.index_mut.ensures.value (table_of made.new.self k) (put_there b made.new.self k only)
          g.met.R.Semiring.lawful marked);
      shift = λ marked.
          times.shift
          ∙ ap (λ n. n + 40) (sym (shift_before plus _ _ _ _ c.self.invariant k at
          inside.shape.value refl (table_of b k) (read_there b.tables (k - 1)) (core_of b k)
          (read_there b.cores (k - 1)) c.index_mut.result.now c.index_mut.ensures.value marked))
          ∙ ap (λ (x : BoardOf). (core_of x k).shift + 40) (sym only);
      fits = (
        c.requires.0.network,
        subst (λ (s : ShapeOf). IsShapeFor s c.requires.0.network) (sym same)
            c.requires.1.has.shape_is,
        subst (λ (s : ShapeOf). IsPlacedFactor c.requires.0.network s.tree
            (record { clique = k; factor = RatioOf (trade_ratio c.args.ratio.now) })) (sym same)
            c.requires.2,
      );
    }

pub invariant_of-self : goal.invariant_of-self
invariant_of-self g c =
    let inside = c.self.inside in let b = inside.board in let k = c.args.clique in
    let made = c.times_ratio in let after = c.follow in
    subst (λ (x : BoardOf). IsFlow g.R.Semiring.plus_of (flow_over inside.shape.value
    (slice_set inside.summed.items (k - 1) after.new.summed) (inside.factors + 1) inside.computed x)
    x.products inside.gathered.items inside.cells)
    (sym (board_is g (goal.at.invariant_of-self g c).After-follow))
    (flow_followed g.R.Semiring.plus_of _ c.args.self.now c.self.view_is b.products inside.cells
    c.self.invariant.kept c.requires.0 c.requires.1.has k c.requires.2.clique_is (table_of b k)
    (read_there b.tables (k - 1)) (table_of made.new.self k) made.ensures.made.scope (core_of b k)
    (core_of after.new.board k) (read_there b.cores (k - 1))
    (after.ensures.scope ∙ ap (λ (x : BoardOf). (core_of x k).scope) made.ensures.only)
    c.index_mut.result.now after.new.summed c.index_mut.ensures.value (table_of made.new.self k)
    (put_there b made.new.self k made.ensures.only) after.ensures.shift (inside.factors + 1)
    inside.gathered.items c.self.invariant.gathered_are)

pub returns : goal.returns
returns g c =
    let inside = c.self.inside in let b = inside.board in let k = c.args.clique in
    let made = c.times_ratio in let times = made.ensures.made in let after = c.follow in
    let is = board_is g (goal.at.returns g c).After-follow in
    let ratio = trade_ratio c.args.ratio.now in
    record {
      kept =
          kept_messages _ c.args.self.now _ c.self.view_is refl
          (ap (λ (x : BoardOf). x.upward) is) (ap (λ (x : BoardOf). x.downward) is) refl;
      places = λ p h.
          let fits = ratio_fits_each g.R.Semiring.plus_of c.args.self.now c.requires.0 p
          c.requires.1.has h k ratio c.requires.2 in
          subst (λ (x : BoardOf). Places g.R.Semiring.plus_of c.args.self.now
          (flow_over inside.shape.value (slice_set inside.summed.items (k - 1) after.new.summed)
          (inside.factors + 1) inside.computed x) k p (with_factor_in k (RatioOf ratio) p))
          (sym is)
          (places_followed g.R.Semiring.plus_of _ c.args.self.now c.self.view_is b.products
          inside.cells c.self.invariant.kept p h k fits.clique_is (table_of b k)
          (read_there b.tables (k - 1)) (table_of made.new.self k) times.scope (core_of b k)
          (core_of after.new.board k) (read_there b.cores (k - 1))
          (after.ensures.scope ∙ ap (λ (x : BoardOf). (core_of x k).scope) made.ensures.only)
          c.index_mut.result.now after.new.summed c.index_mut.ensures.value
          (table_of made.new.self k) (put_there b made.new.self k made.ensures.only)
          g.met.R.Semiring.lawful ratio fits
          (omega (arith, c.requires.1.has.counted, c.requires.1.room)) times.shift times.touched
          times.numbers c.deref.result.now c.deref.ensures after.ensures.were
          (subst (λ (u : TableOf). after.new.summed ≡ true → IsFollowed g.R.Semiring.plus_of
          c.deref.result.now k ratio (table_of made.new.self k) u (core_of after.new.board k))
          (ap (λ (x : BoardOf). core_of x k) made.ensures.only) after.ensures.followed));
    }
