use Rattle.std.proofs.Common.{ℕ, ◌+◌, ◌-◌, ◌*◌, List, refl, sym, subst}
use Rattle.std.proofs.Common.{arith}
use Rattle.mk_net.specs.Network.{Variable}
use Rattle.mk_sums.specs.There.{support_there}
use Rattle.mk_scope.specs.Cells.{values_at}
use Rattle.mk_table.specs.Tables.{HasNumbers}
use Rattle.mk_engine.specs.Meaning.{SupportOf}
use Rattle.mk_propagate.specs.Placings.{IsPlacedFactor}
use Rattle.mk_propagate.specs.inner.Boards.{table_of}
use Rattle.mk_propagate.proofs.Boards.{read_there}
use Rattle.mk_propagate.proofs.Calls.{takes_rows, flow_called, messages_called, factor_called}
use Rattle.mk_propagate.proofs.flow.Flow.times_support.Goals as goal

pub times_support-requires : goal.times_support-requires
times_support-requires g c =
    let b = c.self.inside.board in let k = c.args.clique in
    let takes = takes_rows g.R.Semiring.plus_of _ c.args.self.now c.self.view_is b.products _
    c.self.invariant.kept c.requires.0 c.requires.1.has k c.requires.3.clique_is (table_of b k)
    (read_there b.tables (k - 1)) b refl c.args.net.now c.requires.2 c.args.variable
    (record { clique_is = c.requires.3.clique_is; fits = c.requires.3.fits }) in
    record {
      clique = takes.there;
      family = record {
        within = c.requires.3.fits.0;
        family = takes.family;
        parents = takes.parents;
        room = takes.room;
      };
    }

pub invariant_of-self : goal.invariant_of-self
invariant_of-self g c =
    let inside = c.self.inside in let made = c.times_support in
    flow_called g.R.Semiring.plus_of inside.shape.value inside.summed.items inside.factors
    inside.computed inside.cells inside.board made.new.self c.args.self.now c.self.view_is
    c.self.invariant.kept c.requires.0 c.requires.1.has c.args.clique c.requires.3.clique_is
    made.ensures.only made.ensures.made.scope (inside.factors + 1) inside.gathered.items
    c.self.invariant.gathered_are

pub returns : goal.returns
returns g c =
    let inside = c.self.inside in let b = inside.board in let k = c.args.clique in
    let made = c.times_support in let only = made.ensures.only in let times = made.ensures.made in
    let f = SupportOf c.args.variable in
    record {
      kept =
          messages_called g.R.Semiring.plus_of inside.shape.value inside.summed.items
          inside.factors inside.computed inside.cells b made.new.self c.args.self.now
          c.self.view_is c.self.invariant.kept c.requires.0 c.requires.1.has k
          c.requires.3.clique_is only times.scope (inside.factors + 1);
      places = λ p h e.
          let fits = subst (λ (n : List Variable). IsPlacedFactor n c.args.self.now.shape.tree
          (record { clique = k; factor = f })) (sym e) c.requires.3 in
          factor_called g.R.Semiring.plus_of inside.shape.value inside.summed.items inside.factors
          inside.computed inside.cells b made.new.self c.args.self.now c.self.view_is
          c.self.invariant.kept p h k fits.clique_is only times.scope f refl fits
          (omega (arith, c.requires.1.has.counted, c.requires.1.room)) times.shift times.touched
          (subst (λ (n : List Variable). (g : ℕ → ℕ) (m : ℕ) → HasNumbers (table_of b k) g m
          → HasNumbers (table_of made.new.self k)
          (λ i. g i * support_there n c.args.variable (values_at (table_of b k).scope i)) (m + 1))
          (sym e) times.numbers);
    }
