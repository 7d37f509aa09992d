use Rattle.std.proofs.Common.{◌-◌, refl}
use Rattle.mk_propagate.specs.inner.Boards.{table_of}
use Rattle.mk_propagate.proofs.Boards.{read_there}
use Rattle.mk_propagate.proofs.Calls.{clique_there, pair_variable, flow_called}
use Rattle.mk_propagate.proofs.Calls.{messages_called, pair_called, pair_fits_each}
use Rattle.mk_propagate.proofs.flow.Flow.restrict.Goals as goal

pub restrict-requires : goal.restrict-requires
restrict-requires g c =
    let b = c.self.inside.board in let k = c.args.clique in
    record {
      clique =
          clique_there g.R.Semiring.plus_of _ c.args.self.now c.self.view_is b.products _
          c.self.invariant.kept c.requires.0 c.requires.1 k c.requires.2.clique_is (table_of b k)
          (read_there b.tables (k - 1)) b refl;
      variable =
          pair_variable g.R.Semiring.plus_of _ c.args.self.now c.self.view_is b.products _
          c.self.invariant.kept c.requires.0 c.requires.1 k c.requires.2.clique_is (table_of b k)
          (read_there b.tables (k - 1)) c.args.pair c.requires.2;
    }

pub invariant_of-self : goal.invariant_of-self
invariant_of-self g c =
    let inside = c.self.inside in let made = c.restrict in
    flow_called g.R.Semiring.plus_of inside.shape.value inside.summed.items inside.factors
    inside.computed inside.cells inside.board made.new.self c.args.self.now c.self.view_is
    c.self.invariant.kept c.requires.0 c.requires.1 c.args.clique c.requires.2.clique_is
    made.ensures.only made.ensures.made.scope inside.factors inside.gathered.items
    c.self.invariant.gathered_are

pub returns : goal.returns
returns g c =
    let inside = c.self.inside in let k = c.args.clique in
    let made = c.restrict in let only = made.ensures.only in let now = made.ensures.made in
    record {
      kept =
          messages_called g.R.Semiring.plus_of inside.shape.value inside.summed.items
          inside.factors inside.computed inside.cells inside.board made.new.self c.args.self.now
          c.self.view_is c.self.invariant.kept c.requires.0 c.requires.1 k c.requires.2.clique_is
          only now.scope inside.factors;
      places = λ p h.
          let fits = pair_fits_each g.R.Semiring.plus_of c.args.self.now c.requires.0 p
          c.requires.1 h k c.args.pair c.requires.2 in
          pair_called g.R.Semiring.plus_of inside.shape.value inside.summed.items inside.factors
          inside.computed inside.cells inside.board made.new.self c.args.self.now c.self.view_is
          c.self.invariant.kept p h k fits.clique_is only now.scope c.args.pair fits now.shift
          now.numbers now.touched;
    }
