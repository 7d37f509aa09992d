use Rattle.std.proofs.Common.{sym, subst}
use Rattle.mk_plan.specs.Shapes.{ShapeOf}
use Rattle.mk_tree_engine.specs.inner.Marks.{marked}
use Rattle.mk_tree_engine.specs.inner.Passes.{AreCollected, passed_up}
use Rattle.mk_tree_engine.proofs.Steps.{both_passed}
use Rattle.mk_tree_engine.proofs.passes.collect_all.Goals as goal

pub collect_down-requires : goal.collect_down-requires
collect_down-requires g c =
    let plus = g.R.Semiring.plus_of in let clique = c.args.clique in
    let old = marked c.args.flow.now c.args.marks.now.up.items c.args.marks.now.down.items in
    let first = marked c.collect_up.new.flow c.collect_up.new.marks.up.items c.collect_up.new.marks.down.items in
    record {
      old = old;
      could = c.requires;
      collected = subst (λ (s : ShapeOf). AreCollected plus clique (passed_up s.tree clique 0) old first) (sym c.collect_up.ensures.kept.same_shape) c.collect_up.ensures;
    }

pub returns : goal.returns
returns g c =
    let plus = g.R.Semiring.plus_of in let clique = c.args.clique in
    let old = marked c.args.flow.now c.args.marks.now.up.items c.args.marks.now.down.items in
    let first = marked c.collect_up.new.flow c.collect_up.new.marks.up.items c.collect_up.new.marks.down.items in
    let new = marked c.collect_down.new.flow c.collect_down.new.marks.up.items c.collect_down.new.marks.down.items in
    let upward = subst (λ (s : ShapeOf). AreCollected plus clique (passed_up s.tree clique 0) old first) (sym c.collect_up.ensures.kept.same_shape) c.collect_up.ensures in
    both_passed plus clique old new c.requires c.collect_up.new.flow.shape c.collect_up.ensures.kept.same_shape (c.collect_down.ensures old c.requires upward)
