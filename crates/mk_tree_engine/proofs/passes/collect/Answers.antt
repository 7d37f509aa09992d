use Rattle.std.proofs.Common.{not, eqb, sym, subst}
use Rattle.mk_propagate.specs.Flows.{FlowOf}
use Rattle.mk_tree_engine.specs.declared.marks.Marks.{Marks}
use Rattle.mk_tree_engine.specs.inner.Marks.{marked}
use Rattle.mk_tree_engine.specs.inner.Passes.{AreCollected}
use Rattle.mk_tree_engine.proofs.passes.collect.Goals as goal
use Rattle.mk_tree_engine.proofs.passes.collect.Goals.{in-Some, in-None}

pub returns-clause-made : goal.returns-clause-made
returns-clause-made g c =
    let plus = g.R.Semiring.plus_of in let clique = c.args.clique in
    let old = marked c.args.flow.now c.args.marks.now.up.items c.args.marks.now.down.items in
    elim c.match-marks.branch [
      | in-Some w ↦
          subst (λ (m : Marks). AreCollected plus clique (λ k. not (eqb k clique)) old (marked c.match-marks.flow m.up.items m.down.items)) (sym w.marks-is)
          (subst (λ (f : FlowOf). AreCollected plus clique (λ k. not (eqb k clique)) old (marked f w.collect_from.new.marks.up.items w.collect_from.new.marks.down.items)) (sym w.flow-is) w.collect_from.ensures)
      | in-None w ↦
          subst (λ (m : Marks). AreCollected plus clique (λ k. not (eqb k clique)) old (marked c.match-marks.flow m.up.items m.down.items)) (sym w.marks-is)
          (subst (λ (f : FlowOf). AreCollected plus clique (λ k. not (eqb k clique)) old (marked f w.collect_all.new.marks.up.items w.collect_all.new.marks.down.items)) (sym w.flow-is) w.collect_all.ensures)
    ]
