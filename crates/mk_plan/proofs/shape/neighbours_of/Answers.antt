use Rattle.std.proofs.Common.{◌+◌, List, ◌∷◌, [], ◌++◌, ℕ, length, arith, sym, ap, ◌∙◌}
use Rattle.mk_sums.specs.Trees.{linked_to}
use Rattle.mk_tree.specs.Given.{link_of}
use Rattle.mk_plan.proofs.Shaped.{filter_in, filter_out}
use Rattle.mk_plan.proofs.shape.neighbours_of.Goals as goal
use Rattle.mk_plan.proofs.shape.neighbours_of.Goals.{then-are_linked+in_ok-push, else-are_linked}

pub loop-passed-preserved : goal.loop-passed-preserved
loop-passed-preserved c =
    let tree = c.args.tree.now in let passed = c.loop-passed.passed in let near = linked_to (link_of tree) (length tree.cliques) c.args.k in
    elim c.if-are_linked.branch [
      | then-are_linked+in_ok-push w ↦
          ap (λ v. v.items) w.list-is ∙ w.in_ok-push.ensures.items ∙ ap (λ (xs : List ℕ). xs ++ (passed + 1) ∷ []) c.loop-passed.invariant
          ∙ sym (filter_in near 1 passed (passed + 1) (omega arith) (sym c.are_linked.ensures ∙ w.if-are_linked.true))
      | else-are_linked w ↦
          ap (λ v. v.items) w.list-is ∙ c.loop-passed.invariant
          ∙ sym (filter_out near 1 passed (passed + 1) (omega arith) (sym c.are_linked.ensures ∙ w.if-are_linked.false))
    ]
