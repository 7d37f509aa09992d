use Rattle.std.proofs.Common.{◌≡◌, ℕ, ◌-◌, ◌<◌, List, [], ◌∷◌, ◌++◌, set, take, sym, ap, subst, ◌∙◌, arith}
use Rattle.mk_plan.specs.Shapes.{AreNextTo}
use Rattle.mk_plan.proofs.Shaped.{next_at_first, next_earlier, way_of}
use Rattle.mk_plan.proofs.shape.next_from_earlier.Goals as goal
use Rattle.mk_plan.proofs.shape.next_from_earlier.Goals.{then-to-eq1+in_ok-push, else-to-eq1+in_ok-extend_from_slice}

pub returns : goal.returns
returns c =
    let tree = c.args.tree.now in let to = c.args.to in
    elim c.if-to-eq1.branch [
      | then-to-eq1+in_ok-push w ↦
          let items : c.if-to-eq1.next.items ≡ 1 ∷ [] = ap (λ v. v.items) w.next-is ∙ w.in_ok-push.ensures.items ∙ ap (λ (xs : List ℕ). xs ++ 1 ∷ []) c.in_ok-next.ensures.items in
          subst (AreNextTo tree to to) (sym items) (subst (λ k. AreNextTo tree k k (1 ∷ [])) (sym w.if-to-eq1.true) (next_at_first tree 1))
      | else-to-eq1+in_ok-extend_from_slice w ↦
          let up = w.link-above.ensures in let above = w.link-above.result in
          let later : 1 < to = omega (arith, up.earlier, up.clique.first) in
          let old = w.index-ways-above.result.items in
          let h = way_of (λ next. next.items) tree (to - 1) c.args.ways.now c.requires.ways above up.clique.first (omega (arith, up.earlier)) w.index-ways-above.result w.index-ways-above.is in
          let items : c.if-to-eq1.next.items ≡ set (take to old) (above - 1) to =
          ap (λ v. v.items) w.next-is
          ∙ ap (λ (xs : List ℕ). set xs (above - 1) to)
          (w.in_ok-extend_from_slice.ensures.items ∙ ap (λ (xs : List ℕ). xs ++ take to w.deref.result.now) c.in_ok-next.ensures.items ∙ ap (take to) w.deref.ensures.value) in
          subst (AreNextTo tree to to) (sym items) (next_earlier tree c.cliques.ensures.linked to above later c.requires.clique.last (sym up.link) up.clique.first up.earlier old h)
    ]
