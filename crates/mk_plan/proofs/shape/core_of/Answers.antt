use Rattle.std.proofs.Common.{◌≡◌, ℕ, ◌<◌, ◌&&◌, ◌||◌, List, length, take, get_or, sym, ap, subst, ◌∙◌, arith}
use Rattle.std.proofs.Math.Seq.{take-length}
use Rattle.std.specs.List.{list_any}
use Rattle.mk_sets.specs.Sets.{VarSet, is_member}
use Rattle.mk_tree.specs.Given.{GivenTree, holds}
use Rattle.mk_plan.specs.Shapes.{neighbours}
use Rattle.mk_plan.proofs.Cores.{around_more, listed_is}
use Rattle.mk_plan.proofs.shape.core_of.Goals as goal

-- the place of a neighbour in the list
within : (tree : GivenTree) (k j : ℕ) (items : List ℕ) → items ≡ neighbours tree k → j < length items → j < length (neighbours tree k)
within tree k j items e l = subst (λ (xs : List ℕ). j < length xs) e l

pub clique-requires-clause-first : goal.clique-requires-clause-first
clique-requires-clause-first c = (listed_is c.args.tree.now c.cliques.ensures.linked c.args.k _ _ c.requires.linked c.loop-neighbour-test.true).first

pub clique-requires-clause-last : goal.clique-requires-clause-last
clique-requires-clause-last c = (listed_is c.args.tree.now c.cliques.ensures.linked c.args.k _ _ c.requires.linked c.loop-neighbour-test.true).last

pub loop-neighbour-init : goal.loop-neighbour-init
loop-neighbour-init c = c.empty-around.ensures.members

pub loop-neighbour-preserved : goal.loop-neighbour-preserved
loop-neighbour-preserved c = λ x.
    let tree = c.args.tree.now in let j = c.loop-neighbour.neighbour-index in
    c.union-around.ensures x
    ∙ ap (λ b. b || is_member c.clique.result x) (c.loop-neighbour.invariant x)
    ∙ ap (λ (s : VarSet). list_any (λ i. holds tree i x) (take j (neighbours tree c.args.k)) || is_member s x) c.clique.ensures
    ∙ ap (λ (xs : List ℕ). list_any (λ i. holds tree i x) (take j (neighbours tree c.args.k)) || holds tree (get_or xs j 0) x) c.requires.linked
    ∙ sym (around_more tree (neighbours tree c.args.k) j x (within tree c.args.k j c.args.linked.now c.requires.linked c.loop-neighbour-test.true))

pub returns : goal.returns
returns c = λ x.
    let tree = c.args.tree.now in let j = c.loop-neighbour.neighbour-index in
    let long : j ≡ length (neighbours tree c.args.k) =
    let e = ap (λ (xs : List ℕ). length xs) c.requires.linked in omega (arith, e, c.loop-neighbour-test.false, c.loop-neighbour.auto.neighbour-index-end) in
    c.common.ensures x
    ∙ ap (λ (s : VarSet). is_member s x && is_member c.loop-neighbour.around x) c.clique-2.ensures
    ∙ ap (λ b. holds tree c.args.k x && b) (c.loop-neighbour.invariant x)
    ∙ ap (λ (xs : List ℕ). holds tree c.args.k x && list_any (λ i. holds tree i x) xs) (ap (λ n. take n (neighbours tree c.args.k)) long ∙ take-length (neighbours tree c.args.k))
