use Rattle.std.proofs.Common.{◌≡◌, ℕ, ◌<◌, ◌≤◌, List, [], ◌∷◌, All, true, length, arith, ap, subst}
use Rattle.std.proofs.lemmas.List.Elements.{All-from_recursion, All-head}
use Rattle.mk_sets.specs.Sets.{VarSet, is_member}
use Rattle.mk_tree.specs.Given.{GivenTree}
use Rattle.mk_tree.specs.Tests.{cells_of}
use Rattle.mk_joint.proofs.Walked.{cells_of_all}
use Rattle.mk_engine_trials.proofs.both.expect_few_states.Goals as goal

pub from_cliques-requires-clause-of_network : goal.from_cliques-requires-clause-of_network
from_cliques-requires-clause-of_network c =
    All-from_recursion (λ (set : VarSet). (x : ℕ) → is_member set x ≡ true → x < length c.args.net.now) (c.all_variables-all.result ∷ []) (c.all_variables-all.ensures.no_other, tt)

pub returns : goal.returns
returns c =
    let net = c.args.net.now in let all = c.all_variables-all in
    let cliques = ap (λ (t : GivenTree). t.cliques) c.in_ok-_tree.ensures.same in
    let few : cells_of net all.result ≤ 4096 =
    All-head (λ (set : VarSet). cells_of net set ≤ 4096) all.result []
    (subst (λ (sets : List VarSet). All (λ (set : VarSet). cells_of net set ≤ 4096) sets) cliques c.in_ok-_tree.ensures.tree.small_cliques) in
    omega (arith, few, cells_of_all net all.result all.ensures.all)
