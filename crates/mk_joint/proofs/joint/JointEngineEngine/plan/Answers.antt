use Rattle.std.proofs.Common.{arith, ap, ◌∙◌, [], ◌∷◌}
use Rattle.mk_scope.specs.Scopes.{ScopeOf, cells_in}
use Rattle.mk_joint.proofs.Cells.{scope_of_all, states_counted}
use Rattle.mk_joint.proofs.joint.JointEngineEngine.plan.Goals as goal

pub of-requires-clause-few_cells : goal.of-requires-clause-few_cells
of-requires-clause-few_cells g c =
    let net = c.args.net.now in let all = c.all_variables-all in
    let few = c.requires in
    let e = ap cells_in (scope_of_all net all.result all.ensures.all) in
    omega (arith, e, states_counted net, few)

pub returns : goal.returns
returns g c =
    let net = c.args.net.now in let all = c.all_variables-all in
    let whole = c.in_ok-new.ensures.ok ∙ c.in_ok-scope.ensures ∙ scope_of_all net all.result all.ensures.all in
    record {
      scope =
          c.in_ok-new-2.ensures.ok ∙ c.of-2.ensures
          ∙ rw c.in_ok-scopes.ensures.items (ap (λ (s : ScopeOf). s ∷ []) whole);
      legal = all.ensures.network;
      few_states = c.requires;
    }
