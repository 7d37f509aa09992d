use Rattle.std.proofs.Common.{ℕ, List, ◌∷◌, ◌++◌, map, ap, ◌∙◌}
use Rattle.mk_walk.specs.Lists.{lists}
use Rattle.mk_walk.proofs.Listed.{more_values}
use Rattle.mk_walk.proofs.states.with_variable.Goals as goal

pub loop-value-preserved : goal.loop-value-preserved
loop-value-preserved c = c.in_ok-add_value.ensures ∙ ap (λ (ls : List (List ℕ)). ls ++ map (λ s. c.loop-value.value ∷ s) (lists c.args.states.now)) c.loop-value.invariant
    ∙ more_values (λ v. map (λ s. v ∷ s) (lists c.args.states.now)) c.loop-value.value
