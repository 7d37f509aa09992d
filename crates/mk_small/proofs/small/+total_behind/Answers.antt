use Rattle.std.proofs.Common.{ℕ, ◌+◌, ◌<◌, List, ◌∷◌, [], ◌++◌, length, take, drop, ap, ◌∙◌, arith}
use Rattle.std.proofs.lemmas.List.{take_more_set}
use Rattle.mk_net.specs.Network.{sizes}
use Rattle.mk_exact.specs.Weight.{weight}
use Rattle.mk_states.proofs.Listed.{as_many}
use Rattle.mk_walk.specs.Walked.{capped}
use Rattle.mk_small.specs.Walks.{behind}
use Rattle.mk_small.proofs.Walk.{more_behind, all_behind}
use Rattle.mk_small.proofs.small.+total_behind.Goals as goal

pub loop-value-preserved : goal.loop-value-preserved
loop-value-preserved t c =
    let within : c.args.done < length c.args.front = omega arith in
    more_behind (λ v. behind (weight c.args.net.now c.args.history.now.history)
    (drop (c.args.done + 1) (sizes c.args.net.now)) (take c.args.done c.args.front ++ v ∷ []))
    c.loop-value.value c.loop-value.sum c.total_behind.result c.saturating_add-sum.result
    c.loop-value.invariant
    (c.total_behind.ensures ∙ ap (λ (front : List ℕ). capped
    (behind (weight c.args.net.now c.args.history.now.history)
    (drop (c.args.done + 1) (sizes c.args.net.now)) front))
    (take_more_set c.args.front c.args.done c.loop-value.value within))
    c.saturating_add-sum.ensures

pub returns : goal.returns
returns t c = all_behind (weight c.args.net.now c.args.history.now.history) (sizes c.args.net.now)
    (take c.args.done c.args.front) c.args.done c.loop-value.value c.loop-value.sum
    (omega (arith, as_many c.args.net.now, c.if-done-variables.false, c.variables.ensures.count))
    (omega (
      arith,
      c.loop-value-test.false,
      c.loop-value.auto.value-end,
      c.values-value-end.ensures,
    )) c.loop-value.invariant
