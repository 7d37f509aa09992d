use Rattle.std.proofs.Common.{rules, ◌-◌, ◌⊎◌, Some}
use Rattle.mk_net.specs.Bounds.{million}
use Rattle.mk_exact.specs.Limits.{IsWithinRange}
use Rattle.mk_judge.specs.Limits.{CanBeTraded, IsIntervalNear}
use Rattle.mk_judge.proofs.Judging.{judges_both, judges_as, judges_of}
use Rattle.mk_judge.proofs.question.judge_between.Goals as goal

pub returns : goal.returns
returns c = λ of_hit of_miss hit_is miss_is.
    let low = c.args.low in
    let high = c.args.high in
    let range : IsWithinRange (Some (low, high)) = search rules in
    let P : Type 0 = CanBeTraded of_hit low high in
    let Q : Type 0 = CanBeTraded of_miss (million - high) (million - low) in
    let M : Type 0 = IsIntervalNear c.args.hit.now of_hit low high in
    let N : Type 0 = IsIntervalNear c.args.miss.now of_miss (million - high) (million - low) in
    let first = c.judge_tradable in
    let second = c.judge_tradable-2 in
    rw c.and.ensures
    (judges_as _ (P × Q) _ (M ⊎ N) _ (λ h. (range, h.0, h.1)) (λ h. (h.1, h.2)) (λ near. near)
    (judges_both first.result second.result P Q M N
    (judges_of first.result P M (λ e. first.ensures.allowed e of_hit hit_is)
    (λ e. first.ensures.wrong e of_hit hit_is) (λ e. first.ensures.unclear e of_hit hit_is))
    (judges_of second.result Q N (λ e. second.ensures.allowed e of_miss miss_is)
    (λ e. second.ensures.wrong e of_miss miss_is) (λ e. second.ensures.unclear e of_miss
    miss_is))))
