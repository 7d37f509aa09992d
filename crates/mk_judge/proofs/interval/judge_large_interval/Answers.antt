use Rattle.std.proofs.Common.{rules, ◌⊎◌, Some}
use Rattle.mk_exact.specs.Limits.{IsWanted, IsWithinRange}
use Rattle.mk_judge.specs.Limits.{CanBeTraded, IsIntervalNear}
use Rattle.mk_judge.specs.Wanted.{IsWantedNear, LieInside}
use Rattle.mk_judge.proofs.Judging.{judges_both, judges_as, judges_of}
use Rattle.mk_judge.proofs.Spacing.{interval_right, interval_traded}
use Rattle.mk_judge.proofs.interval.judge_large_interval.Goals as goal

pub returns : goal.returns
returns c = λ side is.
    let bounds = c.args.bounds.now in
    let low = c.args.low in
    let high = c.args.high in
    let range : IsWithinRange (Some (low, high)) = search rules in
    let P : Type 0 = CanBeTraded side low high in
    let Q : Type 0 = LieInside (IsWanted side) (Some (low, high)) in
    let M : Type 0 = IsIntervalNear bounds side low high in
    let N : Type 0 = IsWantedNear bounds side in
    let trade = c.judge_tradable in
    let lie = c.judge_wanted in
    rw c.and.ensures
    (judges_as _ (P × Q) _ (M ⊎ N) _ (λ h. interval_right side low high range (h.0) (h.1))
    (λ right. (interval_traded side low high right, right.near_complete)) (λ near. near)
    (judges_both trade.result lie.result P Q M N
    (judges_of trade.result P M (λ e. trade.ensures.allowed e side is)
    (λ e. trade.ensures.wrong e side is) (λ e. trade.ensures.unclear e side is))
    (judges_of lie.result Q N (λ e. lie.ensures.allowed e side is)
    (λ e. lie.ensures.wrong e side is) (λ e. lie.ensures.unclear e side is))))
