use Rattle.std.proofs.Common.{Some, None, false}
use Rattle.mk_exact.specs.Limits.{IsWanted}
use Rattle.mk_quote.specs.Bounds.{hit_side, miss_side}
use Rattle.mk_judge.specs.Units.{AreSideBounds}
use Rattle.mk_judge.specs.Wanted.{HasEnds, IsWantedNear}
use Rattle.mk_judge.proofs.Lying.{inside_judges, both_ends}
use Rattle.mk_judge.proofs.Righting.{IsBothWanted, none_judges, given_judges}
use Rattle.mk_judge.proofs.question.judge_large_limits.Goals as goal
use Rattle.mk_judge.proofs.question.judge_large_limits.Goals.{After-judge_inside-inside}

pub returns-in-None : goal.returns-in-None
returns-in-None c = λ hit miss sides.
    let bounds = c.args.bounds.now in
    let hit_is = c.hit_side_of-hit.ensures in
    let miss_is = c.miss_side_of-miss.ensures in
    let hits : HasEnds c.wanted_of.result (IsWanted hit) (IsWantedNear (hit_side bounds) hit) =
    rw hit_is at (c.wanted_of.ensures hit (rw hit_is sides.of_hit)) in
    let misses : HasEnds c.wanted_of-2.result (IsWanted miss)
    (IsWantedNear (miss_side bounds) miss) = rw miss_is at (c.wanted_of-2.ensures miss
    (rw miss_is sides.of_miss)) in
    let both = c.wanted_of_both in
    let ends =
    both_ends both.result c.wanted_of.result c.wanted_of-2.result (IsWanted hit) (IsWanted miss)
    (IsWantedNear (hit_side bounds) hit) (IsWantedNear (miss_side bounds) miss) hits misses
    both.ensures.outer_low both.ensures.inner_low both.ensures.inner_high both.ensures.outer_high in
    rw c.in-None.is
    (none_judges bounds hit miss c.judge_inside-inside.result
    (inside_judges c.judge_inside-inside.result both.result None (IsBothWanted hit miss) _ ends
    (rw c.in-None.is at c.judge_inside-inside.ensures)))

pub returns-in-Some : goal.returns-in-Some
returns-in-Some c = λ hit miss sides.
    let bounds = c.args.bounds.now in
    let low = c.in-Some.low in
    let high = c.in-Some.high in
    let hit_is = c.hit_side_of-hit.ensures in
    let miss_is = c.miss_side_of-miss.ensures in
    let hit_bounds : AreSideBounds c.hit_side_of-hit.result false hit = rw hit_is sides.of_hit in
    let miss_bounds : AreSideBounds c.miss_side_of-miss.result false miss = rw miss_is sides.of_miss
    in
    let hits : HasEnds c.wanted_of.result (IsWanted hit) (IsWantedNear (hit_side bounds) hit) =
    rw hit_is at (c.wanted_of.ensures hit hit_bounds) in
    let misses : HasEnds c.wanted_of-2.result (IsWanted miss)
    (IsWantedNear (miss_side bounds) miss) = rw miss_is at
    (c.wanted_of-2.ensures miss miss_bounds) in
    let both = c.wanted_of_both in
    let ends =
    both_ends both.result c.wanted_of.result c.wanted_of-2.result (IsWanted hit) (IsWanted miss)
    (IsWantedNear (hit_side bounds) hit) (IsWantedNear (miss_side bounds) miss) hits misses
    both.ensures.outer_low both.ensures.inner_low both.ensures.inner_high both.ensures.outer_high in
    rw (c.and.ensures, c.in-Some.is)
    (given_judges bounds hit miss low high c.judge_between.result c.judge_inside-inside.result
    (rw (hit_is, miss_is) at (c.judge_between.ensures hit miss hit_bounds miss_bounds))
    (inside_judges c.judge_inside-inside.result both.result (Some (low, high))
    (IsBothWanted hit miss) _ ends (rw c.in-Some.is at c.judge_inside-inside.ensures)))
