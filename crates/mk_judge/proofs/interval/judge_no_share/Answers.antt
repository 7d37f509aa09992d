use Rattle.std.proofs.Common.{None}
use Rattle.mk_exact.specs.Limits.{IsWanted}
use Rattle.mk_judge.specs.Wanted.{IsWantedNear, LieInside}
use Rattle.mk_judge.proofs.Lying.{inside_judges}
use Rattle.mk_judge.proofs.Righting.{not_small}
use Rattle.mk_judge.proofs.Spacing.{wanted_within}
use Rattle.mk_judge.proofs.interval.judge_no_share.Goals as goal

pub returns-else-small-clause-allowed : goal.returns-else-small-clause-allowed
returns-else-small-clause-allowed c e side is =
    let bounds = c.args.bounds.now in
    let lie : LieInside (IsWanted side) None =
    rw e at (inside_judges c.judge_inside.result c.wanted_of.result None (IsWanted side)
    (IsWantedNear bounds side) (c.wanted_of.ensures side (rw c.if-small.false at is))
    c.judge_inside.ensures) in
    (lie, λ said. absurd (not_small c.args.small c.if-small.false said))

pub returns-else-small-clause-some_wanted : goal.returns-else-small-clause-some_wanted
returns-else-small-clause-some_wanted c e side is large =
    wanted_within c.wanted_of.result side (IsWantedNear c.args.bounds.now side)
    (c.wanted_of.ensures side (rw c.if-small.false at is)) (rw e at c.judge_inside.ensures)
