use Rattle.std.proofs.Common.{ℕ, ◌^◌, ◌≤◌}
use Rattle.mk_enclose.specs.Enclosure.{Encloses}
use Rattle.mk_net.specs.Bounds.{million}
use Rattle.mk_exact.specs.Risk.{CoversBound}
use Rattle.mk_judge.specs.Judged.{Judges}
use Rattle.mk_judge_points.specs.Losses.{IsBoundNear}
use Rattle.mk_judge_points.proofs.Losing.{bound_judged}
use Rattle.mk_judge_points.proofs.loss.judge_bound.Goals as goal

told : (c : goal.After-compare_ends) (m : ℕ) → Encloses c.args.least.now m
    → m ≤ million ^ c.args.variables
    → Judges c.compare_ends.result
    (CoversBound (million ^ c.args.variables) m c.args.points_per_bit c.args.low c.args.high)
    (IsBoundNear c.args.least.now c.args.variables m c.args.points_per_bit c.args.low c.args.high)
told c m holds part =
    bound_judged c.compare_ends.result c.args.least.now c.total_of-total.result _ m _ _ _
    c.parts_of.result c.parts_of.ensures.near holds part c.total_of-total.ensures.grade
    (c.compare_ends.ensures m _ holds c.total_of-total.ensures.encloses)

pub returns-clause-allowed : goal.returns-clause-allowed
returns-clause-allowed c e m holds part = rw e at (told c m holds part)

pub returns-clause-wrong : goal.returns-clause-wrong
returns-clause-wrong c e m holds part = rw e at (told c m holds part)

pub returns-clause-unclear : goal.returns-clause-unclear
returns-clause-unclear c e m holds part = rw e at (told c m holds part)
