use Rattle.std.proofs.Common.{◌+◌, ◌*◌, ◌^◌, ◌<◌, ◌≤◌}
use Rattle.mk_judge.specs.Compared.{LeavesOpen}
use Rattle.mk_judge_points.proofs.Covered.{covered_says, past_says, judges_pair}
use Rattle.mk_judge_points.proofs.bits.whole.Goals as goal

pub returns : goal.returns
returns c = λ g z w holds exact beside.
    let one = c.exact-one in
    rw (c.and.ensures, c.at_most-within.ensures, c.above-greatest.ensures)
    (judges_pair _ _ (2 ^ c.args.most * w ≤ z) (z < 2 ^ (c.args.most + 1) * w) ⊥
    (covered_says c.compare_worth.result c.args.most w z _ ⊥ (λ (left : LeavesOpen one.result c.args.gain.now _ _). left.rounded one.ensures.exact exact)
    (c.compare_worth.ensures 1 g z w one.ensures.encloses holds beside))
    (past_says c.compare_worth-2.result (c.args.most + 1) w z _ ⊥ (λ (left : LeavesOpen one.result c.args.gain.now _ _). left.rounded one.ensures.exact exact)
    (c.compare_worth-2.ensures 1 g z w one.ensures.encloses holds beside)))
