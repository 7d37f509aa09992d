use Rattle.std.proofs.Common.{◌≡◌, ◌*◌, ◌^◌, arith}
use Rattle.std.proofs.Math.Nat.{pow-zero}
use Rattle.mk_exact.specs.Factors.{Fraction}
use Rattle.mk_exact.specs.Accepted.{Covers}
use Rattle.mk_judge.specs.Compared.{LeavesOpen}
use Rattle.mk_judge.specs.Judged.{Judges}
use Rattle.mk_judge.specs.Cash.{IsOwned}
use Rattle.mk_judge_points.specs.Cash.{IsBitsNear}
use Rattle.mk_judge_points.proofs.Covered.{covered_says}
use Rattle.mk_judge.proofs.Beside.{one_beside}
use Rattle.mk_judge_points.proofs.Cashing.{idle_beside, opened}
use Rattle.mk_judge_points.proofs.bits.judge_covered.Goals as goal

idle_told : (c : goal.After-at_most) (q : Fraction) → IsOwned c.args.factor.now q → Judges c.at_most.result (Covers q c.args.bits) ⊥
idle_told c q owned =
    let one = c.exact-one in
    rw c.at_most.ensures (covered_says c.compare_worth.result c.args.bits q.den q.num _ ⊥ (λ (left : LeavesOpen one.result one.result _ _). left.rounded one.ensures.exact one.ensures.exact)
    (c.compare_worth.ensures 1 1 q.num q.den one.ensures.encloses one.ensures.encloses
    (idle_beside c.args.factor.now q c.of-scale.result owned c.if-factor-eq0.true c.of-scale.ensures.gained c.of-scale.ensures.owed)))

traded_told : (c : goal.After-at_most-else-factor-eq0) (q : Fraction) → IsOwned c.args.factor.now q → Judges c.at_most-else-factor-eq0.result (Covers q c.args.bits) (IsBitsNear c.args.factor.now q c.args.bits)
traded_told c q owned =
    let one = c.exact-one in
    let gain = c.args.factor.now.gain in
    let nothing : 2 ^ 0 ≡ 1 = pow-zero 2 in
    rw c.at_most-else-factor-eq0.ensures (covered_says c.compare_worth-else-factor-eq0.result c.args.bits q.den q.num _ _
    (λ (left : LeavesOpen one.result gain (1 * 2 ^ c.args.bits * q.den) (q.num * 2 ^ 0)). record {
      traded = c.if-factor-eq0.false;
      rounded = λ exact. left.rounded one.ensures.exact exact;
      near = λ g graded. opened one.result gain _ _ _ _ 0 g g (omega arith) (rw nothing (omega arith)) one.ensures.grade graded (omega arith) left;
    })
    (c.compare_worth-else-factor-eq0.ensures 1 owned.held.stands.gain q.num q.den one.ensures.encloses owned.held.stands.encloses
    (one_beside c.args.factor.now q c.of-scale.result owned.held.stands c.of-scale.ensures.gained c.of-scale.ensures.owed)))

pub returns-then-factor-eq0-clause-allowed : goal.returns-then-factor-eq0-clause-allowed
returns-then-factor-eq0-clause-allowed c e q owned = rw e at (idle_told c q owned)

pub returns-then-factor-eq0-clause-wrong : goal.returns-then-factor-eq0-clause-wrong
returns-then-factor-eq0-clause-wrong c e q owned = rw e at (idle_told c q owned)

pub returns-then-factor-eq0-clause-unclear : goal.returns-then-factor-eq0-clause-unclear
returns-then-factor-eq0-clause-unclear c e q owned = absurd (rw e at (idle_told c q owned))

pub returns-else-factor-eq0-clause-allowed : goal.returns-else-factor-eq0-clause-allowed
returns-else-factor-eq0-clause-allowed c e q owned = rw e at (traded_told c q owned)

pub returns-else-factor-eq0-clause-wrong : goal.returns-else-factor-eq0-clause-wrong
returns-else-factor-eq0-clause-wrong c e q owned = rw e at (traded_told c q owned)

pub returns-else-factor-eq0-clause-unclear : goal.returns-else-factor-eq0-clause-unclear
returns-else-factor-eq0-clause-unclear c e q owned = rw e at (traded_told c q owned)
