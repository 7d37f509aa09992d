use Rattle.std.proofs.Common.{ℕ, ◌+◌, ◌*◌, ◌^◌, ◌≤◌, arith, le_refl, subst}
use Rattle.mk_net.specs.Bounds.{sharpness}
use Rattle.mk_exact.proofs.Sharp.{at_sharp, sharp_enough}
use Rattle.mk_exact.specs.Factors.{Fraction}
use Rattle.mk_exact.specs.Existing.{IsSafeFactor}
use Rattle.mk_enclose.specs.declared.factor.Factor.{Factor}
use Rattle.mk_enclose.specs.Enclosure.{HasGrade}
use Rattle.mk_judge_points.specs.inner.Ends.{AreCashEnds}
use Rattle.mk_judge.specs.Judged.{Judges}
use Rattle.mk_judge.specs.Cash.{IsOwned}
use Rattle.mk_judge_points.specs.Cash.{ArePowersNear}
use Rattle.mk_judge_points.proofs.Cashing.{idle_scaled, idle_covers, covers_idle, ends_cover, cover_ends}
use Rattle.mk_judge_points.proofs.cash.judge_cash.Goals as goal

safe_of : (factor : Factor) (q : Fraction) → IsOwned factor q → IsSafeFactor q
safe_of factor q owned = record { divides = owned.held.stands.positive; at_least_one = owned.one }

below_exact : (most_trades : ℕ) → sharpness most_trades ≤ 2 ^ 59
below_exact = at_sharp (λ near. near ≤ 2 ^ 59) (omega arith) (omega arith)

-- the ends by a market's number
told_near : (c : goal.After-traded-else-small) (q : Fraction) → IsOwned c.args.factor.now q
    → Judges c.traded-else-small.result
    (AreCashEnds (sharpness c.args.most_trades) q c.args.points_per_bit c.args.low c.args.high)
    ((g : ℕ) → HasGrade c.args.factor.now.gain g
    → ArePowersNear (sharpness c.args.most_trades) q c.args.points_per_bit c.args.low c.args.high
    (c.args.points_per_bit * (g + 8)))
told_near c q owned =
    subst (λ (n : ℕ). Judges c.traded-else-small.result
    (AreCashEnds n q c.args.points_per_bit c.args.low c.args.high)
    ((g : ℕ) → HasGrade c.args.factor.now.gain g
    → ArePowersNear n q c.args.points_per_bit c.args.low c.args.high
    (c.args.points_per_bit * (g + 8))))
    c.near_bits.ensures.value (c.traded-else-small.ensures q owned)

pub returns-then-factor-eq0-clause-allowed : goal.returns-then-factor-eq0-clause-allowed
returns-then-factor-eq0-clause-allowed c e q owned =
    let told = rw e at c.idle.ensures in
    idle_covers q c.args.points_per_bit c.of.result.gained c.of.result.owed (safe_of c.args.factor.now q owned)
    (idle_scaled c.args.factor.now q c.args.points_per_bit c.of.result owned c.if-factor-eq0.true c.of.ensures.gained c.of.ensures.owed)
    _ _ (sharpness c.args.most_trades) c.args.low c.args.high (sharp_enough c.args.most_trades)
    (told.0) (told.1)

pub returns-then-factor-eq0-clause-wrong : goal.returns-then-factor-eq0-clause-wrong
returns-then-factor-eq0-clause-wrong c e q owned covers =
    let told = rw e at c.idle.ensures in
    told (covers_idle q c.args.points_per_bit c.of.result.gained c.of.result.owed (safe_of c.args.factor.now q owned)
    (idle_scaled c.args.factor.now q c.args.points_per_bit c.of.result owned c.if-factor-eq0.true c.of.ensures.gained c.of.ensures.owed)
    _ _ (sharpness c.args.most_trades) c.args.low c.args.high c.if-factor-eq0.true covers)

pub returns-then-small-clause-allowed : goal.returns-then-small-clause-allowed
returns-then-small-clause-allowed c e q owned =
    ends_cover q c.args.points_per_bit c.args.low c.args.high _ _ (sharpness c.args.most_trades)
    (2 ^ 59) (sharp_enough c.args.most_trades)
    (below_exact c.args.most_trades) (λ _. le_refl (2 ^ 59)) c.if-factor-eq0.false
    (safe_of c.args.factor.now q owned)
    (rw e at (c.traded.ensures q owned))

pub returns-then-small-clause-wrong : goal.returns-then-small-clause-wrong
returns-then-small-clause-wrong c e q owned covers =
    let told = rw e at (c.traded.ensures q owned) in
    told (cover_ends q c.args.points_per_bit c.args.low c.args.high _ _
    (sharpness c.args.most_trades) (2 ^ 59) (covers.nearer c.if-small.true) covers)

pub returns-then-small-clause-unclear : goal.returns-then-small-clause-unclear
returns-then-small-clause-unclear c e q owned = record {
  traded = c.if-factor-eq0.false;
  near = rw c.if-small.true (rw e at (c.traded.ensures q owned));
}

pub returns-else-small-clause-allowed : goal.returns-else-small-clause-allowed
returns-else-small-clause-allowed c e q owned =
    ends_cover q c.args.points_per_bit c.args.low c.args.high _ _ (sharpness c.args.most_trades)
    (sharpness c.args.most_trades)
    (sharp_enough c.args.most_trades) (le_refl (sharpness c.args.most_trades))
    (λ yes. absurd (let no = c.if-small.false in cc)) c.if-factor-eq0.false
    (safe_of c.args.factor.now q owned)
    (rw e at (told_near c q owned))

pub returns-else-small-clause-wrong : goal.returns-else-small-clause-wrong
returns-else-small-clause-wrong c e q owned covers =
    let told = rw e at (told_near c q owned) in
    told (cover_ends q c.args.points_per_bit c.args.low c.args.high _ _
    (sharpness c.args.most_trades) (sharpness c.args.most_trades) covers.near covers)

pub returns-else-small-clause-unclear : goal.returns-else-small-clause-unclear
returns-else-small-clause-unclear c e q owned = record {
  traded = c.if-factor-eq0.false;
  near = rw c.if-small.false (rw e at (told_near c q owned));
}
