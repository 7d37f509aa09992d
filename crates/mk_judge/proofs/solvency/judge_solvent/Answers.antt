use Rattle.std.proofs.Common.{ℕ, ◌*◌, ◌≤◌}
use Rattle.mk_states.specs.Ratios.{unit}
use Rattle.mk_enclose.specs.Enclosure.{HasGrade, IsExact}
use Rattle.mk_judge.specs.Compared.{AreNear}
use Rattle.mk_judge.specs.Units.{IsSolvencyNear}
use Rattle.mk_judge.proofs.Judging.{judges_at_most, judges_as}
use Rattle.mk_judge.proofs.Solving.{held_beside, idle_held}
use Rattle.mk_judge.proofs.solvency.judge_solvent.Goals as goal

pub returns-then-factor-eq0 : goal.returns-then-factor-eq0
returns-then-factor-eq0 c = λ q held.
    let scale = c.of_trade-scale in
    rw c.at_most.ensures
    (judges_as _ (unit * q.den ≤ c.args.units * q.num) _ ((IsExact c.exact.result → ⊥) × ((h : ℕ) → HasGrade c.exact.result h → AreNear (unit * q.den) (c.args.units * q.num) h)) _
    (λ h. h) (λ h. h) (λ known. absurd (known.0 c.exact.ensures.exact))
    (judges_at_most c.compare_solvent.result _ _ _ (c.compare_solvent.ensures 1 q.num q.den c.exact.ensures.encloses
    (idle_held c.args.factor.now q scale.result held c.if-factor-eq0.true scale.ensures.gained scale.ensures.owed))))

pub returns-else-factor-eq0 : goal.returns-else-factor-eq0
returns-else-factor-eq0 c = λ q held.
    let scale = c.of_trade-scale in
    let gain = c.args.factor.now.gain in
    let known_near : (IsExact gain → ⊥) × ((h : ℕ) → HasGrade gain h → AreNear (unit * q.den) (c.args.units * q.num) h) → IsSolvencyNear c.args.factor.now q c.args.units =
    (λ known. record { traded = c.if-factor-eq0.false; rounded = known.0; near = known.1 }) in
    rw c.at_most-else-factor-eq0.ensures
    (judges_as _ (unit * q.den ≤ c.args.units * q.num) _ _ _ (λ h. h) (λ h. h) known_near
    (judges_at_most c.compare_solvent-else-factor-eq0.result _ _ _ (c.compare_solvent-else-factor-eq0.ensures held.stands.gain q.num q.den held.stands.encloses
    (held_beside c.args.factor.now q scale.result held.stands scale.ensures.gained scale.ensures.owed))))
