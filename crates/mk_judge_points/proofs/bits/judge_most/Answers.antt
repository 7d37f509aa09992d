use Rattle.std.proofs.Common.{◌≡◌, ℕ, ◌+◌, ◌-◌, ◌*◌, ◌^◌, ◌<◌, ◌≤◌, ◌⊎◌, inl, inr, arith, le_refl}
use Rattle.std.proofs.Common.{subst}
use Rattle.std.proofs.lemmas.Nat.{pow-add}
use Rattle.mk_net.specs.Bounds.{sharpness}
use Rattle.mk_exact.specs.Factors.{Fraction}
use Rattle.mk_exact.proofs.Sharp.{sharp_enough}
use Rattle.mk_enclose.specs.Enclosure.{HasGrade}
use Rattle.mk_judge.specs.Compared.{AreNear}
use Rattle.mk_judge.specs.Judged.{Judges}
use Rattle.mk_judge.specs.Cash.{IsOwned}
use Rattle.mk_judge.proofs.Beside.{one_beside}
use Rattle.mk_judge_points.proofs.Cashing.{idle_beside, whole_most, gain_less_in_range}
use Rattle.mk_judge_points.proofs.Cashing.{part_below}
use Rattle.mk_judge_points.proofs.bits.judge_most.Goals as goal

pub nearly-requires-clause-range : goal.nearly-requires-clause-range
nearly-requires-clause-range c =
    let r = c.requires.range in
    gain_less_in_range _ r.bits 1 _ r.gain (le_refl 1) r.above _
    (part_below (c.near_bits.result + 1)
    (let few = c.near_bits.ensures.few in omega (arith, few)))

twice : (bits near : ℕ) → 2 ^ bits ≡ near → 2 ^ (bits + 1) ≡ 2 * near
twice bits near same =
    let e : 2 ^ (bits + 1) ≡ 2 ^ bits * 2 ^ 1 = pow-add 2 bits 1 in omega (arith, e, same)

-- the bits by a market's number
told_nearly : (c : goal.After-nearly) (q : Fraction) → IsOwned c.args.factor.now q
    → Judges c.nearly.result
    ((2 ^ c.args.most * q.den ≤ q.num) × (q.num * (2 * sharpness c.args.most_trades - 1)
    < 2 ^ (c.args.most + 1) * (2 * sharpness c.args.most_trades) * q.den))
    ((h : ℕ) → HasGrade c.args.factor.now.gain h → AreNear (2 ^ c.args.most * q.den) q.num (h + 1)
    ⊎ AreNear (2 ^ (c.args.most + 1) * (2 * sharpness c.args.most_trades) * q.den)
    (q.num * (2 * sharpness c.args.most_trades - 1)) (h + 1))
told_nearly c q owned =
    subst (λ (n : ℕ). Judges c.nearly.result
    ((2 ^ c.args.most * q.den ≤ q.num) × (q.num * (n - 1) < 2 ^ (c.args.most + 1) * n * q.den))
    ((h : ℕ) → HasGrade c.args.factor.now.gain h → AreNear (2 ^ c.args.most * q.den) q.num (h + 1)
    ⊎ AreNear (2 ^ (c.args.most + 1) * n * q.den) (q.num * (n - 1)) (h + 1)))
    (twice c.near_bits.result (sharpness c.args.most_trades) c.near_bits.ensures.value)
    (c.nearly.ensures owned.held.stands.gain q.num q.den owned.held.stands.encloses
    (one_beside c.args.factor.now q c.of-scale.result owned.held.stands
    c.of-scale.ensures.gained c.of-scale.ensures.owed))

pub returns-then-factor-eq0-clause-allowed : goal.returns-then-factor-eq0-clause-allowed
returns-then-factor-eq0-clause-allowed c e q owned exact =
    let told = rw e at (c.whole.ensures 1 q.num q.den c.exact.ensures.encloses c.exact.ensures.exact (idle_beside c.args.factor.now q c.of-scale.result owned c.if-factor-eq0.true c.of-scale.ensures.gained c.of-scale.ensures.owed)) in
    whole_most _ _ (sharpness c.args.most_trades) q c.args.most (sharp_enough c.args.most_trades)
    (told.0) (told.1)

pub returns-then-factor-eq0-clause-wrong : goal.returns-then-factor-eq0-clause-wrong
returns-then-factor-eq0-clause-wrong c e q owned exact is =
    let told = rw e at (c.whole.ensures 1 q.num q.den c.exact.ensures.encloses c.exact.ensures.exact (idle_beside c.args.factor.now q c.of-scale.result owned c.if-factor-eq0.true c.of-scale.ensures.gained c.of-scale.ensures.owed)) in
    told (is.within, is.exactly (inr c.if-factor-eq0.true))

pub returns-then-factor-eq0-clause-unclear : goal.returns-then-factor-eq0-clause-unclear
returns-then-factor-eq0-clause-unclear c e q owned exact =
    absurd (rw e at (c.whole.ensures 1 q.num q.den c.exact.ensures.encloses c.exact.ensures.exact (idle_beside c.args.factor.now q c.of-scale.result owned c.if-factor-eq0.true c.of-scale.ensures.gained c.of-scale.ensures.owed)))

pub returns-then-small-clause-allowed : goal.returns-then-small-clause-allowed
returns-then-small-clause-allowed c e q owned exact =
    let told = rw e at (c.whole-then-small.ensures owned.held.stands.gain q.num q.den owned.held.stands.encloses (exact c.if-small.true) (one_beside c.args.factor.now q c.of-scale.result owned.held.stands c.of-scale.ensures.gained c.of-scale.ensures.owed)) in
    whole_most _ _ (sharpness c.args.most_trades) q c.args.most (sharp_enough c.args.most_trades)
    (told.0) (told.1)

pub returns-then-small-clause-wrong : goal.returns-then-small-clause-wrong
returns-then-small-clause-wrong c e q owned exact is =
    let told = rw e at (c.whole-then-small.ensures owned.held.stands.gain q.num q.den owned.held.stands.encloses (exact c.if-small.true) (one_beside c.args.factor.now q c.of-scale.result owned.held.stands c.of-scale.ensures.gained c.of-scale.ensures.owed)) in
    told (is.within, is.exactly (inl c.if-small.true))

pub returns-then-small-clause-unclear : goal.returns-then-small-clause-unclear
returns-then-small-clause-unclear c e q owned exact =
    absurd (rw e at (c.whole-then-small.ensures owned.held.stands.gain q.num q.den owned.held.stands.encloses (exact c.if-small.true) (one_beside c.args.factor.now q c.of-scale.result owned.held.stands c.of-scale.ensures.gained c.of-scale.ensures.owed)))

pub returns-else-small-clause-allowed : goal.returns-else-small-clause-allowed
returns-else-small-clause-allowed c e q owned exact =
    let told = rw e at (told_nearly c q owned) in
    record {
      within = told.0;
      nearly = told.1;
      exactly = λ either. elim either [ inl said ↦ absurd (let no = c.if-small.false in cc) | inr none ↦ absurd (c.if-factor-eq0.false none) ];
    }

pub returns-else-small-clause-wrong : goal.returns-else-small-clause-wrong
returns-else-small-clause-wrong c e q owned exact is =
    let told = rw e at (told_nearly c q owned) in
    told (is.within, is.nearly)

pub returns-else-small-clause-unclear : goal.returns-else-small-clause-unclear
returns-else-small-clause-unclear c e q owned exact = record {
  traded = c.if-factor-eq0.false;
  large = c.if-small.false;
  near = rw e at (told_nearly c q owned);
}
