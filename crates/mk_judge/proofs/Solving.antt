-- The least units that leave a factor at least one.
use Rattle.std.proofs.Common.{◌≡◌, ℕ, zero, suc, ◌+◌, ◌-◌, ◌*◌, ◌^◌, ◌<◌, ◌≤◌, Option, Some, None, MatchOption, sym, ap, ◌∙◌, inl, inr, arith, le_refl, lt_of_le_of_lt}
use Rattle.std.specs.Int.{div_ceil}
use Rattle.std.specs.Option.{SomeIff}
use Rattle.std.proofs.lemmas.Bool.{cases_lt}
use Rattle.std.proofs.lemmas.Grind.{div_ceil_times}
use Rattle.std.proofs.lemmas.Nat.{pow-add, pow_pos}
use Rattle.std.proofs.Math.Nat.{mul-le-mul_left, mul-le-mul_right, mul-lt-mul_of_pos_right, le_of_mul-le-mul_right, lt_of_mul-lt-mul_right}
use Rattle.mk_scaled.specs.Range.{two_to, two_to-lt, two_to-small, IsInRange, pow_le}
use Rattle.mk_scaled.specs.Near.{IsNear, near_same}
use Rattle.mk_states.specs.Ratios.{unit}
use Rattle.mk_exact.specs.Factors.{Fraction}
use Rattle.mk_enclose.specs.declared.factor.Factor.{Factor}
use Rattle.mk_enclose.specs.Factor.{paid_in, taken_out, StandsFor}
use Rattle.mk_judge.specs.declared.scale.Scale.{Scale}
use Rattle.mk_judge.specs.Compared.{AreNear}
use Rattle.mk_judge.specs.Powers.{StandsBeside}
use Rattle.mk_judge.specs.Cash.{IsHeld}
use Rattle.mk_judge.specs.inner.Solvency.{AreEnough, AreLeast, AreTooMany}
use Rattle.mk_judge.proofs.Nearness.{overlap, near_times, times_near, near_cancelled}
use Rattle.mk_judge.proofs.Beside.{one_beside}

-- ---- the least units

some_units : (F x y : ℕ) → 1 ≤ x → x ≤ F * y → 1 ≤ F
some_units zero x y some h = absurd (omega (arith, some, h))
some_units (suc F) x y some h = omega arith

module _ (scale : Scale) (gain : ℕ) (positive : 1 ≤ gain) where
  pub one_least : 40 + scale.owed ≤ scale.gained → AreLeast scale gain 1
  one_least few = record {
    fits = omega arith;
    enough =
        let l : 2 ^ (40 + scale.owed) ≤ 2 ^ scale.gained = pow_le (40 + scale.owed) scale.gained few in
        let m : 1 * 2 ^ scale.gained ≤ gain * 2 ^ scale.gained = mul-le-mul_right (2 ^ scale.gained) positive in
        omega (arith, l, m);
    least = λ F h. some_units F (2 ^ (40 + scale.owed)) (gain * 2 ^ scale.gained) (pow_pos (40 + scale.owed)) (omega (arith, h));
  }

  module _ (more : scale.gained < 40 + scale.owed) where
    split : 2 ^ (40 + scale.owed) ≡ 2 ^ (40 + scale.owed - scale.gained) * 2 ^ scale.gained
    split = let s : 40 + scale.owed ≡ 40 + scale.owed - scale.gained + scale.gained = omega arith in
        ap (λ k. 2 ^ k) s ∙ pow-add 2 (40 + scale.owed - scale.gained) scale.gained

    -- what is enough is at least the ceiling
    at_least : (n F : ℕ) → n * gain < 2 ^ (40 + scale.owed - scale.gained) + gain → AreEnough scale gain F → n ≤ F
    at_least n F near h =
        let l : 2 ^ (40 + scale.owed - scale.gained) * 2 ^ scale.gained ≤ F * gain * 2 ^ scale.gained = rw (← split) h in
        let m : 2 ^ (40 + scale.owed - scale.gained) ≤ F * gain = le_of_mul-le-mul_right {k = 2 ^ scale.gained} l (pow_pos scale.gained) in
        let r : n < F + 1 = lt_of_mul-lt-mul_right gain (omega (arith, near, m)) in
        omega (arith, r)

    pub ceiling_least : (o : Option ℕ) (x y : ℕ) → x ≡ 2 ^ (40 + scale.owed - scale.gained) → y ≡ gain → SomeIff o (div_ceil x y < 2 ^ 63) (div_ceil x y)
        → MatchOption o (AreTooMany scale gain) (λ n. AreLeast scale gain n)
    ceiling_least o x y x_is y_is h = by_option o (rw (x_is, y_is) at h)
      where
        bits : ℕ
        bits = 2 ^ (40 + scale.owed - scale.gained)

        by_option : (p : Option ℕ) → SomeIff p (div_ceil bits gain < 2 ^ 63) (div_ceil bits gain) → MatchOption p (AreTooMany scale gain) (λ n. AreLeast scale gain n)
        by_option None past = λ F fits. elim (cases_lt (F * gain * 2 ^ scale.gained) (2 ^ (40 + scale.owed))) [
          | inl less ↦ less
          | inr enough ↦ absurd (past (let l = at_least (div_ceil bits gain) F (div_ceil_times bits gain positive).1 enough in omega (arith, l, fits)))
        ]
        by_option (Some n) is = record {
          fits = let l = is.0 in let e = is.1 in omega (arith, l, e);
          enough =
              let e : div_ceil bits gain ≡ n = sym (is.1) in
              let l : bits ≤ n * gain = rw e at (div_ceil_times bits gain positive).0 in
              let m : bits * 2 ^ scale.gained ≤ n * gain * 2 ^ scale.gained = mul-le-mul_right (2 ^ scale.gained) l in
              rw split m;
          least = λ F h. let e : div_ceil bits gain ≡ n = sym (is.1) in at_least n F (rw e at (div_ceil_times bits gain positive).1) h;
        }

-- a power of two of so few bits is in range
pub bits_in_range : (n bits : ℕ) → n ≡ 1 → bits < 2 ^ 50 → IsInRange (n * 2 ^ bits)
bits_in_range n bits one few =
    let l : 2 ^ bits ≤ two_to bits = two_to-small bits bits (le_refl bits) in
    let e : 1 * 2 ^ bits ≡ 2 ^ bits = omega arith in
    rw (one, e) (lt_of_le_of_lt l (two_to-lt bits (2 ^ 50) few))

-- ---- the factor after one more trade

module _ (scale : Scale) (g z w units : ℕ) (beside : StandsBeside scale g z w) where
  needed : unit * w * 2 ^ scale.owed ≡ 2 ^ (40 + scale.owed) * w
  needed = let s : 2 ^ (40 + scale.owed) ≡ 2 ^ 40 * 2 ^ scale.owed = pow-add 2 40 scale.owed in rw s (omega arith)

  made : units * z * 2 ^ scale.owed ≡ units * g * 2 ^ scale.gained * w
  made =
      let e : units * (z * 2 ^ scale.owed) ≡ units * (g * 2 ^ scale.gained * w) = ap (λ k. units * k) beside.same in
      omega (arith, e)

  pub enough_solvent : AreEnough scale g units → unit * w ≤ units * z
  enough_solvent h = le_of_mul-le-mul_right {k = 2 ^ scale.owed} (rw (needed, made) (mul-le-mul_right w h)) (pow_pos scale.owed)

  pub too_few_insolvent : units * g * 2 ^ scale.gained < 2 ^ (40 + scale.owed) → units * z < unit * w
  too_few_insolvent h = lt_of_mul-lt-mul_right (2 ^ scale.owed) (rw (needed, made) (mul-lt-mul_of_pos_right h beside.positive))

  pub units_near : (lo hi h : ℕ) → lo ≤ g → g ≤ hi → IsNear lo hi h → units * lo * 2 ^ scale.gained < 2 ^ (40 + scale.owed) → AreEnough scale hi units
      → AreNear (unit * w) (units * z) h
  units_near lo hi h lower upper near few enough = record {
    upward = near_cancelled x y (unit * w) (units * z) w (2 ^ scale.owed) h (pow_pos scale.owed) needed made both.upward;
    downward = near_cancelled y x (units * z) (unit * w) w (2 ^ scale.owed) h (pow_pos scale.owed) made needed both.downward;
  }
    where
      x : ℕ
      x = 2 ^ (40 + scale.owed)

      y : ℕ
      y = units * g * 2 ^ scale.gained

      both : AreNear x y h
      both =
          let s : 0 + h ≡ h = omega arith in
          rw (← s) (overlap x x (units * lo * 2 ^ scale.gained) (units * hi * 2 ^ scale.gained) x y 0 h (le_refl x) (le_refl x)
          (mul-le-mul_right (2 ^ scale.gained) (mul-le-mul_left units lower)) (mul-le-mul_right (2 ^ scale.gained) (mul-le-mul_left units upper))
          (near_same x) (times_near (2 ^ scale.gained) (units * lo) (units * hi) h (near_times units lo hi h near)) (omega (arith, few)) enough)

-- a factor itself beside its powers of two
pub held_beside : (factor : Factor) (q : Fraction) (scale : Scale) (stands : StandsFor factor q.num q.den) → scale.gained ≡ paid_in factor.net
    → scale.owed ≡ 40 * factor.trades + taken_out factor.net → StandsBeside scale stands.gain q.num q.den
held_beside factor q scale stands gained owed = one_beside factor q scale stands (omega (arith, gained)) (omega (arith, owed))

pub idle_held : (factor : Factor) (q : Fraction) (scale : Scale) → IsHeld factor q → factor.trades ≡ 0 → scale.gained ≡ paid_in factor.net
    → scale.owed ≡ 40 * factor.trades + taken_out factor.net → StandsBeside scale 1 q.num q.den
idle_held factor q scale held none gained owed = record {
  positive = held.stands.positive;
  same =
      let o : scale.owed ≡ taken_out factor.net = omega (arith, owed, none) in
      rw (gained, o) (let e = held.idle none in omega (arith, e));
}
