-- One enclosure of two weights, and how far the units of the best are above those of a state.
use Rattle.std.proofs.Common.{◌≡◌, ℕ, zero, suc, ◌+◌, ◌-◌, ◌*◌, ◌^◌, ◌<◌, ◌≤◌, ◌⊎◌, inl, inr}
use Rattle.std.proofs.Common.{sym, subst, arith, le_refl}
use Rattle.std.specs.Int.{div_ceil}
use Rattle.std.proofs.lemmas.Bool.{cases_lt}
use Rattle.std.proofs.lemmas.Grind.{div_ceil_times}
use Rattle.std.proofs.Math.Nat.{mul-le-mul, mul-le-mul_left, mul-le-mul_right}
use Rattle.std.proofs.Math.Nat.{mul-lt-mul_of_pos_right, lt_of_mul-lt-mul_right, one-le-pow}
use Rattle.mk_exact.specs.Weight.{IsSmall}
use Rattle.mk_scaled.specs.Near.{IsNear, near_width, near_trans, near_more, near_between}
use Rattle.mk_enclose.specs.declared.enclosure.Enclosure.{Enclosure}
use Rattle.mk_enclose.specs.Enclosure.{lower_of, upper_of, Encloses, HasGrade, IsExact}
use Rattle.mk_enclose.specs.Enclosure.{widest_grade}
use Rattle.mk_semiring.specs.declared.held.Held.{Held}
use Rattle.mk_semiring.specs.declared.held.Held.TheVariants.{Absent, Present}
use Rattle.mk_semiring.specs.Held.{HeldEncloses}
use Rattle.mk_answers.specs.inner.Found.{max_side_grade}
use Rattle.mk_best.specs.inner.Picks.{AreEnds, HasEnds, IsCertificate}

-- k of n are less than u of p; t is not far above n, nor p above w, nor w above v; and u of v are
-- less than l of t, or not far above
far_share : (k n u p t w v l c d a b less more : ℕ) → k * n < u * p → t * c ≤ n * d
    → p * c ≤ w * d → w * a ≤ v * b → u * v * less < l * t * more → 1 ≤ c → 1 ≤ d → 1 ≤ a → 1 ≤ b
    → 1 ≤ less → k * (c * c * a * less) < l * (d * d * b * more)
far_share k n u p t w v l c d a b less more share under over near low c_some d_some a_some b_some
    less_some = lt_of_mul-lt-mul_right t scaled
  where
    first : k * t * c < u * p * d
    first =
        let x : k * (t * c) ≤ k * (n * d) = mul-le-mul_left k under in
        let y : k * n * d < u * p * d = mul-lt-mul_of_pos_right share d_some in
        omega (arith, x, y)

    second : k * t * c * c < u * w * d * d
    second =
        let x : k * t * c * c < u * p * d * c = mul-lt-mul_of_pos_right first c_some in
        let y : u * d * (p * c) ≤ u * d * (w * d) = mul-le-mul_left (u * d) over in
        omega (arith, x, y)

    third : k * t * c * c * a < u * v * d * d * b
    third =
        let x : k * t * c * c * a < u * w * d * d * a = mul-lt-mul_of_pos_right second a_some in
        let y : u * d * d * (w * a) ≤ u * d * d * (v * b) = mul-le-mul_left (u * d * d) near in
        omega (arith, x, y)

    fourth : k * t * c * c * a * less ≤ u * v * d * d * b * less
    fourth =
        let x : k * t * c * c * a * less < u * v * d * d * b * less =
        mul-lt-mul_of_pos_right third less_some in omega (arith, x)

    some_times : (x y : ℕ) → 1 ≤ x → 1 ≤ y → 1 ≤ x * y
    some_times x y p q = let m : 1 * 1 ≤ x * y = mul-le-mul p q in omega (arith, m)

    scaled : k * (c * c * a * less) * t < l * (d * d * b * more) * t
    scaled =
        let x : u * v * less * (d * d * b) < l * t * more * (d * d * b) =
        mul-lt-mul_of_pos_right low (some_times (d * d) b (some_times d d d_some d_some) b_some) in
        omega (arith, fourth, x)

-- and so k is not far above l
few_units : (k n u p t w v low : ℕ) → k * n < u * p → t * (2 ^ 60 - widest_grade) ≤ n * 2 ^ 60
    → p * (2 ^ 60 - widest_grade) ≤ w * 2 ^ 60 → w * (2 ^ 60 - 2 ^ 28) ≤ v * 2 ^ 60
    → u * v * (2 ^ 39 - 1) < (low + 1) * t * 2 ^ 39 → low ≤ 10 ^ 10 → k ≤ low + 4
few_units k n u p t w v low share under over near less most =
    let x = far_share k n u p t w v (low + 1) (2 ^ 60 - widest_grade) (2 ^ 60) (2 ^ 60 - 2 ^ 28)
    (2 ^ 60) (2 ^ 39 - 1) (2 ^ 39) share under over near less (omega arith) (omega arith)
    (omega arith) (omega arith) (omega arith) in
    omega (arith, x, most)

one_less : (k n u : ℕ) → suc k * n < u * 10 ^ 10 + n → k * n < 10 ^ 10 * u
one_less k n u h = let e : suc k * n ≡ k * n + n = omega arith in omega (arith, h, e)

near_lower : (e : Enclosure) (v : ℕ) → HasGrade e max_side_grade → Encloses e v
    → v * (2 ^ 60 - widest_grade) ≤ lower_of e * 2 ^ 60
near_lower e v has is =
    near_width (lower_of e) v widest_grade
    (near_more (lower_of e) v max_side_grade widest_grade (omega arith)
    (near_between (lower_of e) (lower_of e) v (upper_of e) max_side_grade (le_refl _) is.upper
    has.near))

near_upper : (e : Enclosure) (v : ℕ) → HasGrade e max_side_grade → Encloses e v
    → upper_of e * (2 ^ 60 - widest_grade) ≤ v * 2 ^ 60
near_upper e v has is =
    near_width v (upper_of e) widest_grade
    (near_more v (upper_of e) max_side_grade widest_grade (omega arith)
    (near_between (lower_of e) v (upper_of e) (upper_of e) max_side_grade is.lower (le_refl _)
    has.near))

wide : (low v w high : ℕ) → IsNear low v max_side_grade → IsNear v w (2 ^ 28)
    → IsNear w high max_side_grade → high * 2 ^ 31 ≤ low * (2 ^ 31 + 1)
wide low v w high a b c =
    let x = near_width low high (max_side_grade + 2 ^ 28 + max_side_grade)
    (near_trans low w high (max_side_grade + 2 ^ 28) max_side_grade
    (near_trans low v w max_side_grade (2 ^ 28) a b) c) in
    omega (arith, x)

exact_at : (e : Enclosure) (v : ℕ) → Encloses e v → IsExact e
    → (lower_of e ≡ v) × (upper_of e ≡ v)
exact_at e v h x = (
  omega (arith, h.lower, h.upper, x.same),
  omega (arith, h.lower, h.upper, x.same),
)

module _ (own top whole : Enclosure) (small : Type 0) (v w t : ℕ)
    (ends : AreEnds (Present own) (Present top) whole small v w t) where
  pub between_fits : lower_of own ≤ upper_of top
  between_fits = omega (
    arith,
    ends.of_state.encloses.lower,
    ends.of_best.encloses.upper,
    ends.state_at_most,
  )

  -- the best is not above the whole, so its units are below the limit
  pub units_fit : div_ceil (upper_of top * 10 ^ 10) (lower_of whole) < 2 ^ 63
  units_fit =
      let a = near_upper top w ends.of_best.grade.0 ends.of_best.encloses in
      let b = near_lower whole t ends.of_whole.grade.0 ends.of_whole.encloses in
      let m = ends.best_at_most in
      let p = whole.positive in
      let c = div_ceil_times (upper_of top * 10 ^ 10) (lower_of whole) p in
      less (div_ceil (upper_of top * 10 ^ 10) (lower_of whole)) (lower_of whole) (upper_of top) p
      (c.1) (omega (arith, a, b, m))
    where
      less : (q n u : ℕ) → 1 ≤ n → q * n < u * 10 ^ 10 + n → u ≤ 2 * n → q < 2 ^ 63
      less q n u p h l =
          lt_of_mul-lt-mul_right n (let e : q * n < 2 ^ 63 * n = omega (arith, h, l, p) in e)

  pub certified : (value : Enclosure) (units : ℕ) → lower_of value ≡ lower_of own
      → upper_of value ≡ upper_of top
      → units ≡ div_ceil (upper_of top * 10 ^ 10) (lower_of whole)
      → IsCertificate value units small v w t
  certified value units lower upper is = record {
    of_state = record {
      lower = omega (arith, lower, ends.of_state.encloses.lower);
      upper = omega (arith, upper, ends.of_best.encloses.upper, ends.state_at_most);
    };
    of_best = record {
      lower = omega (arith, lower, ends.of_state.encloses.lower, ends.state_at_most);
      upper = omega (arith, upper, ends.of_best.encloses.upper);
    };
    width =
        let x = wide (lower_of own) v w (upper_of top)
        (near_between (lower_of own) (lower_of own) v (upper_of own) max_side_grade (le_refl _)
        ends.of_state.encloses.upper ends.of_state.grade.0.near) ends.near
        (near_between (lower_of top) w (upper_of top) (upper_of top) max_side_grade
        ends.of_best.encloses.lower (le_refl _) ends.of_best.grade.0.near) in
        omega (arith, x, lower, upper);
    at_least =
        let a : upper_of top * 10 ^ 10 ≤ units * lower_of whole =
        subst (λ q. upper_of top * 10 ^ 10 ≤ q * lower_of whole) (sym is) (ceil.0) in
        let b : units * lower_of whole ≤ units * t = mul-le-mul_left units
        ends.of_whole.encloses.lower in
        omega (arith, a, b, ends.of_best.encloses.upper);
    near = λ low most less. above units (subst (λ q. q * lower_of whole
        < upper_of top * 10 ^ 10 + lower_of whole) (sym is) (ceil.1)) low most less;
    ceiling = λ s.
        let a = exact_at top w ends.of_best.encloses (ends.of_best.exact s) in
        let b = exact_at whole t ends.of_whole.encloses (ends.of_whole.exact s) in
        let c : units * lower_of whole < upper_of top * 10 ^ 10 + lower_of whole =
        subst (λ q. q * lower_of whole < upper_of top * 10 ^ 10 + lower_of whole) (sym is) (ceil.1)
        in
        let d : units * t < upper_of top * 10 ^ 10 + t =
        subst (λ n. units * n < upper_of top * 10 ^ 10 + n) (b.0) c in
        let u = a.1 in
        omega (arith, d, u);
  }
    where
      ceil : (upper_of top * 10 ^ 10
          ≤ div_ceil (upper_of top * 10 ^ 10) (lower_of whole) * lower_of whole)
          × (div_ceil (upper_of top * 10 ^ 10) (lower_of whole) * lower_of whole
          < upper_of top * 10 ^ 10 + lower_of whole)
      ceil =
          let c = div_ceil_times (upper_of top * 10 ^ 10) (lower_of whole) whole.positive in
          (omega (arith, c.0), omega (arith, c.1))

      above : (q : ℕ) → q * lower_of whole < upper_of top * 10 ^ 10 + lower_of whole
          → (low : ℕ) → low ≤ 10 ^ 10 → 10 ^ 10 * v * (2 ^ 39 - 1) < (low + 1) * t * 2 ^ 39
          → q ≤ low + 5
      above zero h low most less = omega arith
      above (suc k) h low most less =
          let share = one_less k (lower_of whole) (upper_of top) h in
          let x = few_units k (lower_of whole) (10 ^ 10) (upper_of top) t w v low share
          (near_lower whole t ends.of_whole.grade.0 ends.of_whole.encloses)
          (near_upper top w ends.of_best.grade.0 ends.of_best.encloses)
          (near_width v w (2 ^ 28) ends.near) less most in
          omega (arith, x)

pub some_near : (v w g : ℕ) → IsNear v w g → 1 ≤ w → 1 ≤ v
some_near zero w g h some =
    let p : 1 ≤ (2 ^ 60) ^ g = one-le-pow g (2 ^ 60) (omega arith) in
    let m : 1 * 1 ≤ w * (2 ^ 60) ^ g = mul-le-mul some p in
    absurd (none w ((2 ^ 60) ^ g) ((2 ^ 60 + 1) ^ g) m h.near)
  where
    none : (w x y : ℕ) → 1 * 1 ≤ w * x → w * x ≤ 0 * y → ⊥
    none w x y m l = omega (arith, m, l)
some_near (suc v) w g h some = omega arith

-- neither belief is absent
module _ (own top : Held) (whole : Enclosure) (small : Type 0) (v w t : ℕ)
    (ends : AreEnds own top whole small v w t) where
  pub own_there : own ≡ Absent → ⊥
  own_there is =
      let z : v ≡ 0 = subst (λ (x : Held). HeldEncloses x v) is ends.of_state.encloses in
      let s = some_near v w (2 ^ 28) ends.near ends.some in
      omega (arith, z, s)

  pub top_there : top ≡ Absent → ⊥
  top_there is =
      let z : w ≡ 0 = subst (λ (x : Held). HeldEncloses x w) is ends.of_best.encloses in
      omega (arith, z, ends.some)

  pub ends_present : (e f : Enclosure) → own ≡ Present e → top ≡ Present f
      → AreEnds (Present e) (Present f) whole small v w t
  ends_present e f is also =
      subst (λ (x : Held). AreEnds (Present e) x whole small v w t) also
      (subst (λ (x : Held). AreEnds x top whole small v w t) is ends)

-- so the lower end of the one is not above the upper end of the other, and the units are below the
-- limit
pub ends_fit : {own top : Held} {whole e f : Enclosure} → HasEnds own top whole → own ≡ Present e
    → top ≡ Present f
    → (lower_of e ≤ upper_of f) × (div_ceil (upper_of f * 10 ^ 10) (lower_of whole) < 2 ^ 63)
ends_fit {own = own} {top = top} {whole = whole} {e = e} {f = f} a is also = (
  between_fits e f whole (IsSmall a.network a.history) a.state a.best a.all present,
  units_fit e f whole (IsSmall a.network a.history) a.state a.best a.all present,
)
  where
    present : AreEnds (Present e) (Present f) whole (IsSmall a.network a.history) a.state a.best
        a.all
    present = ends_present own top whole (IsSmall a.network a.history) a.state a.best a.all a.ends e
        f is also

-- one number is the ceiling of a share
pub one_ceiling : (x y a t : ℕ) → 1 ≤ t → a ≤ x * t → x * t < a + t → a ≤ y * t → y * t < a + t
    → x ≡ y
one_ceiling x y a t some p q r s = at (cases_lt x y)
  where
    less : (x y : ℕ) → x < y → a ≤ x * t → y * t < a + t → ⊥
    less x y l p s =
        let m : suc x * t ≤ y * t = mul-le-mul_right t l in
        let e : suc x * t ≡ x * t + t = omega arith in
        omega (arith, m, e, p, s)

    at : ((x < y) ⊎ (y ≤ x)) → x ≡ y
    at (inl l) = absurd (less x y l p s)
    at (inr l) = other (cases_lt y x) l
      where
        other : ((y < x) ⊎ (x ≤ y)) → y ≤ x → x ≡ y
        other (inl m) l = absurd (less y x m r q)
        other (inr m) l = omega (arith, m, l)
