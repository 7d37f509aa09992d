-- Which shares are wanted, by the ends of enclosures.
use Rattle.std.proofs.Common.{
  ◌≡◌,
  ℕ,
  zero,
  suc,
  ◌+◌,
  ◌-◌,
  ◌*◌,
  ◌/◌,
  ◌^◌,
  ◌<◌,
  ◌≤◌,
  ◌↔◌,
  min,
  Option,
  Some,
  None,
  MatchOption,
  sym,
  ap,
  ◌∙◌,
  inl,
  inr,
  arith,
  le_refl,
  le_trans,
}
use Rattle.std.specs.Int.{div_ceil}
use Rattle.std.specs.Option.{SomeIff}
use Rattle.std.proofs.lemmas.Bool.{cases_lt}
use Rattle.std.proofs.lemmas.Grind.{div_ceil_times}
use Rattle.std.proofs.lemmas.Nat.{pow-add, pow_pos}
use Rattle.std.proofs.Math.Nat.{
  pow-zero,
  pow-le-pow_right,
  mul-le-mul,
  mul-le-mul_left,
  mul-le-mul_right,
  mul_assoc,
  mul_right_comm,
  one-le-mul,
  le_of_mul-le-mul_right,
  lt_of_mul-lt-mul_right,
  div-mul-le_self,
  lt-div-mul-add,
}
use Rattle.mk_net.specs.Bounds.{million}
use Rattle.mk_scaled.specs.Near.{IsNear, near_trans, near-mul}
use Rattle.mk_exact.specs.Limits.{Side}
use Rattle.mk_judge.specs.declared.scale.Scale.{Scale}
use Rattle.mk_judge.specs.Compared.{AreNear}
use Rattle.mk_judge.specs.Powers.{StandsBeside}
use Rattle.mk_judge.specs.inner.Products.{IsAboveOne}
use Rattle.mk_judge.proofs.Nearness.{overlap, near_times, times_near, near_cancelled}
use Rattle.mk_judge.proofs.Fairness.{turned}

-- ---- capped powers of two decide as the powers themselves do

capped_right : (u v d : ℕ) → u ≤ 2 ^ 256 → (u ≤ v * 2 ^ min d 256) ↔ (u ≤ v * 2 ^ d)
capped_right u v d few = (
  λ h. le_trans h (mul-le-mul_left v (pow-le-pow_right {n = 2} (omega arith)
      (let l : min d 256 ≤ d = omega arith in l))),
  back v,
)
  where
    back : (n : ℕ) → u ≤ n * 2 ^ d → u ≤ n * 2 ^ min d 256
    back zero h = omega (arith, h)
    back (suc n) h = elim (cases_lt 256 d) [
      | inl more ↦ let e : min d 256 ≡ 256 = omega arith in rw e (omega (arith, few))
      | inr less ↦ let e : min d 256 ≡ d = omega arith in rw e h
    ]

capped_left : (u v d : ℕ) → v < 2 ^ 256 → (u * 2 ^ min d 256 ≤ v) ↔ (u * 2 ^ d ≤ v)
capped_left u v d few = (
  forth u,
  λ h. le_trans (mul-le-mul_left u (pow-le-pow_right {n = 2} (omega arith)
      (let l : min d 256 ≤ d = omega arith in l))) h,
)
  where
    forth : (n : ℕ) → n * 2 ^ min d 256 ≤ v → n * 2 ^ d ≤ v
    forth zero h = omega arith
    forth (suc n) h = elim (cases_lt 256 d) [
      | inl more ↦ let e : min d 256 ≡ 256 = omega arith in let l : suc n * 2 ^ 256 ≤ v = rw e at h
          in absurd (omega (arith, l, few))
      | inr less ↦ let e : min d 256 ≡ d = omega arith in rw e at h
    ]

apart : (n low high : ℕ) → low ≤ high → n * 2 ^ high ≡ n * 2 ^ (high - low) * 2 ^ low
apart n low high h =
    let s : high ≡ high - low + low = omega arith in
    ap (λ k. n * 2 ^ k) s ∙ ap (λ k. n * k) (pow-add 2 (high - low) low)
    ∙ sym (mul_assoc n (2 ^ (high - low)) (2 ^ low))

capped_same : (u v A B : ℕ) → u ≤ 2 ^ 256 → v < 2 ^ 256
    → (u * 2 ^ min (A - B) 256 ≤ v * 2 ^ min (B - A) 256) ↔ (u * 2 ^ A ≤ v * 2 ^ B)
capped_same u v A B few few' = elim (cases_lt A B) [
  | inl less ↦ right (omega (arith, less))
  | inr more ↦ left more
]
  where
    one : 2 ^ 0 ≡ 1
    one = pow-zero 2

    right : A ≤ B → (u * 2 ^ min (A - B) 256 ≤ v * 2 ^ min (B - A) 256) ↔ (u * 2 ^ A ≤ v * 2 ^ B)
    right le =
        let none : min (A - B) 256 ≡ 0 = omega arith in
        let split : v * 2 ^ B ≡ v * 2 ^ (B - A) * 2 ^ A = apart v A B le in
        let same = capped_right u v (B - A) few in (
          λ h. let l : u * 1 ≤ v * 2 ^ min (B - A) 256 = rw (none, one) at h in rw split
              (mul-le-mul_right (2 ^ A) (same.0 (omega (arith, l)))),
          λ h. let l = same.1 (le_of_mul-le-mul_right {k = 2 ^ A} (rw split at h) (pow_pos A))
              in rw (none, one) (omega (arith, l)),
        )

    left : B ≤ A → (u * 2 ^ min (A - B) 256 ≤ v * 2 ^ min (B - A) 256) ↔ (u * 2 ^ A ≤ v * 2 ^ B)
    left le =
        let none : min (B - A) 256 ≡ 0 = omega arith in
        let split : u * 2 ^ A ≡ u * 2 ^ (A - B) * 2 ^ B = apart u B A le in
        let same = capped_left u v (A - B) few' in (
          λ h. let l : u * 2 ^ min (A - B) 256 ≤ v * 1 = rw (none, one) at h in rw split
              (mul-le-mul_right (2 ^ B) (same.0 (omega (arith, l)))),
          λ h. let l = same.1 (le_of_mul-le-mul_right {k = 2 ^ B} (rw split at h) (pow_pos B))
              in rw (none, one) (omega (arith, l)),
        )

-- ---- quotients as shares

pub first_right : (o : Option ℕ) (first n d : ℕ) → 1 ≤ d → SomeIff o (div_ceil n d < 2 ^ 63)
    (div_ceil n d) → MatchOption o (first ≡ 1000000) (λ q. first ≡ min q 1000000)
    → (X : ℕ) → X ≤ 999999 → (first ≤ X) ↔ (n ≤ X * d)
first_right None first n d some past is X few = (
  λ h. absurd (omega (arith, is, h, few)),
  λ h. absurd (past (let l = within h in omega (arith, l, few))),
)
  where
    within : n ≤ X * d → div_ceil n d < X + 1
    within h = lt_of_mul-lt-mul_right d (let near = (div_ceil_times n d some).1 in omega (
      arith,
      near,
      h,
    ))
first_right (Some q) first n d some found is X few = (
  λ h. let l : q ≤ X = omega (arith, is, h, few) in le_trans
      (rw same at (div_ceil_times n d some).0) (mul-le-mul_right d l),
  λ h.
      let near : q * d < n + d = rw same at (div_ceil_times n d some).1 in
      let l : q < X + 1 = lt_of_mul-lt-mul_right d (omega (arith, near, h)) in
      omega (arith, l, is),
)
  where
    same : div_ceil n d ≡ q
    same = sym (found.1)

pub last_right : (o : Option ℕ) (last n d : ℕ) → 1 ≤ d → SomeIff o (n / d < 2 ^ 63) (n / d)
    → MatchOption o (last ≡ 999999) (λ q. last ≡ min q 999999)
    → (X : ℕ) → X ≤ 999999 → (X ≤ last) ↔ (X * d ≤ n)
last_right o last n d some found is X few = at o found is
  where
    within : X ≤ n / d → X * d ≤ n
    within h = le_trans (mul-le-mul_right d h) (div-mul-le_self n d)

    reached : X * d ≤ n → X ≤ n / d
    reached h =
        let next : n < n / d * d + d = lt-div-mul-add some in
        let l : X < n / d + 1 = lt_of_mul-lt-mul_right d (omega (arith, next, h)) in
        omega (arith, l)

    at : (p : Option ℕ) → SomeIff p (n / d < 2 ^ 63) (n / d) → MatchOption p (last ≡ 999999)
        (λ q. last ≡ min q 999999) → (X ≤ last) ↔ (X * d ≤ n)
    at None past e = (
      λ h. elim (cases_lt (n / d) (2 ^ 63)) [
        | inl less ↦ absurd (past less)
        | inr more ↦ within
            (omega (arith, more, few))
      ],
      λ h. omega (arith, e, few),
    )
    at (Some q) told e = (
      λ h. within (let s = told.1 in omega (arith, s, e, h)),
      λ h. let l = reached h in let s = told.1 in omega (arith, s, e, l, few),
    )

-- the first share, by a mantissa and the digits of a product with their powers of two
pub first_above : (m e r bits owed gained t first X quotient_n quotient_d : ℕ) → m < 2 ^ 64
    → t ≤ 2 ^ 60 → r ≤ 2 ^ 128 → X ≤ 999999
    → quotient_n ≡ m * 2 ^ min (e + owed - (bits + (gained + 19))) 256 * t
    → quotient_d ≡ r * 2 ^ min (bits + (gained + 19) - (e + owed)) 256 * 1
    → (first ≤ X) ↔ (quotient_n ≤ X * quotient_d)
    → (first ≤ X) ↔ (m * 2 ^ e * t * 2 ^ owed ≤ X * (r * 2 ^ bits) * 2 ^ (gained + 19))
first_above m e r bits owed gained t first X n d digits times few share n_is d_is first_is = (
  λ h. rw (low, high) (same.0 (let l = first_is.0 h in omega (arith, l, n_same, d_same))),
  λ h. first_is.1 (let l = same.1 (rw (low, high) at h) in omega (arith, l, n_same, d_same)),
)
  where
    A : ℕ
    A = e + owed

    B : ℕ
    B = bits + (gained + 19)

    few_left : m * t ≤ 2 ^ 256
    few_left = let few_digits : m ≤ 2 ^ 64 = omega (arith, digits) in let l : m * t ≤ 2 ^ 64 * 2 ^
        60 = mul-le-mul few_digits times in omega (arith, l)

    few_right : X * r < 2 ^ 256
    few_right = let l : X * r ≤ 999999 * 2 ^ 128 = mul-le-mul share few in omega (arith, l)

    same : (m * t * 2 ^ min (A - B) 256 ≤ X * r * 2 ^ min (B - A) 256)
        ↔ (m * t * 2 ^ A ≤ X * r * 2 ^ B)
    same = capped_same (m * t) (X * r) A B few_left few_right

    n_same : n ≡ m * t * 2 ^ min (A - B) 256
    n_same = n_is ∙ mul_right_comm m (2 ^ min (A - B) 256) t

    d_same : X * d ≡ X * r * 2 ^ min (B - A) 256
    d_same = rw d_is (omega arith)

    low : m * 2 ^ e * t * 2 ^ owed ≡ m * t * 2 ^ A
    low = let s : 2 ^ (e + owed) ≡ 2 ^ e * 2 ^ owed = pow-add 2 e owed in rw s (omega arith)

    high : X * (r * 2 ^ bits) * 2 ^ (gained + 19) ≡ X * r * 2 ^ B
    high = let s : 2 ^ (bits + (gained + 19)) ≡ 2 ^ bits * 2 ^ (gained + 19) = pow-add 2 bits
        (gained + 19) in rw s (omega arith)

-- ---- the first inequality of a wanted share

more_above : (scale : Scale) (part part' product product' X : ℕ) → part' ≤ part → product ≤ product'
    → IsAboveOne scale part product X → IsAboveOne scale part' product' X
more_above scale part part' product product' X less more h =
    le_trans (mul-le-mul_right (2 ^ scale.owed) (mul-le-mul_right (1000000 * (2 ^ 19 + 1)) less))
    (le_trans h (mul-le-mul_right (2 ^ (scale.gained + 19)) (mul-le-mul_left X more)))

pub first_positive : (scale : Scale) (first part product : ℕ) → 1 ≤ part
    → ((X : ℕ) → X ≤ 999999 → (first ≤ X) ↔ IsAboveOne scale part product X) → 1 ≤ first
first_positive scale first part product some is = elim (cases_lt 0 first) [
  | inl more ↦ more
  | inr none ↦ absurd (
      let h : part * (1000000 * (2 ^ 19 + 1)) * 2 ^ scale.owed ≤ 0 * product * 2 ^
      (scale.gained + 19) = (is 0 (omega arith)).0 none in
      let l : 1 ≤ part * (1000000 * (2 ^ 19 + 1)) * 2 ^ scale.owed = one-le-mul
      (omega (arith, some)) (pow_pos scale.owed) in
      omega (arith, h, l)
      )
]

pub first_lower : (scale : Scale) (first first' part part' product product' : ℕ) → part ≤ part'
    → product' ≤ product → first ≤ 1000000
    → ((X : ℕ) → X ≤ 999999 → (first ≤ X) ↔ IsAboveOne scale part product X)
    → ((X : ℕ) → X ≤ 999999 → (first' ≤ X) ↔ IsAboveOne scale part' product' X) → first ≤ first'
first_lower scale first first' part part' product product' less more most is is' =
    elim (cases_lt first' 1000000) [
      | inl few ↦ let share : first' ≤ 999999 = omega (arith, few) in (is first' share).1
          (more_above scale part' part product' product first' less more
          ((is' first' share).0 (le_refl first')))
      | inr many ↦ le_trans most many
    ]

module _ (scale : Scale) (side : Side) (gain : ℕ) (beside : StandsBeside scale gain side.least.num
    side.least.den) (X : ℕ) where
  abbrev needed : ℕ
  needed = side.least.den * million * side.price.num * (2 ^ 19 + 1)

  abbrev had : ℕ
  had = side.least.num * X * side.price.den * 2 ^ 19

  abbrev left : ℕ
  left = side.price.num * (1000000 * (2 ^ 19 + 1)) * 2 ^ scale.owed

  abbrev right : ℕ
  right = X * (gain * side.price.den) * 2 ^ (scale.gained + 19)

  needed_is : needed * 2 ^ scale.owed ≡ left * side.least.den
  needed_is = omega arith

  had_is : had * 2 ^ scale.owed ≡ right * side.least.den
  had_is =
      let s : 2 ^ (scale.gained + 19) ≡ 2 ^ scale.gained * 2 ^ 19 = pow-add 2 scale.gained 19 in
      let e : side.least.num * 2 ^ scale.owed * (X * side.price.den * 2 ^ 19) ≡ gain * 2 ^
      scale.gained * side.least.den * (X * side.price.den * 2 ^ 19) =
      ap (λ k. k * (X * side.price.den * 2 ^ 19)) beside.same in
      rw s (omega (arith, e))

  pub is_above : IsAboveOne scale side.price.num (gain * side.price.den) X → needed ≤ had
  is_above h = le_of_mul-le-mul_right {k = 2 ^ scale.owed}
      (rw (needed_is, had_is) (mul-le-mul_right side.least.den h)) (pow_pos scale.owed)

  pub above_is : needed ≤ had → IsAboveOne scale side.price.num (gain * side.price.den) X
  above_is h = le_of_mul-le-mul_right {k = side.least.den} (rw (← needed_is, ← had_is)
      (mul-le-mul_right (2 ^ scale.owed) h)) beside.positive

  module _ (part_low part_high least greatest g n : ℕ) (part_below : part_low ≤ side.price.num)
      (part_above : side.price.num ≤ part_high)
      (product_below : least ≤ gain * side.price.den) (product_above : gain * side.price.den ≤
      greatest) where
    pub surely_above : IsAboveOne scale part_high least X → needed ≤ had
    surely_above h = is_above (more_above scale part_high side.price.num least
        (gain * side.price.den) X part_above product_below h)

    pub maybe_above : needed ≤ had → IsAboveOne scale part_low greatest X
    maybe_above h = more_above scale side.price.num part_low (gain * side.price.den) greatest X
        part_below product_above (above_is h)

    pub above_near : IsNear part_low part_high g → IsNear least greatest n
        → IsAboveOne scale part_low greatest X → (IsAboveOne scale part_high least X → ⊥)
        → AreNear needed had (g + n)
    above_near near near' may sure = record {
      upward = near_cancelled left right needed had side.least.den (2 ^ scale.owed) (g + n)
          (pow_pos scale.owed) needed_is had_is both.upward;
      downward = near_cancelled right left had needed side.least.den (2 ^ scale.owed) (g + n)
          (pow_pos scale.owed) had_is needed_is both.downward;
    }
      where
        t : ℕ
        t = 1000000 * (2 ^ 19 + 1)

        over : ℕ
        over = 2 ^ scale.owed

        more : ℕ
        more = 2 ^ (scale.gained + 19)

        past : X * least * more ≤ part_high * t * over
        past = elim (cases_lt (X * least * more) (part_high * t * over))
            [ inl less ↦ omega (arith, less) | inr enough ↦ absurd (sure enough) ]

        both : AreNear left right (g + n)
        both =
            overlap (part_low * t * over) (part_high * t * over) (X * least * more)
            (X * greatest * more) left right g n
            (mul-le-mul_right over (mul-le-mul_right t part_below))
            (mul-le-mul_right over (mul-le-mul_right t part_above))
            (mul-le-mul_right more (mul-le-mul_left X product_below))
            (mul-le-mul_right more (mul-le-mul_left X product_above))
            (times_near over (part_low * t) (part_high * t) g
            (times_near t part_low part_high g near))
            (times_near more (X * least) (X * greatest) n (near_times X least greatest n near'))
            past may

-- the ends of a product are near each other by the grades of both and two steps more
pub product_near : (least greatest low high low' high' i j : ℕ) → IsNear least (low * low') 1
    → IsNear (high * high') greatest 1 → IsNear low high i → IsNear low' high' j
    → IsNear least greatest (1 + ((i + j) + 1))
product_near least greatest low high low' high' i j down up near near' =
    near_trans least (low * low') greatest 1 ((i + j) + 1) down
    (near_trans (low * low') (high * high') greatest (i + j) 1
    (near-mul low high low' high' i j near near') up)

-- ---- the second inequality of a wanted share

more_near : (X part part' whole whole' t : ℕ) → part ≤ part' → whole' ≤ whole → X * whole ≤ part * t
    → X * whole' ≤ part' * t
more_near X part part' whole whole' t more less h = le_trans (mul-le-mul_left X less)
    (le_trans h (mul-le-mul_right t more))

pub last_lower : (t last last' part part' whole whole' : ℕ) → part ≤ part' → whole' ≤ whole
    → last ≤ 999999
    → ((X : ℕ) → X ≤ 999999 → (X ≤ last) ↔ (X * whole ≤ part * t))
    → ((X : ℕ) → X ≤ 999999 → (X ≤ last') ↔ (X * whole' ≤ part' * t)) → last ≤ last'
last_lower t last last' part part' whole whole' more less most is is' = (is' last most).1
    (more_near last part part' whole whole' t more less ((is last most).0 (le_refl last)))

module _ (X num den part_low part_high whole_low whole_high : ℕ) (part_below : part_low ≤ num)
    (part_above : num ≤ part_high) (whole_below : whole_low ≤ den) (whole_above : den ≤ whole_high)
  where
    same_move : num * (1000000 * 2 ^ 22) ≡ 2 ^ 22 * million * num
    same_move = omega arith

    pub surely_not_far : X * whole_high ≤ part_low * (1000000 * 2 ^ 22)
        → X * den ≤ 2 ^ 22 * million * num
    surely_not_far h = rw (← same_move) (more_near X part_low num whole_high den (1000000 * 2 ^ 22)
        part_below whole_above h)

    pub maybe_not_far : X * den ≤ 2 ^ 22 * million * num → X * whole_low ≤ part_high *
        (1000000 * 2 ^ 22)
    maybe_not_far h = more_near X num part_high den whole_low (1000000 * 2 ^ 22) part_above
        whole_below (rw same_move h)

    pub far_near : (g h : ℕ) → IsNear part_low part_high g → IsNear whole_low whole_high h
        → X * whole_low ≤ part_high * (1000000 * 2 ^ 22)
        → (X * whole_high ≤ part_low * (1000000 * 2 ^ 22) → ⊥)
        → AreNear (X * den) (2 ^ 22 * million * num) (g + h)
    far_near g h near near' may sure =
        turned (X * den) (2 ^ 22 * million * num) g h (rw (← same_move)
        (overlap (X * whole_low) (X * whole_high) (part_low * t) (part_high * t) (X * den)
        (num * t) h g
        (mul-le-mul_left X whole_below) (mul-le-mul_left X whole_above)
        (mul-le-mul_right t part_below) (mul-le-mul_right t part_above)
        (near_times X whole_low whole_high h near') (times_near t part_low part_high g near) past
        may))
      where
        t : ℕ
        t = 1000000 * 2 ^ 22

        past : part_low * t ≤ X * whole_high
        past = elim (cases_lt (part_low * t) (X * whole_high)) [
          | inl less ↦ omega (arith, less)
          | inr enough ↦ absurd (sure enough)
        ]
