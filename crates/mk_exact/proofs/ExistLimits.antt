-- Two sides of a question have right limits.
use Rattle.std.proofs.Common.{◌≡◌, ℕ, zero, suc, ◌+◌, ◌-◌, ◌*◌, ◌/◌, ◌^◌, ◌<◌, ◌≤◌, ◌⊎◌, List, Option, Some, None, subst, inl, inr, arith, le_refl, le_trans, le_of_lt, lt_of_le_of_lt}
use Rattle.std.specs.Bool.{⊤}
use Rattle.std.proofs.Math.Nat.{div-mul-le_self, lt-div-mul-add, mul-le-mul_left, mul-le-mul_right, le_of_mul-le-mul_right, lt_of_mul-lt-mul_right}
use Rattle.std.proofs.lemmas.Bool.{cases_lt}
use Rattle.mk_net.specs.Bounds.{number_limit, million}
use Rattle.mk_net.specs.Network.{Variable}
use Rattle.mk_net.specs.Asked.{Asked}
use Rattle.mk_states.specs.Ratios.{unit}
use Rattle.mk_exact.specs.History.{Entry}
use Rattle.mk_exact.specs.Weight.{IsSmall}
use Rattle.mk_exact.specs.Prices.{IsFair, IsSolvent}
use Rattle.mk_exact.specs.Limits.{Side, IsFairAndSolvent, IsWanted, IsFloorSolvent, Inside, IsWithinRange, AreRight}
use Rattle.mk_exact.specs.Sides.{AreRightLimits}
use Rattle.mk_exact.specs.Existing.{IsPositivePrice, HasFairPair}

-- ---- limits of a test

-- limits are none, or lie in order within 1 to n
abbrev IsUpTo : ℕ → Option (ℕ × ℕ) → Type 0
IsUpTo n None = Unit {0}
IsUpTo n (Some (low, high)) = (1 ≤ low) × (low ≤ high) × (high ≤ n)

-- limits within 1 to n, and of the numbers from 1 to n they hold exactly those that pass
record Hold (P : ℕ → Type 0) (n : ℕ) (limits : Option (ℕ × ℕ)) : Type 0 where
  pub in_range : IsUpTo n limits
  pub passes : (X : ℕ) → Inside limits X → P X
  pub each : (X : ℕ) → 1 ≤ X → X ≤ n → P X → Inside limits X

-- what passes at two numbers passes at each between them
abbrev IsConvex : (ℕ → Type 0) → Type 0
IsConvex P = (a b c : ℕ) → a ≤ b → b ≤ c → P a → P c → P b

module _ (P : ℕ → Type 0) (decide : (X : ℕ) → P X ⊎ (¬ P X)) (convex : IsConvex P) where
  without : (n : ℕ) (limits : Option (ℕ × ℕ)) → ¬ P (suc n) → Hold P n limits → Hold P (suc n) limits
  without n limits failing h = record { in_range = wider limits h.in_range; passes = h.passes; each = λ X p q passes. h.each X p (below X q passes) passes }
    where
      wider : (limits : Option (ℕ × ℕ)) → IsUpTo n limits → IsUpTo (suc n) limits
      wider None r = tt
      wider (Some (low, high)) r = (r.0, r.1, omega (arith, r.2))

      below : (X : ℕ) → X ≤ suc n → P X → X ≤ n
      below X q passes = elim (cases_lt n X) [ inl last ↦ absurd (failing (subst P (same last) passes)) | inr less ↦ less ]
        where
          same : n < X → X ≡ suc n
          same last = omega arith

  with_one : (n : ℕ) (limits : Option (ℕ × ℕ)) → P (suc n) → Hold P n limits → (wider : Option (ℕ × ℕ)) × Hold P (suc n) wider
  with_one n None passing h = (
    Some (suc n, suc n),
    record {
      in_range = (omega arith, le_refl (suc n), le_refl (suc n));
      passes = λ X i. subst P (same X (i.0) (i.1)) passing;
      each = λ X p q passes. elim (cases_lt n X) [ inl last ↦ (last, q) | inr less ↦ absurd (h.each X p less passes) ];
    },
  )
    where
      same : (X : ℕ) → suc n ≤ X → X ≤ suc n → suc n ≡ X
      same X p q = omega arith
  with_one n (Some (low, high)) passing h = (
    Some (low, suc n),
    record {
      in_range = (h.in_range.0, omega (arith, h.in_range.1, h.in_range.2), le_refl (suc n));
      passes = λ X i. convex low X (suc n) (i.0) (i.1) (h.passes low (le_refl low, h.in_range.1)) passing;
      each = λ X p q passes. (from_low X p q passes, q);
    },
  )
    where
      from_low : (X : ℕ) → 1 ≤ X → X ≤ suc n → P X → low ≤ X
      from_low X p q passes = elim (cases_lt n X) [ inl last ↦ omega (arith, h.in_range.1, h.in_range.2) | inr less ↦ (h.each X p less passes).0 ]

  limits_of : (n : ℕ) → (limits : Option (ℕ × ℕ)) × Hold P n limits
  limits_of zero = (None, record { in_range = tt; passes = λ X i. absurd i; each = λ X p q passes. absurd (none X p q) })
    where
      none : (X : ℕ) → 1 ≤ X → X ≤ 0 → ⊥
      none X p q = omega arith
  limits_of (suc n) = next (limits_of n) (decide (suc n))
    where
      next : (limits : Option (ℕ × ℕ)) × Hold P n limits → P (suc n) ⊎ (¬ P (suc n)) → (limits : Option (ℕ × ℕ)) × Hold P (suc n) limits
      next l (inl passing) = with_one n (l.0) passing (l.1)
      next l (inr failing) = (l.0, without n (l.0) failing (l.1))

-- ---- the floor of one side

fewer : (a b d : ℕ) → a * d < b * d → a < b
fewer a b d h = lt_of_mul-lt-mul_right d h

-- quotients rise with what is divided
quotient_rises : (a b d : ℕ) → 1 ≤ d → a ≤ b → a / d ≤ b / d
quotient_rises a b d p q =
    let least : a / d * d ≤ a = div-mul-le_self a d in
    let most : b < b / d * d + d = lt-div-mul-add p in
    let l : a / d < b / d + 1 = fewer (a / d) (b / d + 1) d (omega arith) in
    omega arith

-- a floor F of B / A that is at least 2^19 loses at most one part in 2^19
solvent_from_margin : (F A B num den : ℕ) → 1 ≤ A → 2 ^ 19 ≤ F → B < F * A + A → unit * den * A * (2 ^ 19 + 1) ≤ num * B * 2 ^ 19 → unit * den ≤ F * num
solvent_from_margin F A B num den p large less margin =
    let reached : num * B ≤ num * (F * A + A) = mul-le-mul_left num (le_of_lt less) in
    let by_part : unit * den * (2 ^ 19 + 1) * A ≤ num * (F + 1) * 2 ^ 19 * A = omega arith in
    let cut : unit * den * (2 ^ 19 + 1) ≤ num * (F + 1) * 2 ^ 19 = le_of_mul-le-mul_right by_part p in
    let part : num * 2 ^ 19 ≤ num * F = mul-le-mul_left num large in
    let whole : unit * den * (2 ^ 19 + 1) ≤ F * num * (2 ^ 19 + 1) = omega arith in
    le_of_mul-le-mul_right whole (omega arith)

module _ (side : Side) (positive : IsPositivePrice side.price) where
  -- the exact floor of the units for X
  abbrev floor_for : ℕ → ℕ
  floor_for X = X * unit * side.price.den / (million * side.price.num)

  divisor : 1 ≤ million * side.price.num
  divisor = omega (arith, positive.positive)

  floor_below : (X : ℕ) → floor_for X * (million * side.price.num) ≤ X * unit * side.price.den
  floor_below X = div-mul-le_self (X * unit * side.price.den) (million * side.price.num)

  floor_above : (X : ℕ) → X * unit * side.price.den < floor_for X * (million * side.price.num) + million * side.price.num
  floor_above X = lt-div-mul-add divisor

  floor_rises : (X Y : ℕ) → X ≤ Y → floor_for X ≤ floor_for Y
  floor_rises X Y h = quotient_rises _ _ _ divisor (mul-le-mul_right side.price.den (mul-le-mul_right unit h))

  -- a price is at most one, so the floor for one part in a million is at least 2^40 / 10^6
  floor_is_large : (X : ℕ) → 1 ≤ X → 2 ^ 20 ≤ floor_for X
  floor_is_large X h =
      let some : 1 * (unit * side.price.den) ≤ X * (unit * side.price.den) = mul-le-mul_right (unit * side.price.den) h in
      let above = floor_above X in
      let at_most = positive.at_most_one in
      let l : 2 ^ 20 < floor_for X + 1 = fewer (2 ^ 20) (floor_for X + 1) (million * side.price.num) (omega arith) in
      omega arith

  floor_is_fair : (X : ℕ) → 1 ≤ X → floor_for X < number_limit → IsFair ⊤ (floor_for X) X side.price
  floor_is_fair X h fits =
      let below = floor_below X in
      let above = floor_above X in
      let large = floor_is_large X h in
      record { positive = omega arith; fits = fits; not_above = omega arith; close = omega arith; floor = λ _. omega arith }

  floor_serves : (X : ℕ) → 1 ≤ X → IsFloorSolvent side X → IsFairAndSolvent ⊤ side X (floor_for X)
  floor_serves X h floor = record { fair = floor_is_fair X h (floor.0); solvent = floor.1 }

  wanted_fits : (X : ℕ) → IsWanted side X → floor_for X < number_limit
  wanted_fits X h =
      let below = floor_below X in
      let far = h.not_far in
      let l : floor_for X < number_limit = fewer (floor_for X) number_limit (million * side.price.num) (omega arith) in
      l

  wanted_is_solvent : (X : ℕ) → 1 ≤ X → IsWanted side X → IsSolvent (floor_for X) side.least
  wanted_is_solvent X p h =
      let large = floor_is_large X p in
      let margin = mul-le-mul_left unit h.above_one in
      solvent_from_margin (floor_for X) (million * side.price.num) (X * unit * side.price.den) side.least.num side.least.den divisor (omega arith) (floor_above X) (omega arith)

  wanted_serves : (X : ℕ) → 1 ≤ X → IsWanted side X → IsFloorSolvent side X
  wanted_serves X p h = (wanted_fits X h, wanted_is_solvent X p h)

  floor_decided : (X : ℕ) → IsFloorSolvent side X ⊎ (¬ IsFloorSolvent side X)
  floor_decided X = both (cases_lt (floor_for X) number_limit) (cases_lt (floor_for X * side.least.num) (unit * side.least.den))
    where
      both : ((floor_for X < number_limit) ⊎ (number_limit ≤ floor_for X)) → ((floor_for X * side.least.num < unit * side.least.den) ⊎ IsSolvent (floor_for X) side.least)
          → IsFloorSolvent side X ⊎ (¬ IsFloorSolvent side X)
      both (inl fits) (inr solvent) = inl (fits, solvent)
      both (inl fits) (inl less) = inr (λ floor. not_solvent (floor.1) less)
        where
          not_solvent : IsSolvent (floor_for X) side.least → floor_for X * side.least.num < unit * side.least.den → ⊥
          not_solvent solvent less = omega arith
      both (inr wide) _ = inr (λ floor. not_fitting (floor.0) wide)
        where
          not_fitting : floor_for X < number_limit → number_limit ≤ floor_for X → ⊥
          not_fitting fits wide = omega arith

  -- a floor between two that are fit and solvent is so: it fits as the greater does, and is solvent as the lesser is
  floor_between : (X Y Z : ℕ) → X ≤ Y → Y ≤ Z → IsFloorSolvent side X → IsFloorSolvent side Z → IsFloorSolvent side Y
  floor_between X Y Z p q least most =
      (lt_of_le_of_lt (floor_rises Y Z q) (most.0), le_trans (least.1) (mul-le-mul_right side.least.num (floor_rises X Y p)))

-- ---- both sides

module _ (hit miss : Side) (hit_price : IsPositivePrice hit.price) (miss_price : IsPositivePrice miss.price) where
  -- both floors for X fit and are solvent
  abbrev Serves : ℕ → Type 0
  Serves X = IsFloorSolvent hit X × IsFloorSolvent miss (million - X)

  serves_decided : (X : ℕ) → Serves X ⊎ (¬ Serves X)
  serves_decided X = both (floor_decided hit hit_price X) (floor_decided miss miss_price (million - X))
    where
      both : IsFloorSolvent hit X ⊎ (¬ IsFloorSolvent hit X) → IsFloorSolvent miss (million - X) ⊎ (¬ IsFloorSolvent miss (million - X)) → Serves X ⊎ (¬ Serves X)
      both (inl h) (inl m) = inl (h, m)
      both (inr h) _ = inr (λ serves. h (serves.0))
      both (inl h) (inr m) = inr (λ serves. m (serves.1))

  serves_between : IsConvex Serves
  serves_between X Y Z p q least most =
      (floor_between hit hit_price X Y Z p q (least.0) (most.0), floor_between miss miss_price (million - Z) (million - Y) (million - X) (omega arith) (omega arith) (most.1) (least.1))

  right_if_held : (limits : Option (ℕ × ℕ)) → Hold Serves 999999 limits → AreRight ⊤ hit miss limits
  right_if_held limits held = record {
    in_range = range limits held.in_range;
    sound = λ X i. pair X (bounds limits held.in_range X i) (held.passes X i);
    near_complete = λ X p q h m. held.each X p q (wanted_serves hit hit_price X p h, wanted_serves miss miss_price (million - X) (omega arith) m);
    exact = λ _ X p q. (held.passes X, held.each X p q);
  }
    where
      range : (limits : Option (ℕ × ℕ)) → IsUpTo 999999 limits → IsWithinRange limits
      range None r = tt
      range (Some (low, high)) r = r

      bounds : (limits : Option (ℕ × ℕ)) → IsUpTo 999999 limits → (X : ℕ) → Inside limits X → (1 ≤ X) × (1 ≤ million - X)
      bounds None r X i = absurd i
      bounds (Some (low, high)) r X i = (omega (arith, r.0, i.0), omega (arith, r.2, i.1))

      pair : (X : ℕ) → (1 ≤ X) × (1 ≤ million - X) → Serves X
          → (F_t : ℕ) × (F_n : ℕ) × IsFairAndSolvent ⊤ hit X F_t × IsFairAndSolvent ⊤ miss (million - X) F_n
      pair X b serves = (floor_for hit hit_price X, floor_for miss miss_price (million - X), floor_serves hit hit_price X (b.0) (serves.0), floor_serves miss miss_price (million - X) (b.1) (serves.1))

pub limits_exist : (hit miss : Side) → IsPositivePrice hit.price → IsPositivePrice miss.price → (limits : Option (ℕ × ℕ)) × AreRight ⊤ hit miss limits
limits_exist hit miss hit_price miss_price = right (limits_of (Serves hit miss hit_price miss_price) (serves_decided hit miss hit_price miss_price) (serves_between hit miss hit_price miss_price) 999999)
  where
    right : (limits : Option (ℕ × ℕ)) × Hold (Serves hit miss hit_price miss_price) 999999 limits → (limits : Option (ℕ × ℕ)) × AreRight ⊤ hit miss limits
    right l = (l.0, right_if_held hit miss hit_price miss_price (l.0) (l.1))

-- what serves the small case serves any
pub right_in : (small : Type 0) (hit miss : Side) (limits : Option (ℕ × ℕ)) → AreRight ⊤ hit miss limits → AreRight small hit miss limits
right_in small hit miss limits h = record {
  in_range = h.in_range;
  sound = λ X i. pair X (h.sound X i);
  near_complete = h.near_complete;
  exact = λ _. h.exact tt;
}
  where
    in_any : (side : Side) (X F : ℕ) → IsFairAndSolvent ⊤ side X F → IsFairAndSolvent small side X F
    in_any side X F f = record {
      fair = record { positive = f.fair.positive; fits = f.fair.fits; not_above = f.fair.not_above; close = f.fair.close; floor = λ _. f.fair.floor tt };
      solvent = f.solvent;
    }

    pair : (X : ℕ) → (F_t : ℕ) × (F_n : ℕ) × IsFairAndSolvent ⊤ hit X F_t × IsFairAndSolvent ⊤ miss (million - X) F_n
        → (F_t : ℕ) × (F_n : ℕ) × IsFairAndSolvent small hit X F_t × IsFairAndSolvent small miss (million - X) F_n
    pair X f = (f.0, f.1, in_any hit X (f.0) (f.2), in_any miss (million - X) (f.1) (f.3))

-- ---- what limits say of a share

pub inside_is_decided : (limits : Option (ℕ × ℕ)) (X : ℕ) → Inside limits X ⊎ (¬ Inside limits X)
inside_is_decided None X = inr (λ i. i)
inside_is_decided (Some (low, high)) X = both (cases_lt X low) (cases_lt high X)
  where
    both : (X < low) ⊎ (low ≤ X) → (high < X) ⊎ (X ≤ high) → ((low ≤ X) × (X ≤ high)) ⊎ (¬ ((low ≤ X) × (X ≤ high)))
    both (inl below) _ = inr (λ i. absurd (apart (i.0)))
      where
        apart : low ≤ X → ⊥
        apart above = omega arith
    both (inr _) (inl above) = inr (λ i. absurd (apart (i.1)))
      where
        apart : X ≤ high → ⊥
        apart below = omega arith
    both (inr p) (inr q) = inl (p, q)

pub limits_judge : (network : List Variable) (H : List Entry) (u : ℕ) (asked : Asked) (limits : Option (ℕ × ℕ)) (X : ℕ)
    → AreRightLimits network H u asked limits → (Inside limits X × HasFairPair network H u asked X) ⊎ (¬ Inside limits X)
limits_judge network H u asked limits X right = judge (inside_is_decided limits X)
  where
    has_pair : (F_t : ℕ) × (F_n : ℕ) × IsFairAndSolvent (IsSmall network H) right.hit X F_t × IsFairAndSolvent (IsSmall network H) right.miss (million - X) F_n
        → HasFairPair network H u asked X
    has_pair f = (f.0, f.1, record { hit = right.hit; miss = right.miss; sides = right.sides; hit_units = f.2; miss_units = f.3 })

    judge : Inside limits X ⊎ (¬ Inside limits X) → (Inside limits X × HasFairPair network H u asked X) ⊎ (¬ Inside limits X)
    judge (inl i) = inl (i, has_pair (right.right.sound X i))
    judge (inr outside) = inr outside
