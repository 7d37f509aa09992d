-- When the shares of an interval can be traded, by the least units that are solvent.
use Rattle.std.proofs.Common.{◌≡◌, ℕ, zero, suc, ◌+◌, ◌-◌, ◌*◌, ◌/◌, ◌^◌, ◌<◌, ◌≤◌, ◌⊎◌, inl, inr, arith, le_refl, le_trans, lt_of_le_of_lt}
use Rattle.std.proofs.lemmas.Bool.{cases_lt}
use Rattle.std.proofs.Math.Nat.{mul-le-mul_left, mul-le-mul_right, le-div_iff_mul-le, lt-div-mul-add}
use Rattle.mk_net.specs.Bounds.{number_limit, million}
use Rattle.mk_scaled.specs.Near.{IsNear}
use Rattle.mk_states.specs.Ratios.{unit}
use Rattle.mk_exact.specs.Prices.{IsSolvent}
use Rattle.mk_exact.specs.Limits.{Side, IsFairAndSolvent}
use Rattle.mk_judge.specs.declared.scale.Scale.{Scale}
use Rattle.mk_judge.specs.Compared.{AreNear}
use Rattle.mk_judge.specs.Powers.{StandsBeside}
use Rattle.mk_judge.specs.Limits.{CanBeTraded, IsLeastSolvent}
use Rattle.mk_judge.specs.inner.Solvency.{AreEnough, AreLeast, AreTooMany}
use Rattle.mk_judge.proofs.Solving.{enough_solvent, too_few_insolvent, units_near}

-- ---- the law

module _ (side : Side) (n low high : ℕ) (some : 1 ≤ side.price.num) (divides : 1 ≤ side.least.den) (fits : n < number_limit) (is : IsLeastSolvent side.least n) where
  -- a price of one, in the units that are asked
  abbrev pub base : ℕ
  base = million * side.price.num

  base_positive : 0 < base
  base_positive = omega (arith, some)

  abbrev pub line : ℕ → ℕ
  line X = X * unit * side.price.den

  more_solvent : (F : ℕ) → n ≤ F → IsSolvent F side.least
  more_solvent F h = le_trans is.solvent (mul-le-mul_right side.least.num h)

  least_some : 1 ≤ n
  least_some = at n is.solvent
    where
      at : (m : ℕ) → IsSolvent m side.least → 1 ≤ m
      at zero h = absurd (omega (arith, h, divides))
      at (suc m) h = omega arith

  serves : (X F : ℕ) → n ≤ F → F < number_limit → F * base ≤ line X → line X * (2 ^ 30 - 1) < (F + 1) * base * 2 ^ 30 → IsFairAndSolvent ⊥ side X F
  serves X F from below not_above close = record {
    fair = record {
      positive = let s = least_some in omega (arith, s, from);
      fits = below;
      not_above = omega (arith, not_above);
      close = omega (arith, close);
      floor = λ no. absurd no;
    };
    solvent = more_solvent F from;
  }

  -- the floor of the units serves where it fits, and else the greatest number that does
  pub shares_traded : n * base ≤ line low → line high * (2 ^ 30 - 1) < number_limit * base * 2 ^ 30 → CanBeTraded side low high
  shares_traded fair reached X from to = elim (cases_lt (line X / base) number_limit) [
    | inl less ↦ (line X / base, serves X (line X / base) least_below less floor_below floor_close)
    | inr more ↦ (
      number_limit - 1,
      serves X (number_limit - 1) (omega (arith, fits)) (omega arith)
          (within (number_limit - 1) (omega (arith, more)))
          (let s : number_limit - 1 + 1 ≡ number_limit = omega arith in rw s (lt_of_le_of_lt (mul-le-mul_right (2 ^ 30 - 1) rises_to) reached)),
    )
  ]
    where
      rises_from : line low ≤ line X
      rises_from = mul-le-mul_right side.price.den (mul-le-mul_right unit from)

      rises_to : line X ≤ line high
      rises_to = mul-le-mul_right side.price.den (mul-le-mul_right unit to)

      within : (F : ℕ) → F ≤ line X / base → F * base ≤ line X
      within F h = (le-div_iff_mul-le base_positive).0 h

      least_below : n ≤ line X / base
      least_below = (le-div_iff_mul-le base_positive).1 (le_trans fair rises_from)

      floor_below : line X / base * base ≤ line X
      floor_below = within (line X / base) (le_refl (line X / base))

      floor_close : line X * (2 ^ 30 - 1) < (line X / base + 1) * base * 2 ^ 30
      floor_close = let next : line X < line X / base * base + base = lt-div-mul-add base_positive in omega (arith, next)

  pub low_fair : low ≤ high → CanBeTraded side low high → n * base ≤ line low
  low_fair order traded =
      let at = traded low (le_refl low) order in
      let F = at.0 in
      let h = at.1 in
      let l : n * base ≤ F * base = mul-le-mul_right base (is.least F h.solvent) in
      let m = h.fair.not_above in
      omega (arith, l, m)

  pub high_reached : low ≤ high → CanBeTraded side low high → line high * (2 ^ 30 - 1) < number_limit * base * 2 ^ 30
  high_reached order traded =
      let at = traded high order (le_refl high) in
      let F = at.0 in
      let h = at.1 in
      let f = h.fair.fits in
      let l : (F + 1) * (base * 2 ^ 30) ≤ number_limit * (base * 2 ^ 30) = mul-le-mul_right (base * 2 ^ 30) (omega (arith, f)) in
      let m = h.fair.close in
      omega (arith, l, m)

-- no units that fit are solvent
pub none_traded : (side : Side) (low high : ℕ) → low ≤ high → ((F : ℕ) → F < number_limit → IsSolvent F side.least → ⊥) → CanBeTraded side low high → ⊥
none_traded side low high order none traded =
    let at = traded low (le_refl low) order in
    let h = at.1 in
    none (at.0) h.fair.fits h.solvent

-- ---- the least units by the ends of a gain

module _ (scale : Scale) (g z w lo hi : ℕ) (beside : StandsBeside scale g z w) (lower : lo ≤ g) (upper : g ≤ hi) where
  enough_above : (a b F : ℕ) → a ≤ b → AreEnough scale a F → AreEnough scale b F
  enough_above a b F le h = le_trans h (mul-le-mul_right (2 ^ scale.gained) (mul-le-mul_left F le))

  more_enough : (a F G : ℕ) → F ≤ G → AreEnough scale a F → AreEnough scale a G
  more_enough a F G le h = le_trans h (mul-le-mul_right (2 ^ scale.gained) (mul-le-mul_right a le))

  few_below : (F : ℕ) → F * g * 2 ^ scale.gained < 2 ^ (40 + scale.owed) → F * lo * 2 ^ scale.gained < 2 ^ (40 + scale.owed)
  few_below F h = lt_of_le_of_lt (mul-le-mul_right (2 ^ scale.gained) (mul-le-mul_left F lower)) h

  solvent_enough : (F : ℕ) → unit * w ≤ F * z → AreEnough scale g F
  solvent_enough F h = elim (cases_lt (F * g * 2 ^ scale.gained) (2 ^ (40 + scale.owed))) [
    | inl few ↦ absurd (let l = too_few_insolvent scale g z w F beside few in omega (arith, l, h))
    | inr enough ↦ enough
  ]

  pub too_many : AreTooMany scale hi → (F : ℕ) → F < number_limit → F * z < unit * w
  too_many h F fits = too_few_insolvent scale g z w F beside (lt_of_le_of_lt (mul-le-mul_right (2 ^ scale.gained) (mul-le-mul_left F upper)) (h F fits))

  pub same_least : (n : ℕ) → AreLeast scale lo n → AreLeast scale hi n → IsLeastSolvent (record { num = z; den = w }) n
  same_least n low high = record {
    solvent = enough_solvent scale g z w n beside (enough_above lo g n lower low.enough);
    least = λ m h. high.least m (enough_above g hi m upper (solvent_enough m h));
  }

  -- the lesser of two is not enough at the lower end
  pub other_few : (a b : ℕ) → (b ≡ a → ⊥) → AreLeast scale lo a → AreLeast scale hi b → lo ≤ hi → b * lo * 2 ^ scale.gained < 2 ^ (40 + scale.owed)
  other_few a b other low high order = elim (cases_lt (b * lo * 2 ^ scale.gained) (2 ^ (40 + scale.owed))) [
    | inl few ↦ few
    | inr enough ↦ absurd (other (let l = low.least b enough in let m = high.least a (enough_above lo hi a order low.enough) in omega (arith, l, m)))
  ]

  pub least_near : (b n h : ℕ) → b * lo * 2 ^ scale.gained < 2 ^ (40 + scale.owed) → AreLeast scale hi b → IsLeastSolvent (record { num = z; den = w }) n → IsNear lo hi h
      → AreNear (unit * w) (n * z) h ⊎ AreNear (unit * w) ((n - 1) * z) h
  least_near b n h few high is near = elim (cases_lt b n) [
    | inl more ↦ inr (units_near scale g z w (n - 1) beside lo hi h lower upper near (few_below (n - 1) (before more)) (more_enough hi b (n - 1) (omega (arith, more)) high.enough))
    | inr less ↦ inl (units_near scale g z w n beside lo hi h lower upper near (same_few less) (more_enough hi b n at_least high.enough))
  ]
    where
      at_least : b ≤ n
      at_least = high.least n (enough_above g hi n upper (solvent_enough n is.solvent))

      same_few : n ≤ b → n * lo * 2 ^ scale.gained < 2 ^ (40 + scale.owed)
      same_few less = let e : n ≡ b = (let l = at_least in omega (arith, l, less)) in rw e few

      before : b < n → (n - 1) * g * 2 ^ scale.gained < 2 ^ (40 + scale.owed)
      before more = elim (cases_lt ((n - 1) * g * 2 ^ scale.gained) (2 ^ (40 + scale.owed))) [
        | inl less ↦ less
        | inr enough ↦ absurd (let l = is.least (n - 1) (enough_solvent scale g z w (n - 1) beside enough) in omega (arith, l, more))
      ]
