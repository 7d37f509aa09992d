-- What the comparisons of a price are together.
use Rattle.std.proofs.Common.{◌≡◌, ℕ, zero, suc, ◌+◌, ◌-◌, ◌*◌, ◌^◌, ◌<◌, ◌≤◌, inl, inr, refl, arith}
use Rattle.std.specs.Bool.{⊤}
use Rattle.std.proofs.lemmas.Bool.{cases_lt}
use Rattle.std.proofs.Math.Nat.{mul-le-mul_left, mul-le-mul_right, mul-lt-mul_of_pos_right}
use Rattle.std.proofs.Common.{lt_of_le_of_lt}
use Rattle.mk_scaled.specs.Range.{IsInRange}
use Rattle.mk_exact.specs.Factors.{Fraction}
use Rattle.mk_exact.specs.Prices.{CoversPrice}
use Rattle.mk_exact.proofs.Sharp.{sharp_enough}
use Rattle.mk_exact.proofs.ExistNumbers.{further}
use Rattle.mk_net.specs.Bounds.{sharpness}

-- the four comparisons, as they are made
pub record AreClose (near : ℕ) (price : Fraction) (low high : ℕ) : Type 0 where
  pub below : low * (price.den * 1) ≤ price.num * 10 ^ 10
  pub above : price.num * 10 ^ 10 ≤ high * (price.den * 1)
  pub low_near : 10 ^ 10 * price.num * (near - 1) < (low + 1) * price.den * near
  pub high_near : (high - 1) * price.den * (near - 1) < 10 ^ 10 * price.num * near

pub record AreRounded (price : Fraction) (low high : ℕ) : Type 0 where
  pub below : low * (price.den * 1) ≤ price.num * 10 ^ 10
  pub above : price.num * 10 ^ 10 ≤ high * (price.den * 1)
  pub floor : price.num * 10 ^ 10 < (low + 1) * (price.den * 1)
  pub ceiling : (high - 1) * (price.den * 1) < price.num * 10 ^ 10

-- below the next unit, and so below it less by one part in near
ceiling_near : (near n d high : ℕ) → 2 ≤ near → high * d < n + d
    → high * d * (near - 1) < n * near + d * (near - 1)
ceiling_near near n d high wide less =
    let l : high * d * (near - 1) < (n + d) * (near - 1) =
    mul-lt-mul_of_pos_right less (omega arith) in
    let m : n * (near - 1) ≤ n * near = mul-le-mul_left n (omega arith) in
    omega (arith, l, m)

floor_near : (near n d low : ℕ) → 2 ≤ near → n < (low + 1) * d
    → n * (near - 1) < (low + 1) * d * near
floor_near near n d low wide less =
    further n (near - 1) near ((low + 1) * d) (omega arith) (omega arith) less

module _ (price : Fraction) (low high : ℕ) (some : 1 ≤ price.num) (less : price.num < price.den) where
  -- what is printed above a price that is something is something
  pub high_some : price.num * 10 ^ 10 ≤ high * (price.den * 1) → 1 ≤ high
  high_some above = at high above
    where
      at : (h : ℕ) → price.num * 10 ^ 10 ≤ h * (price.den * 1) → 1 ≤ h
      at zero l = absurd (omega (arith, l, some))
      at (suc h) l = omega arith

  one_before : 1 ≤ high → high * price.den ≡ (high - 1) * price.den + price.den
  one_before one = at high one
    where
      at : (h : ℕ) → 1 ≤ h → h * price.den ≡ (h - 1) * price.den + price.den
      at zero l = absurd (omega arith)
      at (suc h) l = let e : suc h - 1 ≡ h = omega arith in rw e (omega arith)

  scaled_before : (near : ℕ) → 1 ≤ high
      → high * price.den * (near - 1) ≡ (high - 1) * price.den * (near - 1) + price.den * (near - 1)
  scaled_before near one = let e = one_before one in rw e (omega arith)

  pub close_covers : (near : ℕ) → high ≤ 10 ^ 10 → AreClose near price low high
      → CoversPrice ⊥ near price low high
  close_covers near most h =
      let one = scaled_before near (high_some h.above) in
      record {
        below = omega (arith, h.below);
        above = omega (arith, h.above);
        at_most_one = most;
        low_near = h.low_near;
        high_near = let nearer = h.high_near in omega (arith, one, nearer);
        never = λ nothing. absurd (omega (arith, nothing, some));
        sure = λ all. absurd (omega (arith, all, less));
        floor = λ no. absurd no;
        ceiling = λ no. absurd no;
      }

  pub covers_close : (near : ℕ) → CoversPrice ⊥ near price low high → AreClose near price low high
  covers_close near h =
      let above : price.num * 10 ^ 10 ≤ high * (price.den * 1) = omega (arith, h.above) in
      let one = scaled_before near (high_some above) in
      let nearer = h.high_near in
      record {
        below = omega (arith, h.below);
        above = above;
        low_near = h.low_near;
        high_near = omega (arith, one, nearer);
      }

  pub rounded_covers : (near : ℕ) → 2 ≤ near → high ≤ 10 ^ 10 → AreRounded price low high
      → CoversPrice ⊤ near price low high
  rounded_covers near wide most h =
      let one = one_before (high_some h.above) in
      let floor : 10 ^ 10 * price.num < (low + 1) * price.den = omega (arith, h.floor) in
      let ceiling : high * price.den < 10 ^ 10 * price.num + price.den = omega (arith, one, h.ceiling) in
      record {
        below = omega (arith, h.below);
        above = omega (arith, h.above);
        at_most_one = most;
        low_near = floor_near near (10 ^ 10 * price.num) price.den low wide floor;
        high_near = ceiling_near near (10 ^ 10 * price.num) price.den high wide ceiling;
        never = λ nothing. absurd (omega (arith, nothing, some));
        sure = λ all. absurd (omega (arith, all, less));
        floor = λ _. floor;
        ceiling = λ _. ceiling;
      }

  pub covers_rounded : (near : ℕ) → CoversPrice ⊤ near price low high → AreRounded price low high
  covers_rounded near h =
      let above : price.num * 10 ^ 10 ≤ high * (price.den * 1) = omega (arith, h.above) in
      let one = one_before (high_some above) in
      let ceiling = h.ceiling tt in
      record { below = omega (arith, h.below); above = above; floor = omega (arith, h.floor tt); ceiling = omega (arith, one, ceiling) }

-- an interval in order, at most at one
pub covers_in_order : (small : Type 0) (near : ℕ) (price : Fraction) (low high : ℕ) → 1 ≤ price.den
    → CoversPrice small near price low high → low ≤ high
covers_in_order small near price low high some h =
    elim (cases_lt high low) [ inl more ↦ absurd (past more) | inr le ↦ le ]
  where
    past : high < low → ⊥
    past more =
        let l : low * price.den ≤ high * price.den = omega (arith, h.below, h.above) in
        let m : (high + 1) * price.den ≤ low * price.den = mul-le-mul_right price.den (omega arith) in
        omega arith

-- what costs nothing, and what costs all
pub only_nothing : (small : Type 0) (near : ℕ) (price : Fraction) (low high : ℕ) → price.num ≡ 0
    → 1 ≤ price.den → CoversPrice small near price low high → (low ≡ 0) × (high ≡ 0)
only_nothing small near price low high nothing some h =
    let high_is = h.never nothing in
    let order = covers_in_order small near price low high some h in
    (omega arith, high_is)

pub only_all : (small : Type 0) (near : ℕ) (price : Fraction) (low high : ℕ) → price.num ≡ price.den
    → 1 ≤ price.den → CoversPrice small near price low high → (low ≡ 10 ^ 10) × (high ≡ 10 ^ 10)
only_all small near price low high all some h =
    let low_is = h.sure all in
    let order = covers_in_order small near price low high some h in
    (low_is, omega (arith, h.at_most_one))

pub nothing_covers : (small : Type 0) (most_trades : ℕ) (price : Fraction) (low high : ℕ)
    → price.num ≡ 0 → 1 ≤ price.den → (low ≡ 0) × (high ≡ 0)
    → CoversPrice small (sharpness most_trades) price low high
nothing_covers small most_trades price low high nothing some are = rw (are.0, are.1) (record {
  below = omega arith;
  above = omega (arith, nothing);
  at_most_one = omega arith;
  low_near = floor_near (sharpness most_trades) (10 ^ 10 * price.num) price.den 0
      (sharp_enough most_trades) (omega (arith, nothing, some));
  high_near = ceiling_near (sharpness most_trades) (10 ^ 10 * price.num) price.den 0
      (sharp_enough most_trades) (omega (arith, nothing, some));
  never = λ _. refl;
  sure = λ all. absurd (omega (arith, nothing, all, some));
  floor = λ _. omega (arith, nothing, some);
  ceiling = λ _. omega (arith, nothing, some);
})

pub all_covers : (small : Type 0) (most_trades : ℕ) (price : Fraction) (low high : ℕ)
    → price.num ≡ price.den → 1 ≤ price.den → (low ≡ 10 ^ 10) × (high ≡ 10 ^ 10)
    → CoversPrice small (sharpness most_trades) price low high
all_covers small most_trades price low high all some are = rw (are.0, are.1) (record {
  below = omega (arith, all);
  above = omega (arith, all);
  at_most_one = omega arith;
  low_near = floor_near (sharpness most_trades) (10 ^ 10 * price.num) price.den (10 ^ 10)
      (sharp_enough most_trades) (omega (arith, all, some));
  high_near = ceiling_near (sharpness most_trades) (10 ^ 10 * price.num) price.den (10 ^ 10)
      (sharp_enough most_trades) (omega (arith, all, some));
  never = λ nothing. absurd (omega (arith, nothing, all, some));
  sure = λ _. refl;
  floor = λ _. omega (arith, all, some);
  ceiling = λ _. omega (arith, all, some);
})

-- what is multiplied by less stays in range
pub less_in_range : (n m k : ℕ) → k ≤ m → IsInRange (n * m) → IsInRange (n * k)
less_in_range n m k le h = lt_of_le_of_lt (mul-le-mul_left n le) h
