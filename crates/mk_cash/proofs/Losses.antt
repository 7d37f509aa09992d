-- An interval made of the bits of two quotients covers the most that the operator can lose.
use Rattle.std.proofs.Common.{◌≡◌, ℕ, ◌+◌, ◌*◌, ◌^◌, ◌<◌, ◌≤◌, ⊎_elim, arith, le_trans}
use Rattle.std.proofs.Math.Nat.{mul-le-mul_left, pow-le-pow_left, pow-le-pow_right}
use Rattle.std.proofs.lemmas.Bool.{cases_lt, lt-ltb, le-ltb}
use Rattle.mk_net.specs.Bounds.{number_limit, million}
use Rattle.mk_scaled.specs.Near.{IsNear}
use Rattle.mk_scaled.specs.Range.{two_to, IsInRange, two_to-small, two_to-suc, two_to-mono, pow_at_most, power_in_range}
use Rattle.mk_exact.specs.Cash.{IsCash}
use Rattle.mk_exact.specs.Risk.{nearness, CoversBound}
use Rattle.mk_exact.proofs.ExistNumbers.{cash_exists, power_less}
use Rattle.mk_cash.specs.inner.Quotient.{IsLessNear}
use Rattle.mk_cash.proofs.Nearness.{at_most_double, IsWide, IsBetween, near_above, near_below}
use Rattle.mk_cash.proofs.Nearness.{exactly, low_near, high_near, wide_exact, wide_graded}

-- ---- powers of a million

pub millions_below : (n : ℕ) → n ≤ 3 → 1000000 ^ n < 2 ^ 64
millions_below n h = let l : 1000000 ^ n ≤ 1000000 ^ 3 = pow-le-pow_right (omega arith) h in omega arith

pub millions_above : (n : ℕ) → 4 ≤ n → number_limit ≤ million ^ n
millions_above n h = let l : million ^ 4 ≤ million ^ n = pow-le-pow_right (omega arith) h in omega arith

million_two_to : 1000000 ≤ two_to 20
million_two_to = le_trans (omega arith) (two_to-small 20 20 (omega arith))

pub million_in_range : (n : ℕ) → n ≤ 256 → IsInRange (1000000 ^ n)
million_in_range n h = power_in_range 1000000 20 n million_two_to (omega arith)

pub million_upper : (n up : ℕ) → n ≤ 256 → IsNear (1000000 ^ n) up (2 * n) → up ≤ two_to 6000
million_upper n up h near =
    let d : up ≤ 2 * 1000000 ^ n = at_most_double (1000000 ^ n) up (2 * n) (omega arith) near in
    let p : 1000000 ^ n ≤ two_to (20 * n) = pow_at_most 1000000 20 n million_two_to in
    let m : two_to (20 * n) ≤ two_to 5120 = two_to-mono (20 * n) 5120 (omega arith) in
    let s : two_to 5121 ≡ two_to 5120 + two_to 5120 = two_to-suc 5120 in
    let t : two_to 5121 ≤ two_to 6000 = two_to-mono 5121 6000 (omega arith) in
    omega arith

-- ---- the interval and the cash

-- the b-th powers: z of the total, w of the least weight, num and den of the ends of their enclosures
low_at_most : (z w n d num den low cash : ℕ) → num ≤ z → w ≤ den → (d ≤ n → 2 ^ low * den ≤ num) → (n < d → low ≡ 0) → z < 2 ^ (cash + 1) * w → low ≤ cash
low_at_most z w n d num den low cash p q within none h = ⊎_elim (λ l. let e = none l in omega arith) by_bits (cases_lt n d)
  where
    by_bits : d ≤ n → low ≤ cash
    by_bits l =
        let a : 2 ^ low * w ≤ 2 ^ low * den = mul-le-mul_left (2 ^ low) q in
        let b = within l in
        let r = power_less low (cash + 1) w z (omega arith) h in
        omega arith

high_at_least : (z w num den high cash : ℕ) → z ≤ num → den ≤ w → num < 2 ^ (high + 1) * den → 2 ^ cash * w ≤ z → cash ≤ high
high_at_least z w num den high cash p q greatest h =
    let a : 2 ^ (high + 1) * den ≤ 2 ^ (high + 1) * w = mul-le-mul_left (2 ^ (high + 1)) q in
    let r = power_less cash (high + 1) w z h (omega arith) in
    omega arith

-- ---- both ends

-- the whole bits of the power of a quotient: rounded down, and rounded up
pub record IsLow (n d b low : ℕ) : Type 0 where
  pub none : n < d → low ≡ 0
  pub within : d ≤ n → 2 ^ low * d ^ b ≤ n ^ b
  pub near : IsLessNear (2 ^ (low + 1) * d ^ b) (n ^ b) (3 * b)

pub record IsHigh (n d b high : ℕ) : Type 0 where
  pub above : n ^ b < 2 ^ (high + 1) * d ^ b
  pub near : d ≤ n → IsNear (n ^ b) (2 ^ high * d ^ b) (3 * b)

module _ (b total zl zh gz : ℕ) (z : IsBetween total zl zh gz) (least wl wh gw : ℕ) (w : IsBetween least wl wh gw) where
  covers_graded : (low high : ℕ) → 1 ≤ least → least ≤ total → IsLow zl wh b low → IsHigh zh wl b high → IsWide (nearness total) (3 + gz + gw) → CoversBound total least b low high
  covers_graded low high some part below above wide = with_cash (cash_exists (record { num = total; den = least }) b (record { divides = some; at_least_one = part }))
    where
      steps_under : b * gz + (3 * b + b * gw) ≡ b * (3 + gz + gw)
      steps_under = omega arith

      steps_over : b * gz + 3 * b + (0 + b * gw) ≡ b * (3 + gz + gw)
      steps_over = omega arith

      with_cash : (cash : ℕ) × IsCash (record { num = total; den = least }) b cash → CoversBound total least b low high
      with_cash c = record {
        cash = c.0;
        is_cash = c.1;
        above = low_at_most (total ^ b) (least ^ b) zl wh (zl ^ b) (wh ^ b) low (c.0) (pow-le-pow_left z.lower b) (pow-le-pow_left w.upper b) below.within below.none (c.1).greatest;
        below = high_at_least (total ^ b) (least ^ b) (zh ^ b) (wl ^ b) high (c.0) (pow-le-pow_left z.upper b) (pow-le-pow_left w.lower b) above.above (c.1).covered;
        low_near = low_near (total ^ b) (least ^ b) (zl ^ b) (wh ^ b) low (nearness total) (b * gz) (3 * b) (b * gw) (3 + gz + gw) b
            (near_below b total zl zh gz z) below.near (near_above b least wl wh gw w) steps_under wide;
        high_near = high_near (total ^ b) (least ^ b) (zh ^ b) (wl ^ b) high (nearness total) (b * gz) (3 * b) (b * gw) (3 + gz + gw) b
            (near_above b total zl zh gz z) (above.near (le_trans w.lower (le_trans part z.upper))) (near_below b least wl wh gw w) steps_over wide;
      }

-- exact where the total is small, and graded elsewhere
pub covers_bound : (b total zl zh gz least wl wh gw low high : ℕ) → IsBetween total zl zh gz → gz ≤ 2 ^ 10 → IsBetween least wl wh gw → gw ≤ 2 ^ 17
    → (total < number_limit → zl ≡ zh) → (total < number_limit → wl ≡ wh) → 1 ≤ least → least ≤ total → IsLow zl wh b low → IsHigh zh wl b high → CoversBound total least b low high
covers_bound b total zl zh gz least wl wh gw low high z z_few w w_few z_exact w_exact some part below above = ⊎_elim small large (cases_lt total number_limit)
  where
    small : total < number_limit → CoversBound total least b low high
    small h = covers_graded b total zl zh 0 (exactly total zl zh gz z (z_exact h)) least wl wh 0 (exactly least wl wh gw w (w_exact h)) low high some part below above
        (let e = lt-ltb total number_limit h in rw e (wide_exact (3 + 0 + 0) (omega arith)))

    large : number_limit ≤ total → CoversBound total least b low high
    large h = covers_graded b total zl zh gz z least wl wh gw w low high some part below above
        (let e = le-ltb total number_limit h in rw e (wide_graded (3 + gz + gw) (omega arith)))
