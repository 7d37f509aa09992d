-- The cash that a user may expect to have, by the weights of the possible states.
use Rattle.std.specs.Prelude.{ℕ, ℤ, pos, negsuc, suc, ◌+◌, ◌*◌, ◌^◌, ◌<◌, ◌≤◌, List, sum_by}
use Rattle.mk_net.specs.Bounds.{max_transfers, max_transfer_bits}
use Rattle.mk_net.specs.Network.{Variable}
use Rattle.mk_states.specs.Events.{always}
use Rattle.mk_exact.specs.Factors.{Fraction, trade_count}
use Rattle.mk_exact.specs.History.{Entry, UserTrade, trades_of, deposited, withdrawn}
use Rattle.mk_exact.specs.Market.{Market}
use Rattle.mk_states.specs.Ratios.{ratio_at}
use Rattle.mk_exact.specs.Weight.{weight, total, possible_states}
use Rattle.mk_rules.specs.Bounded.{IsBounded}

-- l are the bits of n, its logarithm to base 2, in parts of 2^20 of a bit and rounded down
pub record IsBits (n l : ℕ) : Type 0 where
  pub covered : 2 ^ l ≤ n ^ 2 ^ 20
  pub greatest : n ^ 2 ^ 20 < 2 ^ (l + 1)

-- the bits of each positive number
abbrev pub AreBits : (ℕ → ℕ) → Type 0
AreBits bits = (n : ℕ) → 1 ≤ n → IsBits n (bits n)

-- the expectation of a number that each state has: its sum over the possible states, each by its
-- weight, over their weights together
abbrev pub expectation : List Variable → List Entry → (List ℕ → ℕ) → Fraction
expectation network H number = record {
  num = sum_by (λ s. weight network H s * number s) (possible_states network H always);
  den = total network H always;
}

-- the bits of what multiplies a user's factor in a state, in parts of 2^20: those deposited, and
-- those of the ratio of each trade
abbrev pub bits_held : (ℕ → ℕ) → List Entry → ℕ → List ℕ → ℕ
bits_held bits H u s = deposited H u * 2 ^ 20
    + sum_by (λ (t : UserTrade). bits (ratio_at t.ratio s)) (trades_of H u)

-- the bits of what divides it in every state: those withdrawn, and 40 for each trade
abbrev pub bits_owed : List Entry → ℕ → ℕ
bits_owed H u = (withdrawn H u + 40 * trade_count H u) * 2 ^ 20

-- how far a number is above 0, and how far below
abbrev pub above_zero : ℤ → ℕ
above_zero (pos n) = n
above_zero (negsuc n) = 0

abbrev pub below_zero : ℤ → ℕ
below_zero (pos n) = 0
below_zero (negsuc n) = suc n

-- low .. high, in points, covers what a user of so many trades expects at b points a bit: the bits
-- held less those owed, and one part of 2^20 more for each trade, since bits are rounded down. Of a
-- number that may be negative, what it is below 0 stands on the other side
pub record CoversPoints (b owed trades : ℕ) (held : Fraction) (low high : ℤ) : Type 0 where
  pub below : above_zero low * 2 ^ 20 * held.den + b * owed * held.den
      ≤ b * held.num + below_zero low * 2 ^ 20 * held.den
  pub above : b * held.num + b * trades * held.den + below_zero high * 2 ^ 20 * held.den
      ≤ above_zero high * 2 ^ 20 * held.den + b * owed * held.den
  pub narrow : (above_zero high + below_zero low) * 2 ^ 18
      ≤ (above_zero low + below_zero high) * 2 ^ 18 + 3 * 2 ^ 18 + b * trades

-- a user has deposited no more bits, and withdrawn no more, than all transfers of a market come to
pub record HasFewBits (H : List Entry) (u : ℕ) : Type 0 where
  pub few_deposited : deposited H u ≤ max_transfers * max_transfer_bits
  pub few_withdrawn : withdrawn H u ≤ max_transfers * max_transfer_bits

-- so it is in every bounded history
abbrev pub BoundedHasFewBits : Type 0
BoundedHasFewBits = (market : Market) (H : List Entry) (u : ℕ) → IsBounded market H → HasFewBits H u

-- low .. high covers the expected cash of a user at b points a bit
pub record CoversExpectation (network : List Variable) (H : List Entry) (b u : ℕ) (low high : ℤ) :
    Type 0 where
  pub bits : ℕ → ℕ
  pub are_bits : AreBits bits
  pub covers : CoversPoints b (bits_owed H u) (trade_count H u)
      (expectation network H (bits_held bits H u)) low high
