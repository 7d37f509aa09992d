-- What is added up of a user's entries, in parts of 2^54 of a bit.
use Rattle.std.specs.Prelude.{ℕ, ℤ, ◌+◌, ◌*◌, ◌^◌, ◌<◌, ◌≤◌}
use Rattle.mk_expect.specs.declared.tally.Tally.{Tally}
use Rattle.mk_expect.specs.Expectation.{above_zero, below_zero}
use Rattle.mk_expect.specs.inner.Parts.{unit_bits}

-- a tally of nothing, and the sum of two
abbrev pub no_tally : Tally
no_tally = record { least_gained = 0; most_gained = 0; least_owed = 0; most_owed = 0 }

abbrev pub tally_sum : Tally → Tally → Tally
tally_sum a b = record {
  least_gained = a.least_gained + b.least_gained;
  most_gained = a.most_gained + b.most_gained;
  least_owed = a.least_owed + b.least_owed;
  most_owed = a.most_owed + b.most_owed;
}

-- it bounds what is gained, at most with a rounding, and what is owed, each over a whole
pub record IsTally (t : Tally) (whole gained rounding owed : ℕ) : Type 0 where
  pub least_gained : t.least_gained * whole ≤ 2 ^ 34 * gained
  pub most_gained : 2 ^ 34 * (gained + rounding) ≤ t.most_gained * whole
  pub least_owed : t.least_owed * whole ≤ 2 ^ 34 * owed
  pub most_owed : 2 ^ 34 * owed ≤ t.most_owed * whole

-- its numbers are in order and small
pub record IsWithin (t : Tally) (gained owed : ℕ) : Type 0 where
  pub gained_in_order : t.least_gained ≤ t.most_gained
  pub owed_in_order : t.least_owed ≤ t.most_owed
  pub few_gained : t.most_gained ≤ gained
  pub few_owed : t.most_owed ≤ owed

-- what is gained less what is owed is known but for so much
pub record IsNarrow (t : Tally) (width : ℕ) : Type 0 where
  pub narrow : t.most_gained + t.most_owed ≤ t.least_gained + t.least_owed + width

-- low .. high, in points, covers what is gained less what is owed at b points a bit, and is less
-- than two points wider
pub record ArePoints (t : Tally) (b : ℕ) (low high : ℤ) : Type 0 where
  pub below : above_zero low * 2 ^ 54 + b * t.most_owed
      ≤ b * t.least_gained + below_zero low * 2 ^ 54
  pub above : b * t.most_gained + below_zero high * 2 ^ 54
      ≤ above_zero high * 2 ^ 54 + b * t.least_owed
  pub narrow : (above_zero high + below_zero low) * 2 ^ 54 + b * (t.least_gained + t.least_owed)
      < (above_zero low + below_zero high) * 2 ^ 54 + b * (t.most_gained + t.most_owed) + 2 ^ 55

-- a number lies between two
pub record IsBetween (l : ℕ) (bounds : ℕ × ℕ) : Type 0 where
  pub at_least : bounds.0 ≤ l
  pub at_most : l ≤ bounds.1

-- bounds on a share in parts of 2^34, and on bits in parts of 2^20
pub record AreFactors (share bits : ℕ × ℕ) : Type 0 where
  pub share_in_order : share.0 ≤ share.1
  pub share_narrow : share.1 ≤ share.0 + 2
  pub share_small : share.1 ≤ 2 ^ 34
  pub bits_in_order : bits.0 ≤ bits.1
  pub bits_narrow : bits.1 ≤ bits.0 + 1
  pub bits_small : bits.1 ≤ 2 ^ 26

-- the tally of so many values is narrow but for the least shares, and few parts of each
pub record IsThin (t : Tally) (values : ℕ) : Type 0 where
  pub thin : unit_bits * (t.most_gained + t.most_owed)
      ≤ unit_bits * (t.least_gained + t.least_owed) + t.least_owed
      + values * (unit_bits * (208 * 2 ^ 20))

-- a tally of so many bits in and out and so many trades: it bounds what is gained and owed over a
-- whole, is small, and narrow but for so much of each trade
pub record AddsUp (t : Tally) (whole gained owed ins outs trades : ℕ) : Type 0 where
  pub tally : IsTally t whole gained (trades * whole) owed
  pub within : IsWithin t (2 ^ 54 * ins + 2 ^ 65 * trades) (2 ^ 54 * outs + 2 ^ 65 * trades)
  pub narrow : IsNarrow t (trades * 2 ^ 36)
