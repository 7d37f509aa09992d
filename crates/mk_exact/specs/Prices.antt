-- The exact price of a question, and what a printed price and a ratio owe it.
use Rattle.std.specs.Prelude.{◌≡◌, ℕ, ◌+◌, ◌-◌, ◌*◌, ◌^◌, ◌<◌, ◌≤◌, List, Bool}
use Rattle.mk_net.specs.declared.words.Pair.{Pair}
use Rattle.mk_net.specs.Bounds.{number_limit, million}
use Rattle.mk_net.specs.Network.{Variable}
use Rattle.mk_net.specs.Asked.{Asked}
use Rattle.mk_states.specs.Events.{holds, with_target}
use Rattle.mk_states.specs.Ratios.{unit}
use Rattle.mk_exact.specs.History.{Entry}
use Rattle.mk_exact.specs.Weight.{total}
use Rattle.mk_exact.specs.Factors.{Fraction}

-- the share of the states that pass a test among those where the given pairs hold, for a test that only these pass
abbrev pub price_where : List Variable → List Entry → List Pair → (List ℕ → Bool) → Fraction
price_where network H given test = record { num = total network H test; den = total network H (holds given) }

-- the exact price of a question
abbrev pub exact_price : List Variable → List Entry → Asked → Fraction
exact_price network H asked = price_where network H asked.condition (with_target asked)

-- low .. high, in units of 10^-10, covers the price. Were it less by one part in near, it would be
-- below low + 1, and were it greater by that, above high - 1. What cannot come costs nothing, and
-- what is sure all of one; in the small case low is the floor and high the ceiling
pub record CoversPrice (small : Type 0) (near : ℕ) (price : Fraction) (low high : ℕ) : Type 0 where
  pub below : low * price.den ≤ 10 ^ 10 * price.num
  pub above : 10 ^ 10 * price.num ≤ high * price.den
  pub at_most_one : high ≤ 10 ^ 10
  pub low_near : 10 ^ 10 * price.num * (near - 1) < (low + 1) * price.den * near
  pub high_near : high * price.den * (near - 1) < 10 ^ 10 * price.num * near + price.den *
      (near - 1)
  pub never : price.num ≡ 0 → high ≡ 0
  pub sure : price.num ≡ price.den → low ≡ 10 ^ 10
  pub floor : small → 10 ^ 10 * price.num < (low + 1) * price.den
  pub ceiling : small → high * price.den < 10 ^ 10 * price.num + price.den

-- F units take the price to X parts in a million and no further, and nearly so far
pub record IsFair (small : Type 0) (F X : ℕ) (price : Fraction) : Type 0 where
  pub positive : 1 ≤ F
  pub fits : F < number_limit
  pub not_above : F * million * price.num ≤ X * unit * price.den
  pub close : X * unit * price.den * (2 ^ 30 - 1) < (F + 1) * million * price.num * 2 ^ 30
  pub floor : small → X * unit * price.den < (F + 1) * million * price.num

-- F units leave a factor at least one
abbrev pub IsSolvent : ℕ → Fraction → Type 0
IsSolvent F q = unit * q.den ≤ F * q.num
