-- A user's factor in a state: 2 to the net bits, times the gain, over one unit for each trade.
use Rattle.std.specs.Prelude.{◌≡◌, ℕ, ◌*◌, ◌^◌, ◌≤◌, min, List, Bool, Option, Some, None, length}
use Rattle.mk_net.specs.Network.{Variable}
use Rattle.mk_states.specs.States.{product_by, plus_over}
use Rattle.mk_states.specs.Ratios.{unit, ratio_at}
use Rattle.mk_exact.specs.History.{Entry, UserTrade, trades_of, deposited, withdrawn}
use Rattle.mk_exact.specs.Weight.{possible_states}

-- a fraction that is not divided out
pub record Fraction : Type 0 where
  pub num : ℕ
  pub den : ℕ

-- the product of the ratios of a user's trades
abbrev pub gain : List Entry → ℕ → List ℕ → ℕ
gain H u s = product_by (λ (t : UserTrade). ratio_at t.ratio s) (trades_of H u)

abbrev pub trade_count : List Entry → ℕ → ℕ
trade_count H u = length (trades_of H u)

abbrev pub HoldsNoTrade : List Entry → ℕ → Type 0
HoldsNoTrade H u = trade_count H u ≡ 0

-- the factor of a gain: bits withdrawn, and one unit for each trade, stand below the line
abbrev pub factor_with : List Entry → ℕ → ℕ → Fraction
factor_with H u g = record { num = 2 ^ deposited H u * g; den = 2 ^ withdrawn H u * unit ^ trade_count H u }

-- the exact factor of a user in a state
abbrev pub factor : List Entry → ℕ → List ℕ → Fraction
factor H u s = factor_with H u (gain H u s)

-- the lesser of two values, either of which may be absent
abbrev pub lesser : Option ℕ → Option ℕ → Option ℕ
lesser None b = b
lesser (Some a) None = Some a
lesser (Some a) (Some b) = Some (min a b)

abbrev pub least_by : {X : Type 0} → (X → ℕ) → List X → Option ℕ
least_by f xs = plus_over lesser None (λ x. Some (f x)) xs

-- the least gain over the possible states that pass a test; none where there is no such state
abbrev pub least_gain : List Variable → List Entry → ℕ → (List ℕ → Bool) → Option ℕ
least_gain network H u test = least_by (gain H u) (possible_states network H test)

-- a factor of at least one
abbrev pub IsAtLeastOne : Fraction → Type 0
IsAtLeastOne q = q.den ≤ q.num
