-- What each entry adds to what a user is expected to hold and to owe, in parts of 2^20 of a bit
-- times weights: a trade by the values of its variable.
use Rattle.std.specs.Prelude.{ℕ, ◌+◌, ◌*◌, ◌^◌, List, [], ◌∷◌, ◌++◌, length, ◌==◌}
use Rattle.std.specs.Prelude.{if◌then◌else◌}
use Rattle.mk_net.specs.declared.words.Pair.{Pair}
use Rattle.mk_net.specs.Asked.{TradeRatio}
use Rattle.mk_net.specs.Network.{Variable}
use Rattle.mk_states.specs.Events.{holds, always}
use Rattle.mk_exact.specs.History.{Entry, Trade, bits_in, bits_out}
use Rattle.mk_states.specs.Ratios.{units_of}
use Rattle.mk_states.specs.States.{numbers_below, plus_over}
use Rattle.mk_exact.specs.Weight.{total}

-- the bits of one whole unit, in parts of 2^20
abbrev pub unit_bits : ℕ
unit_bits = 40 * 2 ^ 20

-- the condition of a trade, and its variable at a value
abbrev pub event_at : TradeRatio → ℕ → List Pair
event_at r k = r.condition ++ record { variable = r.variable; value = k } ∷ []

-- a number of a trade, of an entry that is one of a user's
abbrev pub of_trade : ℕ → (TradeRatio → ℕ) → Entry → ℕ
of_trade u f (Trade user ratio) = if user == u then f ratio else 0
of_trade u f _ = 0

-- it counts as one
abbrev pub own_trade : ℕ → Entry → ℕ
own_trade u e = of_trade u (λ r. 1) e

module _ (network : List Variable) (H : List Entry) where
  abbrev pub weight_at : TradeRatio → ℕ → ℕ
  weight_at r k = total network H (holds (event_at r k))

  -- of a value of a trade's variable, the bits of its units, and those of a whole unit
  abbrev pub value_gained : (ℕ → ℕ) → TradeRatio → ℕ → ℕ
  value_gained bits r k = weight_at r k * bits (units_of r k)

  abbrev pub value_owed : TradeRatio → ℕ → ℕ
  value_owed r k = weight_at r k * unit_bits

  -- of its first values
  abbrev pub values_gained : (ℕ → ℕ) → TradeRatio → ℕ → ℕ
  values_gained bits r n = plus_over ◌+◌ 0 (value_gained bits r) (numbers_below n)

  abbrev pub values_owed : TradeRatio → ℕ → ℕ
  values_owed r n = plus_over ◌+◌ 0 (value_owed r) (numbers_below n)

  -- what an entry gains a user, and what it makes the user owe: by bits, and by a trade
  abbrev pub entry_gained : (ℕ → ℕ) → ℕ → Entry → ℕ
  entry_gained bits u e = total network H always * (bits_in u e * 2 ^ 20)
      + of_trade u (λ r. values_gained bits r (length r.factors)) e

  abbrev pub entry_owed : ℕ → Entry → ℕ
  entry_owed u e = total network H always * (bits_out u e * 2 ^ 20)
      + of_trade u (λ r. values_owed r (length r.factors)) e
