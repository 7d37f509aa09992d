-- What one variable more leaves. Each law is the contract of a function of this crate, and so
-- proved.
use Rattle.std.specs.Prelude.{◌≡◌, ℕ, ◌*◌, List, Bool}
use Rattle.std.specs.List.{flat_map}
use Rattle.mk_net.specs.Bounds.{million}
use Rattle.mk_net.specs.Network.{Variable, IsNetwork}
use Rattle.mk_net.specs.Asked.{Asked}
use Rattle.mk_states.specs.InitialWeight.{all_states, initial_total}
use Rattle.mk_exact.specs.History.{Entry}
use Rattle.mk_exact.specs.Weight.{total}
use Rattle.mk_exact.specs.Factors.{least_gain}
use Rattle.mk_states.specs.OfNetwork.{IsQuestionOf}
use Rattle.mk_exact.specs.Proper.{IsProper}
use Rattle.mk_exact.specs.Sound.{IsSound}
use Rattle.mk_exact.specs.Prices.{exact_price}
use Rattle.mk_grown.specs.Grown.{with_variable, with_each_value, IsBlind}

-- the states that can come are those that could, with each value of the added variable behind them
-- that has a share there
abbrev pub StatesGrow : Type 0
StatesGrow = (network : List Variable) (v : Variable) → IsNetwork (with_variable network v)
    → all_states (with_variable network v)
    ≡ flat_map (with_each_value network v) (all_states network)

-- the total weight of what does not look at the added variable is a million times what it was
abbrev pub TotalsGrow : Type 0
TotalsGrow = (network : List Variable) (v : Variable) (H : List Entry) (test : List ℕ → Bool)
    → IsNetwork (with_variable network v) → IsProper network H
    → IsBlind network test
    → total (with_variable network v) H test ≡ million * total network H test

-- and so is that of the initial weights
abbrev pub InitialTotalGrows : Type 0
InitialTotalGrows = (network : List Variable) (v : Variable) → IsNetwork (with_variable network v)
    → initial_total (with_variable network v) ≡ million * initial_total network

-- a user's least gain is as it was
abbrev pub LeastGainsStay : Type 0
LeastGainsStay = (network : List Variable) (v : Variable) (H : List Entry) (u : ℕ)
    (test : List ℕ → Bool)
    → IsNetwork (with_variable network v) → IsProper network H
    → IsBlind network test
    → least_gain (with_variable network v) H u test ≡ least_gain network H u test

-- a proper history stays proper
abbrev pub ProperGrows : Type 0
ProperGrows = (network : List Variable) (v : Variable) (H : List Entry)
    → IsNetwork (with_variable network v) → IsProper network H
    → IsProper (with_variable network v) H

-- and a sound one sound
abbrev pub SoundGrows : Type 0
SoundGrows = (network : List Variable) (v : Variable) (H : List Entry)
    → IsNetwork (with_variable network v)
    → IsProper network H → IsSound network H
    → IsSound (with_variable network v) H

-- each exact price of an earlier question is the same fraction, multiplied out
abbrev pub PricesStay : Type 0
PricesStay = (network : List Variable) (v : Variable) (H : List Entry) (asked : Asked)
    → IsNetwork (with_variable network v) → IsProper network H
    → IsQuestionOf network asked
    → (exact_price (with_variable network v) H asked).num * (exact_price network H asked).den
    ≡ (exact_price network H asked).num * (exact_price (with_variable network v) H asked).den
