-- The exact joint table of a history.
use Rattle.std.specs.Prelude.{ℕ, ◌*◌, ◌<◌, ◌^◌, List, Bool, ◌&&◌, ◌==◌, filter, length, sum_by}
use Rattle.mk_net.specs.Network.{Variable}
use Rattle.mk_states.specs.States.{product_by}
use Rattle.mk_states.specs.InitialWeight.{all_states, initial_weight}
use Rattle.mk_states.specs.Events.{holds}
use Rattle.mk_states.specs.Ratios.{ratio_at}
use Rattle.mk_exact.specs.History.{Entry, UserTrade, trades, resolutions}

-- the initial weight times the ratio of every trade
abbrev pub weight : List Variable → List Entry → List ℕ → ℕ
weight network H s = initial_weight network s * product_by (λ (t : UserTrade). ratio_at t.ratio s) (trades H)

-- whether a state has the value of every resolution
abbrev pub is_possible : List Entry → List ℕ → Bool
is_possible H s = holds (resolutions H) s

-- the possible states that pass a test
abbrev pub possible_states : List Variable → List Entry → (List ℕ → Bool) → List (List ℕ)
possible_states network H test = filter (λ s. is_possible H s && test s) (all_states network)

-- no possible state passes a test
abbrev pub cannot_come : List Variable → List Entry → (List ℕ → Bool) → Bool
cannot_come network H test = length (possible_states network H test) == 0

-- their weights together
abbrev pub total : List Variable → List Entry → (List ℕ → Bool) → ℕ
total network H test = sum_by (weight network H) (possible_states network H test)

-- the small case: the weights of all states together, possible or not, are below 2^63
abbrev pub IsSmall : List Variable → List Entry → Type 0
IsSmall network H = sum_by (weight network H) (all_states network) < 2 ^ 63
