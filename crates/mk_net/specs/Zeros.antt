-- Shares of nothing: which variables of a network have one in some row.
use Rattle.std.specs.Prelude.{ℕ, ◌<◌, ◌≤◌, Bool, List, length, filter, ◌==◌, All}
use Rattle.std.specs.List.{list_any, range_with_len}
use Rattle.mk_net.specs.Network.{Variable}
use Rattle.mk_net.specs.Named.{variable_at}

-- some row of a variable has a share of nothing
abbrev pub has_zero : List Variable → ℕ → Bool
has_zero network k = list_any (λ (row : List ℕ). list_any (λ share. share == 0) row) (variable_at network k).rows

-- the variables that have one, in their order
abbrev pub with_zeros : List Variable → List ℕ
with_zeros network = filter (has_zero network) (range_with_len 0 (length network))

-- each share of a network is at least one part in a million
abbrev pub HasNoZeros : List Variable → Type 0
HasNoZeros network = (k : ℕ) → k < length network → All (All (λ share. 1 ≤ share)) (variable_at network k).rows
