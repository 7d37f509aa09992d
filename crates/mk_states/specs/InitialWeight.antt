-- The initial weight of a state: the product of the shares that it picks.
use Rattle.std.specs.Prelude.{ℕ, ◌+◌, ◌*◌, List, Bool, [], length, slice_index, slice_index_or, fold, sum_by, filter, nat_le}
use Rattle.mk_net.specs.Network.{Variable, sizes}
use Rattle.mk_net.specs.Named.{variable_at}
use Rattle.mk_states.specs.States.{states, numbers_below, product_by}

-- the value that a state gives a variable
abbrev pub value_at : List ℕ → ℕ → ℕ
value_at s v = slice_index s v

-- the number of the row for the parents' values in a state, the last parent's value changing fastest
abbrev pub row_number : List ℕ → List ℕ → List ℕ → ℕ
row_number values parents s = fold (λ row p. row * slice_index values p + value_at s p) 0 parents

-- the share of variable k that a state picks
abbrev pub entry : List Variable → ℕ → List ℕ → ℕ
entry network k s =
    let v = variable_at network k in
    slice_index (slice_index_or v.rows (row_number (sizes network) v.parents s) []) (value_at s k)

-- the product of the shares that a state picks
abbrev pub initial_weight : List Variable → List ℕ → ℕ
initial_weight network s = product_by (λ k. entry network k s) (numbers_below (length network))

-- a state can come where none of the shares that it picks is nothing
abbrev pub can_come : List Variable → List ℕ → Bool
can_come network s = nat_le 1 (initial_weight network s)

-- every state of a network: the lists that give each variable one of its values, and that can come
abbrev pub all_states : List Variable → List (List ℕ)
all_states network = filter (can_come network) (states (sizes network))

-- the initial weights of all states together
abbrev pub initial_total : List Variable → ℕ
initial_total network = sum_by (initial_weight network) (all_states network)
