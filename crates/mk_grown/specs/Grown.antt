-- A network with one variable more, behind the others.
use Rattle.std.specs.Prelude.{◌≡◌, ℕ, List, [], ◌∷◌, ◌++◌, Bool, length, map, filter, nat_le}
use Rattle.std.specs.Prelude.{slice_index, slice_index_or}
use Rattle.mk_net.specs.Network.{Variable, sizes}
use Rattle.mk_states.specs.States.{numbers_below, IsState}
use Rattle.mk_states.specs.InitialWeight.{row_number}

abbrev pub with_variable : List Variable → Variable → List Variable
with_variable network v = network ++ v ∷ []

-- the share of a value of the added variable, in a state of the others
abbrev pub share_of : List Variable → Variable → List ℕ → ℕ → ℕ
share_of network v s x =
    slice_index (slice_index_or v.rows (row_number (sizes network) v.parents s) []) x

-- the values of the added variable whose share is not nothing there
abbrev pub values_behind : List Variable → Variable → List ℕ → List ℕ
values_behind network v s =
    filter (λ x. nat_le 1 (share_of network v s x)) (numbers_below (length v.values))

-- a state with each of them
abbrev pub with_each_value : List Variable → Variable → List ℕ → List (List ℕ)
with_each_value network v s = map (λ x. s ++ x ∷ []) (values_behind network v s)

-- a test that does not look at the added variable
abbrev pub IsBlind : List Variable → (List ℕ → Bool) → Type 0
IsBlind network test = (s : List ℕ) (x : ℕ) → IsState (sizes network) s → test (s ++ x ∷ [])
    ≡ test s
