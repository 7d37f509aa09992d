-- The states that are listed: each gives each variable one of its values.
use Rattle.std.proofs.Common.{◌≡◌, ℕ, suc, zero, ◌<◌, ◌≤◌, true, List, [], ◌∷◌, map, length, slice_index, refl, ap, arith}
use Rattle.std.specs.List.{AllByRecursion}
use Rattle.std.proofs.lemmas.List.{length-map}
use Rattle.std.proofs.lemmas.List.Elements.{recursion_from_All}
use Rattle.std.proofs.lemmas.Bool.{leb-true}
use Rattle.mk_net.specs.Network.{Variable, sizes}
use Rattle.mk_states.specs.States.{states, numbers_below, IsState}
use Rattle.mk_states.specs.InitialWeight.{value_at, can_come, initial_weight, all_states}
use Rattle.mk_states.proofs.Sums.{kept_each, each_number, each-map, each-flat_map, each_weaker}

-- every listed state gives each variable one of its values
state_cons : (size v : ℕ) (sizes s : List ℕ) → v < size → IsState sizes s → IsState (size ∷ sizes) (v ∷ s)
state_cons size v sizes s h is_state = record { one_each = ap suc is_state.one_each; in_range = at }
  where
    at : (k : ℕ) → k < length (size ∷ sizes) → slice_index (v ∷ s) k < slice_index (size ∷ sizes) k
    at zero p = h
    at (suc k) p = is_state.in_range k (omega arith)

pub states_are : (sizes : List ℕ) → AllByRecursion (IsState sizes) (states sizes)
states_are [] = (record { one_each = refl; in_range = λ k p. absurd (omega arith) }, tt)
states_are (size ∷ sizes) = each-flat_map (IsState (size ∷ sizes)) (λ v. map (λ s. v ∷ s) (states sizes)) (numbers_below size)
    (each_number (λ v. AllByRecursion (IsState (size ∷ sizes)) (map (λ s. v ∷ s) (states sizes))) size 0 (λ v p q. with_first v (omega arith) (states_are sizes)))
  where
    with_first : (v : ℕ) → v < size → AllByRecursion (IsState sizes) (states sizes) → AllByRecursion (IsState (size ∷ sizes)) (map (λ s. v ∷ s) (states sizes))
    with_first v p h = each-map (IsState (size ∷ sizes)) (λ s. v ∷ s) (states sizes) (each_weaker (IsState sizes) (λ s. IsState (size ∷ sizes) (v ∷ s)) (λ s is_state. state_cons size v sizes s p is_state) (states sizes) h)

-- each state that can come does so too, and has some weight
pub all_can : (network : List Variable) → AllByRecursion (λ s. IsState (sizes network) s × (1 ≤ initial_weight network s)) (all_states network)
all_can network = recursion_from_All Good (all_states network) (kept_each (can_come network) Good (states (sizes network))
    (each_weaker (IsState (sizes network)) (λ s. can_come network s ≡ true → Good s) (λ s is_state e. (is_state, leb-true 1 (initial_weight network s) e)) (states (sizes network)) (states_are (sizes network))))
  where
    Good : List ℕ → Type 0
    Good s = IsState (sizes network) s × (1 ≤ initial_weight network s)

pub all_are : (network : List Variable) → AllByRecursion (IsState (sizes network)) (all_states network)
all_are network = each_weaker (λ s. IsState (sizes network) s × (1 ≤ initial_weight network s)) (IsState (sizes network)) (λ s h. h.0) (all_states network) (all_can network)

pub as_many : (network : List Variable) → length (sizes network) ≡ length network
as_many network = length-map network (λ (w : Variable). length w.values)

-- a state's value of a variable is one of the variable's
pub value_below : (network : List Variable) (v : ℕ) (s : List ℕ) → v < length network → IsState (sizes network) s → value_at s v < slice_index (sizes network) v
value_below network v s within is_state = is_state.in_range v (omega (arith, as_many network))
