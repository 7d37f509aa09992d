-- Weights of all states: each change multiplies them, and four variables weigh too much from the
-- start.
use Rattle.std.proofs.Common.{◌≡◌, ℕ, ◌*◌, ◌^◌, ◌<◌, ◌≤◌, List, [], ◌∷◌, ◌++◌, length}
use Rattle.std.proofs.Common.{sum_by, refl, sym, ◌∙◌, arith, mul-one}
use Rattle.std.proofs.Common.{mul-le-mul_left}
use Rattle.std.proofs.lemmas.List.Sums.{sum_by-cons}
use Rattle.std.proofs.Math.Nat.{pow-le-pow_right}
use Rattle.std.specs.List.{AllByRecursion}
use Rattle.mk_net.specs.Bounds.{million}
use Rattle.mk_net.specs.Network.{Variable, sizes, IsNetwork}
use Rattle.mk_states.specs.States.{IsState, product_by}
use Rattle.mk_states.specs.InitialWeight.{all_states, initial_weight, initial_total}
use Rattle.mk_states.specs.Ratios.{ratio_at}
use Rattle.mk_exact.specs.History.{Entry, Join, Deposit, Withdraw, Trade, Resolve, Settle, Add}
use Rattle.mk_exact.specs.History.{UserTrade, trades, users}
use Rattle.mk_exact.specs.Weight.{weight, IsSmall}
use Rattle.mk_exact.specs.Proper.{IsTradeOf, IsProper}
use Rattle.mk_states.proofs.Sums.{product_by_pos, each_weaker}
use Rattle.mk_exact.proofs.Positive.{ratio_pos}
use Rattle.mk_states.proofs.Listed.{all_are}
use Rattle.mk_exact.proofs.Millions.{initial_total_is}
use Rattle.mk_exact.proofs.After.{weight_kept, weight_traded}
use Rattle.mk_small.specs.Walks.{times}

-- a sum of terms that are greater one by one is greater
pub sum_by_grows : {X : Type 0} (f g : X → ℕ) (xs : List X)
    → AllByRecursion (λ x. f x ≤ g x) xs → sum_by f xs ≤ sum_by g xs
sum_by_grows f g [] h = omega arith
sum_by_grows f g (x ∷ xs) h =
    omega (arith, sum_by-cons f x xs, sum_by-cons g x xs, h.0, sum_by_grows f g xs h.1)

-- a product with what is not zero is at least as great
pub grown : (n m : ℕ) → 1 ≤ m → n ≤ n * m
grown n m h = omega (arith, mul-le-mul_left n h)

-- a weight is at least the initial one
at_least_initial : (network : List Variable) (H : List Entry) (s : List ℕ)
    → IsProper network H → IsState (sizes network) s
    → initial_weight network s ≤ weight network H s
at_least_initial network H s proper is_state =
    grown (initial_weight network s) (product_by (λ (t : UserTrade). ratio_at t.ratio s) (trades H))
    (product_by_pos (λ (t : UserTrade). ratio_at t.ratio s) (trades H)
    (each_weaker (IsTradeOf network (length (users H))) (λ (t : UserTrade). 1 ≤ ratio_at t.ratio s)
    (ratio_pos network (length (users H)) s is_state) (trades H) proper.trades_fit))

-- so with more than three variables no history is small
pub many_are_large : (network : List Variable) (H : List Entry) → IsNetwork network
    → IsProper network H → 3 < length network → IsSmall network H → ⊥
many_are_large network H net proper many small = omega (arith, small, initial, total, powers, much)
  where
    initial : initial_total network ≡ million ^ length network
    initial = initial_total_is network net

    total : initial_total network ≤ sum_by (weight network H) (all_states network)
    total = sum_by_grows (initial_weight network) (weight network H) (all_states network)
        (each_weaker (IsState (sizes network)) (λ s. initial_weight network s ≤ weight network H s)
        (λ s is_state. at_least_initial network H s proper is_state) (all_states network)
        (all_are network))

    powers : million ^ 4 ≤ million ^ length network
    powers = let q : 4 ≤ length network = omega arith in
        pow-le-pow_right {n = million} (omega arith) q

    much : 2 ^ 63 ≤ million ^ 4
    much = omega arith

-- a change multiplies the weight of a state
pub weight_times : (network : List Variable) (H : List Entry) (e : Entry) (s : List ℕ)
    → weight network (H ++ e ∷ []) s ≡ weight network H s * times e s
weight_times network H (Join name) s =
    weight_kept network H (Join name) s refl ∙ sym (mul-one (weight network H s))
weight_times network H (Deposit user bits) s =
    weight_kept network H (Deposit user bits) s refl ∙ sym (mul-one (weight network H s))
weight_times network H (Withdraw user bits) s =
    weight_kept network H (Withdraw user bits) s refl ∙ sym (mul-one (weight network H s))
weight_times network H (Trade user ratio) s = weight_traded network H user ratio s
weight_times network H (Resolve pair) s =
    weight_kept network H (Resolve pair) s refl ∙ sym (mul-one (weight network H s))
weight_times network H (Settle payments) s =
    weight_kept network H (Settle payments) s refl ∙ sym (mul-one (weight network H s))
weight_times network H (Add addition) s =
    weight_kept network H (Add addition) s refl ∙ sym (mul-one (weight network H s))
