-- In a proper history no weight of a state that can come is nothing.
use Rattle.std.proofs.Common.{ℕ, ◌<◌, ◌≤◌, Bool, true, false, cond, List, length, All, arith}
use Rattle.std.proofs.Math.Nat.{one-le-mul}
use Rattle.std.proofs.lemmas.List.Elements.{All-from_recursion}
use Rattle.mk_net.specs.Network.{Variable, sizes, IsNetwork}
use Rattle.mk_states.specs.States.{IsState}
use Rattle.mk_states.specs.InitialWeight.{all_states, value_at, initial_weight}
use Rattle.mk_states.specs.Events.{holds}
use Rattle.mk_states.specs.Ratios.{unit, ratio_at}
use Rattle.mk_exact.specs.History.{Entry, UserTrade, users, trades}
use Rattle.mk_exact.specs.Weight.{weight}
use Rattle.mk_exact.specs.Proper.{IsProper, IsTradeOf}
use Rattle.mk_states.proofs.Sums.{each_weaker, product_by_pos}
use Rattle.mk_states.proofs.Listed.{all_can, value_below}

-- a trade in range has units for each state
pub ratio_pos : (network : List Variable) (joined : ℕ) (s : List ℕ) → IsState (sizes network) s → (t : UserTrade) → IsTradeOf network joined t → 1 ≤ ratio_at t.ratio s
ratio_pos network joined s is_state t h = either (holds t.ratio.condition s) (All-from_recursion (λ units. 1 ≤ units) t.ratio.factors h.ratio.positive (value_at s t.ratio.variable) 0 inside)
  where
    inside : value_at s t.ratio.variable < length t.ratio.factors
    inside = omega (arith, h.ratio.one_each, value_below network t.ratio.variable s h.ratio.variable is_state)

    either : (b : Bool) {n : ℕ} → 1 ≤ n → 1 ≤ cond b n unit
    either true p = p
    either false p = omega arith

pub weights_positive : (network : List Variable) (H : List Entry) → IsNetwork network → IsProper network H → All (λ s. 1 ≤ weight network H s) (all_states network)
weights_positive network H net proper = All-from_recursion (λ s. 1 ≤ weight network H s) (all_states network)
    (each_weaker (λ s. IsState (sizes network) s × (1 ≤ initial_weight network s)) (λ s. 1 ≤ weight network H s) at (all_states network) (all_can network))
  where
    at : (s : List ℕ) → IsState (sizes network) s × (1 ≤ initial_weight network s) → 1 ≤ weight network H s
    at s h = one-le-mul h.1
        (product_by_pos (λ (t : UserTrade). ratio_at t.ratio s) (trades H) (each_weaker (IsTradeOf network (length (users H))) (λ (t : UserTrade). 1 ≤ ratio_at t.ratio s) (ratio_pos network (length (users H)) s h.0) (trades H) proper.trades_fit))
