-- The initial weights as a meaning: the product of all factors in a state is its initial weight.
use Rattle.std.proofs.Common.{◌≡◌, ℕ, zero, suc, ◌*◌, ◌<◌, ◌≤◌, Bool, true, false, ◌&&◌, List, [], ◌∷◌, ◌++◌, map, length, filter, sum_by, refl, sym, ap, ◌∙◌, subst, arith}
use Rattle.std.proofs.Math.Path.{fun_ext}
use Rattle.std.specs.Prelude.{nat_le}
use Rattle.std.proofs.lemmas.Bool.{le-leb}
use Rattle.std.proofs.lemmas.List.FromFn.{length-map-range_with_len}
use Rattle.mk_net.specs.declared.words.Pair.{Pair}
use Rattle.mk_net.specs.Bounds.{max_variables, number_limit}
use Rattle.mk_net.specs.Network.{Variable, sizes, IsNetwork}
use Rattle.mk_states.specs.States.{states, numbers_below, plus_over, IsState}
use Rattle.mk_states.specs.InitialWeight.{all_states, can_come, initial_weight, initial_total, value_at}
use Rattle.mk_states.specs.Events.{always}
use Rattle.mk_exact.specs.History.{Entry, Join, Deposit, Withdraw, Trade, Resolve, Settle, Add}
use Rattle.mk_exact.specs.Weight.{is_possible, possible_states}
use Rattle.mk_exact.specs.Risk.{least_weight}
use Rattle.mk_states.proofs.Sums.{plus_over-map, each_weaker}
use Rattle.mk_states.proofs.Listed.{all_can}
use Rattle.mk_exact.proofs.Single.{over_all}
use Rattle.mk_exact.proofs.After.{resolutions_kept, resolutions_more}
use Rattle.mk_cell.specs.Least.{least}
use Rattle.mk_tree.specs.Given.{GivenTree}
use Rattle.mk_engine.specs.Meaning.{Meaning, Factor, RowsOf, factor_there, exact_belief, whole_sum}
use Rattle.mk_engine.proofs.Cases.{product_at, belief_where}
use Rattle.mk_beliefs.specs.Meanings.{rows_of, grown_rows, if_present}
use Rattle.mk_beliefs.proofs.Exact.{without_nothing}
use Rattle.mk_beliefs.proofs.Gained.{least_lawful, each_of, present_over}

module _ (network : List Variable) (tree : GivenTree) where
  module _ (H : List Entry) where
    product_is_initial : (s : List ℕ) → product_at (rows_of network tree H) s ≡ initial_weight network s
    product_is_initial s = plus_over-map ◌*◌ 1 (λ (f : Factor). factor_there network f (value_at s)) RowsOf (numbers_below (length network))

    passes : List ℕ → Bool
    passes s = is_possible H s && always s

    none_there : (s : List ℕ) → can_come network s ≡ false → initial_weight network s ≡ 0
    none_there s e = nothing (initial_weight network s) e
      where
        nothing : (n : ℕ) → nat_le 1 n ≡ false → n ≡ 0
        nothing zero e = refl
        nothing (suc n) e = absurd (let some : nat_le 1 (suc n) ≡ true = le-leb 1 (suc n) (omega arith) in cc)

    pub rows_are_least : least_weight network H ≡ if_present (exact_belief least (rows_of network tree H) [])
    unfolding passes
    rows_are_least = sym (ap if_present (belief_where least (rows_of network tree H) []
        ∙ ap (λ (w : List ℕ → ℕ). plus_over least 0 w (filter passes (states (sizes network)))) (fun_ext product_is_initial)
        ∙ without_nothing least least_lawful (initial_weight network) passes (can_come network) (states (sizes network)) none_there)
        ∙ present_over (initial_weight network) (possible_states network H always)
        (each_of (λ s. 1 ≤ initial_weight network s) passes (all_states network)
        (each_weaker (λ s. IsState (sizes network) s × (1 ≤ initial_weight network s)) (λ s. 1 ≤ initial_weight network s) (λ s h. h.1) (all_states network) (all_can network))))

    pub rows_are_small : initial_total network < number_limit → whole_sum (rows_of network tree H) < number_limit
    rows_are_small small = subst (λ n. n < number_limit) (over_all network (initial_weight network) (λ s e. e) ∙ ap (λ (w : List ℕ → ℕ). sum_by w (states (sizes network))) (sym (fun_ext product_is_initial))) small

    pub rows_are_few : IsNetwork network → length (rows_of network tree H).factors ≤ max_variables
    rows_are_few net = omega (arith, length-map-range_with_len RowsOf 0 (length network), net.few)

    rows_with : List Pair → Meaning
    rows_with known = record { network = network; tree = tree; factors = map RowsOf (numbers_below (length network)); known = known }

    pub rows_grow : (e : Entry) → rows_of network tree (H ++ e ∷ []) ≡ grown_rows e (rows_of network tree H)
    unfolding rows_with
    rows_grow (Join name) = ap rows_with (resolutions_kept H (Join name) refl)
    rows_grow (Deposit user bits) = ap rows_with (resolutions_kept H (Deposit user bits) refl)
    rows_grow (Withdraw user bits) = ap rows_with (resolutions_kept H (Withdraw user bits) refl)
    rows_grow (Trade user ratio) = ap rows_with (resolutions_kept H (Trade user ratio) refl)
    rows_grow (Resolve pair) = ap rows_with (resolutions_more H pair)
    rows_grow (Settle payments) = ap rows_with (resolutions_kept H (Settle payments) refl)
    rows_grow (Add addition) = ap rows_with (resolutions_kept H (Add addition) refl)

  pub rows_open : rows_of network tree [] ≡ record { network = network; tree = tree; factors = map RowsOf (numbers_below (length network)); known = [] }
  rows_open = refl
