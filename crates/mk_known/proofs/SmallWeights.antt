-- Weights of all states: each change leaves them at least as great, and so does a question more.
use Rattle.std.proofs.Common.{◌≡◌, ℕ, ◌+◌, ◌*◌, ◌≤◌, List, [], ◌∷◌, ◌++◌, None, length}
use Rattle.std.proofs.Common.{sum_by, refl, sym, ap, ap₂, ◌∙◌, subst, arith}
use Rattle.std.proofs.Common.{lt_of_le_of_lt}
use Rattle.std.proofs.Math.Path.{fun_ext}
use Rattle.std.proofs.lemmas.List.Sums.{sum_by-cons}
use Rattle.std.proofs.lemmas.List.Elements.{filter_map-append}
use Rattle.std.specs.List.{AllByRecursion}
use Rattle.mk_net.specs.Bounds.{million}
use Rattle.mk_net.specs.Network.{Variable, sizes, IsNetwork}
use Rattle.mk_states.specs.States.{IsState, plus_over, product_by}
use Rattle.mk_states.specs.InitialWeight.{all_states, initial_weight}
use Rattle.mk_states.specs.Ratios.{ratio_at}
use Rattle.mk_exact.specs.History.{Entry, Join, Deposit, Withdraw, Trade, Resolve, Settle, Add}
use Rattle.mk_exact.specs.History.{UserTrade, trade_in, addition_in, trades, users}
use Rattle.mk_exact.specs.Market.{Market, with_entry}
use Rattle.mk_exact.specs.Weight.{weight, IsSmall}
use Rattle.mk_exact.specs.Proper.{IsTradeOf, IsProper}
use Rattle.mk_states.proofs.Sums.{each_weaker}
use Rattle.mk_states.proofs.Sums.{sums_are_plus, sum_by_is, sum_by-times}
use Rattle.mk_exact.proofs.Positive.{ratio_pos}
use Rattle.mk_states.proofs.Listed.{all_are}
use Rattle.mk_exact.proofs.After.{weight_kept}
use Rattle.mk_grown.specs.Grown.{with_variable, share_of, values_behind}
use Rattle.mk_grown.proofs.Entries.{weight_more, ratios_kept, behind_whole}
use Rattle.mk_grown.proofs.States.{plus_over_more}
use Rattle.mk_small.specs.Walks.{times}
use Rattle.mk_small.proofs.Weights.{sum_by_grows, grown, weight_times}

-- and one of the same terms is the same
sum_by_same : {X : Type 0} (f g : X → ℕ) (xs : List X) → ((x : X) → f x ≡ g x) → sum_by f xs ≡ sum_by g xs
sum_by_same f g [] h = refl
sum_by_same f g (x ∷ xs) h = omega (arith, sum_by-cons f x xs, sum_by-cons g x xs, h x, sum_by_same f g xs h)

last_of : {X : Type 0} (P : X → Type 0) (xs ys : List X) → AllByRecursion P (xs ++ ys) → AllByRecursion P ys
last_of P [] ys h = h
last_of P (x ∷ xs) ys h = last_of P xs ys h.1

-- in a state of the network by one at least, where it is in range
times_positive : (network : List Variable) (joined : ℕ) (e : Entry) (s : List ℕ) → IsState (sizes network) s → AllByRecursion (IsTradeOf network joined) (trades (e ∷ [])) → 1 ≤ times e s
times_positive network joined (Join name) s is_state h = omega arith
times_positive network joined (Deposit user bits) s is_state h = omega arith
times_positive network joined (Withdraw user bits) s is_state h = omega arith
times_positive network joined (Trade user ratio) s is_state h = ratio_pos network joined s is_state (record { user = user; ratio = ratio }) h.0
times_positive network joined (Resolve pair) s is_state h = omega arith
times_positive network joined (Settle payments) s is_state h = omega arith
times_positive network joined (Add addition) s is_state h = omega arith

-- behind a change that is no trade the weights are as they were
pub same_weights : (network : List Variable) (H : List Entry) (e : Entry) → trade_in e ≡ None
    → sum_by (weight network (H ++ e ∷ [])) (all_states network)
    ≡ sum_by (weight network H) (all_states network)
same_weights network H e none =
    sum_by_same (weight network (H ++ e ∷ [])) (weight network H) (all_states network)
    (λ s. weight_kept network H e s none)

-- beside one network a history that is small was small before its last change
small_beside : (network : List Variable) (H : List Entry) (e : Entry)
    → IsProper network (H ++ e ∷ []) → IsSmall network (H ++ e ∷ []) → IsSmall network H
small_beside network H e proper small =
    lt_of_le_of_lt (sum_by_grows (weight network H) (weight network (H ++ e ∷ [])) (all_states network)
    (each_weaker (IsState (sizes network))
    (λ s. weight network H s ≤ weight network (H ++ e ∷ []) s) at (all_states network)
    (all_are network))) small
  where
    at : (s : List ℕ) → IsState (sizes network) s → weight network H s ≤ weight network (H ++ e ∷ []) s
    at s is_state = rw (weight_times network H e s) (grown (weight network H s) (times e s)
        (times_positive network (length (users (H ++ e ∷ []))) e s is_state (last_of (IsTradeOf network (length (users (H ++ e ∷ [])))) (trades H) (trades (e ∷ []))
        (subst (AllByRecursion (IsTradeOf network (length (users (H ++ e ∷ []))))) (filter_map-append trade_in H (e ∷ [])) proper.trades_fit))))

-- ---- one variable more

-- the longer states that have an earlier one in front weigh a million times as much together
behind_weighs : (network : List Variable) (v : Variable) (H : List Entry)
    → IsNetwork (with_variable network v) → IsProper network H → (s : List ℕ)
    → IsState (sizes network) s
    → sum_by (λ x. weight (with_variable network v) H (s ++ x ∷ [])) (values_behind network v s)
    ≡ weight network H s * million
behind_weighs network v H net proper s is_state =
    ap (λ (f : ℕ → ℕ). sum_by f (values_behind network v s)) (fun_ext each)
    ∙ sum_by-times (weight network H s) (share_of network v s) (values_behind network v s)
    ∙ ap (λ n. weight network H s * n) (behind_whole network v net s is_state)
  where
    out : (w share r : ℕ) → (w * share) * r ≡ (w * r) * share
    out w share r = omega arith

    each : (x : ℕ) → weight (with_variable network v) H (s ++ x ∷ [])
        ≡ weight network H s * share_of network v s x
    each x = ap₂ ◌*◌ (weight_more network v s x is_state net)
        (ratios_kept network v s x is_state (length (users H)) (trades H) proper.trades_fit)
        ∙ out (initial_weight network s) (share_of network v s x)
        (product_by (λ (t : UserTrade). ratio_at t.ratio s) (trades H))

-- so all states together weigh no less
weights_more : (network : List Variable) (v : Variable) (H : List Entry)
    → IsNetwork (with_variable network v) → IsProper network H
    → sum_by (weight network H) (all_states network)
    ≤ sum_by (weight (with_variable network v) H) (all_states (with_variable network v))
weights_more network v H net proper =
    subst (λ n. sum_by (weight network H) (all_states network) ≤ n) (sym split)
    (sum_by_grows (weight network H) behind (all_states network)
    (each_weaker (IsState (sizes network)) (λ s. weight network H s ≤ behind s) less
    (all_states network) (all_are network)))
  where
    behind : List ℕ → ℕ
    behind s = sum_by (λ x. weight (with_variable network v) H (s ++ x ∷ []))
        (values_behind network v s)

    less : (s : List ℕ) → IsState (sizes network) s → weight network H s ≤ behind s
    less s is_state = subst (λ n. weight network H s ≤ n)
        (sym (behind_weighs network v H net proper s is_state))
        (grown (weight network H s) million (omega arith))

    split : sum_by (weight (with_variable network v) H) (all_states (with_variable network v))
        ≡ sum_by behind (all_states network)
    split = sum_by_is (weight (with_variable network v) H) (all_states (with_variable network v))
        ∙ plus_over_more network v net ◌+◌ 0 sums_are_plus (weight (with_variable network v) H)
        ∙ ap (λ (g : List ℕ → ℕ). plus_over ◌+◌ 0 g (all_states network))
        (fun_ext (λ s. sym (sum_by_is (λ x. weight (with_variable network v) H (s ++ x ∷ []))
        (values_behind network v s)))) ∙ sym (sum_by_is behind (all_states network))

-- a change that adds no question leaves the market
pub no_addition : (market : Market) (e : Entry) → addition_in e ≡ None
    → with_entry e market ≡ market
no_addition market (Join name) none = refl
no_addition market (Deposit user bits) none = refl
no_addition market (Withdraw user bits) none = refl
no_addition market (Trade user ratio) none = refl
no_addition market (Resolve pair) none = refl
no_addition market (Settle payments) none = refl
no_addition market (Add addition) none = absurd (cc)

-- a history that is small was small before its last change, in the market as it stood
pub small_before : (market : Market) (H : List Entry) (e : Entry)
    → IsNetwork (with_entry e market).network → IsProper market.network H
    → IsProper (with_entry e market).network (H ++ e ∷ [])
    → IsSmall (with_entry e market).network (H ++ e ∷ []) → IsSmall market.network H
small_before market H (Join name) net proper later small =
    small_beside market.network H (Join name) later small
small_before market H (Deposit user bits) net proper later small =
    small_beside market.network H (Deposit user bits) later small
small_before market H (Withdraw user bits) net proper later small =
    small_beside market.network H (Withdraw user bits) later small
small_before market H (Trade user ratio) net proper later small =
    small_beside market.network H (Trade user ratio) later small
small_before market H (Resolve pair) net proper later small =
    small_beside market.network H (Resolve pair) later small
small_before market H (Settle payments) net proper later small =
    small_beside market.network H (Settle payments) later small
small_before market H (Add addition) net proper later small =
    let network = market.network ++ addition.variable ∷ [] in
    lt_of_le_of_lt (weights_more market.network addition.variable H net proper)
    (small_beside network H (Add addition) later small)
