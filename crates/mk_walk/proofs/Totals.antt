-- The total of an event, state by state.
use Rattle.std.proofs.Common.{◌≡◌, ℕ, ◌+◌, ◌-◌, ◌*◌, ◌^◌, ◌<◌, ◌≤◌, min, cond, ◌&&◌, List, [], ◌∷◌, ◌++◌, Vec, length, get_or, take, take_all, sum_by, sym, ap, ap₂, ◌∙◌, subst, arith}
use Rattle.std.proofs.Math.Path.{fun_ext}
use Rattle.std.specs.declared.alloc.Global.{Global}
use Rattle.std.proofs.lemmas.List.{map_more, length-map, get_or-map}
use Rattle.std.proofs.lemmas.List.Sums.{sum_by_push}
use Rattle.std.proofs.lemmas.List.Elements.{All-from_recursion}
use Rattle.mk_net.specs.declared.words.Pair.{Pair}
use Rattle.mk_net.specs.Network.{Variable, sizes}
use Rattle.mk_states.specs.States.{IsState, product_by}
use Rattle.mk_states.specs.InitialWeight.{all_states, initial_weight}
use Rattle.mk_states.specs.Events.{holds}
use Rattle.mk_states.specs.Ratios.{ratio_at}
use Rattle.mk_exact.specs.History.{Entry, UserTrade}
use Rattle.mk_exact.specs.Weight.{weight, total}
use Rattle.mk_states.proofs.Sums.{plus_over-map}
use Rattle.mk_exact.proofs.Totals.{total_is}
use Rattle.mk_states.proofs.Listed.{all_are}
use Rattle.mk_walk.specs.declared.weight.WalkTrade.{WalkTrade}
use Rattle.mk_walk.specs.Lists.{lists}
use Rattle.mk_walk.specs.Walked.{user_trade, IsHistoryOf, capped, walked_weight, counted_weight}

pub capped_plus : (a b : ℕ) → min (min a (2 ^ 128 - 1) + min b (2 ^ 128 - 1)) (2 ^ 128 - 1) ≡ min (a + b) (2 ^ 128 - 1)
capped_plus a b = omega arith

-- a listed state gives each variable one of its values
pub state_at : (network : List Variable) (xs : List (Vec ℕ Global)) → lists xs ≡ all_states network → (i : ℕ) (x : Vec ℕ Global) → i < length xs → x ≡ get_or xs i x → IsState (sizes network) x.items
state_at network xs e i x h is = subst (IsState (sizes network)) (ap (λ (ls : List (List ℕ)). get_or ls i []) (sym e) ∙ get_or-map (λ (v : Vec ℕ Global). v.items) xs i x [] h ∙ ap (λ (v : Vec ℕ Global). v.items) (sym is))
    (All-from_recursion (IsState (sizes network)) (all_states network) (all_are network) i [] (let as_long : length xs ≡ length (all_states network) = sym (length-map xs (λ (v : Vec ℕ Global). v.items)) ∙ ap (λ (ls : List (List ℕ)). length ls) e in omega arith))

-- one state more
pub more_total : (f : List ℕ → ℕ) (xs : List (Vec ℕ Global)) (i : ℕ) (x : Vec ℕ Global) (sum w sum' : ℕ) → i < length xs → x ≡ get_or xs i x
    → sum ≡ capped (sum_by f (lists (take i xs))) → w ≡ capped (f x.items) → sum' ≡ min (sum + w) (2 ^ 128 - 1) → sum' ≡ capped (sum_by f (lists (take (i + 1) xs)))
more_total f xs i x sum w sum' h is p q r =
    r ∙ ap₂ (λ (a b : ℕ). min (a + b) (2 ^ 128 - 1)) p q ∙ capped_plus (sum_by f (lists (take i xs))) (f x.items)
    ∙ ap capped (sym (ap (sum_by f) (map_more (λ (v : Vec ℕ Global). v.items) xs i x h ∙ ap (λ (v : Vec ℕ Global). lists (take i xs) ++ v.items ∷ []) (sym is)) ∙ sum_by_push f (lists (take i xs)) x.items))

-- the total of a history with these trades and resolutions
pub total_walked : (network : List Variable) (H : List Entry) (ts : List WalkTrade) (known event : List Pair) → IsHistoryOf H ts known
    → total network H (holds event) ≡ sum_by (counted_weight network ts known event) (all_states network)
total_walked network H ts known event is = total_is network H (holds event)
    ∙ ap (λ (f : List ℕ → ℕ). sum_by f (all_states network)) (fun_ext (λ s. ap₂ (λ (ps : List Pair) (w : ℕ). cond (holds ps s && holds event s) w 0) is.resolutions_are (same_weight s)))
  where
    same_weight : (s : List ℕ) → weight network H s ≡ walked_weight network ts s
    same_weight s = ap (λ (us : List UserTrade). initial_weight network s * product_by (λ (t : UserTrade). ratio_at t.ratio s) us) is.trades_are
        ∙ ap (λ n. initial_weight network s * n) (plus_over-map ◌*◌ 1 (λ (t : UserTrade). ratio_at t.ratio s) user_trade ts)

pub all_total : (network : List Variable) (ts : List WalkTrade) (known event : List Pair) (xs : List (Vec ℕ Global)) (i sum : ℕ) → lists xs ≡ all_states network → length xs ≤ i
    → sum ≡ capped (sum_by (counted_weight network ts known event) (lists (take i xs)))
    → (H : List Entry) → IsHistoryOf H ts known → sum ≡ capped (total network H (holds event))
all_total network ts known event xs i sum e h p H is = p
    ∙ ap (λ (vs : List (Vec ℕ Global)). capped (sum_by (counted_weight network ts known event) (lists vs))) (take_all i xs h)
    ∙ ap (λ (ls : List (List ℕ)). capped (sum_by (counted_weight network ts known event) ls)) e
    ∙ ap capped (sym (total_walked network H ts known event is))
