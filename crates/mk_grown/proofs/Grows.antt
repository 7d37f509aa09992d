-- Totals, least gains, proper and sound histories with one variable more.
use Rattle.std.proofs.Common.{◌≡◌, ℕ, ◌+◌, ◌*◌, ◌^◌, ◌≤◌, Bool, true, false, cond}
use Rattle.std.proofs.Common.{◌&&◌, List, [], ◌∷◌, ◌++◌, Option, Some, None, eqb, filter, flat_map}
use Rattle.std.proofs.Common.{length, sum_by, All, refl, sym, ap, ap₂, ◌∙◌, subst, arith, mul_assoc}
use Rattle.std.proofs.Common.{mul_comm, mul-le-mul_left, length-append}
use Rattle.std.proofs.Math.Path.{fun_ext}
use Rattle.std.specs.List.{AllByRecursion}
use Rattle.std.proofs.lemmas.List.Elements.{All-from_recursion, recursion_from_All}
use Rattle.std.proofs.lemmas.List.{length_push, length-map}
use Rattle.mk_net.specs.declared.words.Pair.{Pair}
use Rattle.mk_net.specs.Bounds.{million}
use Rattle.mk_net.specs.Network.{Variable, sizes, IsNetwork}
use Rattle.mk_net.specs.Asked.{Asked}
use Rattle.mk_states.specs.States.{plus_over, product_by, IsState}
use Rattle.mk_states.specs.InitialWeight.{all_states, initial_weight, initial_total}
use Rattle.mk_states.specs.Events.{holds, with_target, always}
use Rattle.mk_states.specs.Ratios.{unit, ratio_at}
use Rattle.mk_exact.specs.History.{Entry, UserTrade, users, trades, trades_of, resolutions}
use Rattle.mk_exact.specs.Weight.{weight, total, is_possible, possible_states}
use Rattle.mk_exact.specs.Factors.{gain, factor, factor_with, least_gain, lesser, IsAtLeastOne}
use Rattle.mk_states.specs.OfNetwork.{IsPairOf, IsQuestionOf}
use Rattle.mk_exact.specs.Proper.{IsTradeOf, IsProper}
use Rattle.mk_exact.specs.Sound.{IsSound}
use Rattle.mk_states.proofs.Sums.{IsPlus, sums_are_plus, sum_by_is, sum_by-times, sum_by_each}
use Rattle.mk_states.proofs.Sums.{plus_over-filter, plus_over_each, each_filtered, each_weaker}
use Rattle.mk_states.proofs.Sums.{each_both}
use Rattle.mk_states.proofs.Sums.{each-flat_map, each-map, each_always}
use Rattle.mk_states.proofs.Listed.{all_are}
use Rattle.mk_exact.proofs.Totals.{total_is}
use Rattle.mk_net.proofs.Behind.{size_before}
use Rattle.mk_grown.specs.Grown.{with_variable, with_each_value, share_of, values_behind, IsBlind}
use Rattle.mk_grown.proofs.States.{all_more, plus_over_more, filter_longer}
use Rattle.mk_grown.proofs.Entries.{holds_kept, has_kept, ratios_kept, weight_more, behind_whole}
use Rattle.mk_grown.proofs.Entries.{some_behind}

sum_by_more : (f : List ℕ → ℕ) (network : List Variable) (v : Variable)
    → IsNetwork (with_variable network v)
    → sum_by f (all_states (with_variable network v))
    ≡ sum_by (λ s. sum_by (λ x. f (s ++ x ∷ [])) (values_behind network v s))
    (all_states network)
sum_by_more f network v net =
    sum_by_is f (all_states (with_variable network v))
    ∙ plus_over_more network v net ◌+◌ 0 sums_are_plus f
    ∙ ap (λ (g : List ℕ → ℕ). plus_over ◌+◌ 0 g (all_states network))
    (fun_ext (λ s. sym (sum_by_is (λ x. f (s ++ x ∷ [])) (values_behind network v s))))
    ∙ sym (sum_by_is (λ s. sum_by (λ x. f (s ++ x ∷ [])) (values_behind network v s))
    (all_states network))

-- a sum over the longer states whose terms are those of the earlier states, each times its share
shared : (network : List Variable) (v : Variable) → IsNetwork (with_variable network v)
    → (f g : List ℕ → ℕ)
    → ((s : List ℕ) (x : ℕ) → IsState (sizes network) s → f (s ++ x ∷ []) ≡ g s
    * share_of network v s x)
    → sum_by f (all_states (with_variable network v)) ≡ million * sum_by g (all_states network)
shared network v net f g h =
    sum_by_more f network v net
    ∙ sum_by_each (λ s. sum_by (λ x. f (s ++ x ∷ [])) (values_behind network v s))
    (λ s. million * g s) (all_states network)
    (each_weaker (IsState (sizes network)) (λ s. sum_by (λ x. f (s ++ x ∷ []))
    (values_behind network v s) ≡ million * g s) at (all_states network)
    (all_are network))
    ∙ sum_by-times million g (all_states network)
  where
    at : (s : List ℕ) → IsState (sizes network) s
        → sum_by (λ x. f (s ++ x ∷ [])) (values_behind network v s) ≡ million * g s
    at s is_state =
        ap (λ (k : ℕ → ℕ). sum_by k (values_behind network v s))
        (fun_ext (λ x. h s x is_state))
        ∙ sum_by-times (g s) (share_of network v s) (values_behind network v s)
        ∙ ap (λ n. g s * n) (behind_whole network v net s is_state)
        ∙ mul_comm (g s) million

pub initial_total_more : (network : List Variable) (v : Variable)
    → IsNetwork (with_variable network v)
    → initial_total (with_variable network v) ≡ million * initial_total network
initial_total_more network v net = shared network v net
    (initial_weight (with_variable network v)) (initial_weight network)
    (λ s x is_state. weight_more network v s x is_state net)

pub total_more : (network : List Variable) (v : Variable) (H : List Entry) (test : List ℕ → Bool)
    → IsNetwork (with_variable network v) → IsProper network H
    → IsBlind network test → total (with_variable network v) H test ≡ million * total network H test
total_more network v H test net proper blind =
    total_is (with_variable network v) H test
    ∙ shared network v net (λ s. cond (is_possible H s && test s)
    (weight (with_variable network v) H s) 0)
    (λ s. cond (is_possible H s && test s) (weight network H s) 0) at
    ∙ ap (λ n. million * n) (sym (total_is network H test))
  where
    out : (b : Bool) (w share r : ℕ) → cond b ((w * share) * r) 0 ≡ cond b (w * r) 0 * share
    out true w share r = omega arith
    out false w share r = omega arith

    at : (s : List ℕ) (x : ℕ) → IsState (sizes network) s
        → cond (is_possible H (s ++ x ∷ []) && test (s ++ x ∷ []))
        (weight (with_variable network v) H (s ++ x ∷ [])) 0
        ≡ cond (is_possible H s && test s) (weight network H s) 0 * share_of network v s x
    at s x is_state =
        ap₂ (λ (b : Bool) w. cond b w 0)
        (ap₂ ◌&&◌ (holds_kept network v s x is_state (resolutions H) proper.resolutions_fit)
        (blind s x is_state))
        (ap₂ ◌*◌ (weight_more network v s x is_state net)
        (ratios_kept network v s x is_state (length (users H)) (trades H) proper.trades_fit))
        ∙ out (is_possible H s && test s) (initial_weight network s) (share_of network v s x)
        (product_by (λ (t : UserTrade). ratio_at t.ratio s) (trades H))

-- least gains
lesser_plus : IsPlus lesser None
lesser_plus = record { assoc = assoc; comm = comm; neutral = λ a. refl }
  where
    comm : (a b : Option ℕ) → lesser a b ≡ lesser b a
    comm None None = refl
    comm None (Some b) = refl
    comm (Some a) None = refl
    comm (Some a) (Some b) = ap Some (omega arith)

    assoc : (a b c : Option ℕ) → lesser (lesser a b) c ≡ lesser a (lesser b c)
    assoc None b c = refl
    assoc (Some a) None c = refl
    assoc (Some a) (Some b) None = refl
    assoc (Some a) (Some b) (Some c) = ap Some (omega arith)

lesser_same : (o : Option ℕ) → lesser o o ≡ o
lesser_same None = refl
lesser_same (Some a) = ap Some (omega arith)

least_of_same : (o : Option ℕ) (xs : List ℕ) → 1 ≤ length xs
    → plus_over lesser None (λ (x : ℕ). o) xs ≡ o
least_of_same o [] h = absurd (omega (arith, h))
least_of_same o (x ∷ []) h = lesser_plus.comm o None
least_of_same o (x ∷ y ∷ ys) h = ap (lesser o) (least_of_same o (y ∷ ys) (omega arith))
    ∙ lesser_same o

-- the gain of a possible state that passes a test
abbrev found : List Entry → ℕ → (List ℕ → Bool) → List ℕ → Option ℕ
found H u test s = cond (is_possible H s && test s) (Some (gain H u s)) None

least_gain_is : (network : List Variable) (H : List Entry) (u : ℕ) (test : List ℕ → Bool)
    → least_gain network H u test ≡ plus_over lesser None (found H u test) (all_states network)
least_gain_is network H u test = plus_over-filter lesser None lesser_plus (λ s. Some (gain H u s))
    (λ s. is_possible H s && test s) (all_states network)

pub least_gain_more : (network : List Variable) (v : Variable) (H : List Entry) (u : ℕ)
    (test : List ℕ → Bool) → IsNetwork (with_variable network v)
    → IsProper network H → IsBlind network test
    → least_gain (with_variable network v) H u test ≡ least_gain network H u test
least_gain_more network v H u test net proper blind =
    least_gain_is (with_variable network v) H u test
    ∙ plus_over_more network v net lesser None lesser_plus (found H u test)
    ∙ plus_over_each lesser None (λ s. plus_over lesser None (λ x. found H u test (s ++ x ∷ []))
    (values_behind network v s)) (found H u test) (all_states network)
    (each_weaker (IsState (sizes network)) (λ s. plus_over lesser None
    (λ x. found H u test (s ++ x ∷ [])) (values_behind network v s) ≡ found H u test s) at
    (all_states network) (all_are network))
    ∙ sym (least_gain_is network H u test)
  where
    at : (s : List ℕ) → IsState (sizes network) s
        → plus_over lesser None (λ x. found H u test (s ++ x ∷ []))
        (values_behind network v s) ≡ found H u test s
    at s is_state =
        ap (λ (f : ℕ → Option ℕ). plus_over lesser None f (values_behind network v s))
        (fun_ext (λ x. ap₂ (λ (b : Bool) (g : ℕ). cond b (Some g) None)
        (ap₂ ◌&&◌ (holds_kept network v s x is_state (resolutions H) proper.resolutions_fit)
        (blind s x is_state))
        (ratios_kept network v s x is_state (length (users H)) (trades_of H u)
        (each_filtered (IsTradeOf network (length (users H))) (λ (t : UserTrade). eqb t.user u)
        (trades H) proper.trades_fit))))
        ∙ least_of_same (found H u test s) (values_behind network v s)
        (some_behind network v net s is_state)

-- proper histories
pair_later : (network : List Variable) (v : Variable) (p : Pair) → IsPairOf network p
    → IsPairOf (with_variable network v) p
pair_later network v p h = record {
  variable = omega (arith, h.variable, length_push network v);
  value = rw (size_before network v p.variable h.variable) h.value;
}

trade_later : (network : List Variable) (v : Variable) (joined : ℕ) (t : UserTrade)
    → IsTradeOf network joined t → IsTradeOf (with_variable network v) joined t
trade_later network v joined t h = record {
  user = h.user;
  ratio = record {
    variable = omega (arith, h.ratio.variable, length_push network v);
    condition = each_weaker (IsPairOf network) (IsPairOf (with_variable network v))
        (pair_later network v) t.ratio.condition h.ratio.condition;
    one_each = h.ratio.one_each ∙ sym (size_before network v t.ratio.variable h.ratio.variable);
    positive = h.ratio.positive;
  };
}

-- a state is possible and passes a test
abbrev passes : List Entry → (List ℕ → Bool) → List ℕ → Bool
passes H test s = is_possible H s && test s

-- the possible states that pass a test which does not look at the added variable
possible_more : (network : List Variable) (v : Variable) (H : List Entry) (test : List ℕ → Bool)
    → IsNetwork (with_variable network v)
    → IsProper network H → IsBlind network test
    → possible_states (with_variable network v) H test
    ≡ flat_map (with_each_value network v) (possible_states network H test)
possible_more network v H test net proper blind =
    ap (filter (passes H test)) (all_more network v net)
    ∙ filter_longer (passes H test) (passes H test) (with_each_value network v) (all_states network)
    (each_weaker (IsState (sizes network)) (λ s. AllByRecursion
    (λ t. passes H test t ≡ passes H test s) (with_each_value network v s)) at
    (all_states network) (all_are network))
  where
    at : (s : List ℕ) → IsState (sizes network) s
        → AllByRecursion (λ t. passes H test t ≡ passes H test s)
        (with_each_value network v s)
    at s is_state = each-map (λ t. passes H test t ≡ passes H test s) (λ x. s ++ x ∷ [])
        (values_behind network v s)
        (each_always (λ x. passes H test (s ++ x ∷ []) ≡ passes H test s)
        (λ x. ap₂ ◌&&◌ (holds_kept network v s x is_state (resolutions H) proper.resolutions_fit)
        (blind s x is_state)) (values_behind network v s))

-- some are left, each with at least one value
some_longer : (network : List Variable) (v : Variable) → IsNetwork (with_variable network v)
    → (ss : List (List ℕ)) → AllByRecursion (IsState (sizes network)) ss → 1 ≤ length ss
    → 1 ≤ length (flat_map (with_each_value network v) ss)
some_longer network v net [] is k = absurd (omega (arith, k))
some_longer network v net (s ∷ ss) is k =
    omega (
      arith,
      some_behind network v net s is.0,
      length-append (with_each_value network v s) (flat_map (with_each_value network v) ss),
      length-map (values_behind network v s) (λ x. s ++ x ∷ []),
    )

possible_are : (network : List Variable) (H : List Entry)
    → AllByRecursion (IsState (sizes network)) (possible_states network H always)
possible_are network H = each_filtered (IsState (sizes network)) (passes H always)
    (all_states network) (all_are network)

pub proper_more : (network : List Variable) (v : Variable) (H : List Entry)
    → IsNetwork (with_variable network v)
    → IsProper network H → IsProper (with_variable network v) H
proper_more network v H net proper = record {
  trades_fit = each_weaker (IsTradeOf network (length (users H)))
      (IsTradeOf (with_variable network v) (length (users H)))
      (trade_later network v (length (users H))) (trades H) proper.trades_fit;
  resolutions_fit = each_weaker (IsPairOf network) (IsPairOf (with_variable network v))
      (pair_later network v) (resolutions H) proper.resolutions_fit;
  resolved_once = proper.resolved_once;
  some_left = rw (possible_more network v H always net proper (λ s x is_state. refl))
      (some_longer network v net (possible_states network H always) (possible_are network H)
      proper.some_left);
}

-- sound histories
sound_states : (network : List Variable) (v : Variable) (H : List Entry) (u : ℕ)
    → IsNetwork (with_variable network v)
    → IsProper network H → All (λ s. IsAtLeastOne (factor H u s)) (possible_states network H always)
    → All (λ s. IsAtLeastOne (factor H u s)) (possible_states (with_variable network v) H always)
sound_states network v H u net proper h =
    All-from_recursion Safe (possible_states (with_variable network v) H always)
    (subst (AllByRecursion Safe)
    (sym (possible_more network v H always net proper (λ s x is_state. refl)))
    (each-flat_map Safe (with_each_value network v) (possible_states network H always)
    (each_weaker (λ s. IsState (sizes network) s × Safe s)
    (λ s. AllByRecursion Safe (with_each_value network v s)) at
    (possible_states network H always)
    (each_both (IsState (sizes network)) Safe (possible_states network H always)
    (possible_are network H)
    (recursion_from_All Safe (possible_states network H always) h)))))
  where
    Safe : List ℕ → Type 0
    Safe s = IsAtLeastOne (factor H u s)

    at : (s : List ℕ) → IsState (sizes network) s × Safe s
        → AllByRecursion Safe (with_each_value network v s)
    at s known = each-map Safe (λ x. s ++ x ∷ []) (values_behind network v s)
        (each_always (λ x. Safe (s ++ x ∷ []))
        (λ x. subst (λ (g : ℕ). IsAtLeastOne (factor_with H u g))
        (sym (ratios_kept network v s x known.0 (length (users H)) (trades_of H u)
        (each_filtered (IsTradeOf network (length (users H))) (λ (t : UserTrade). eqb t.user u)
        (trades H) proper.trades_fit)))
        known.1) (values_behind network v s))

pub sound_more : (network : List Variable) (v : Variable) (H : List Entry)
    → IsNetwork (with_variable network v) → IsProper network H
    → IsSound network H → IsSound (with_variable network v) H
sound_more network v H net proper sound = record {
  solvent = λ u. sound_states network v H u net proper (sound.solvent u);
  bounded = rw (
    total_more network v H always net proper (λ s x is. refl),
    initial_total_more network v net,
  )
      (let h : million * total network H always ≤ million
      * (initial_total network * unit ^ length (trades H)) =
      mul-le-mul_left million sound.bounded in
      subst (λ n. million * total network H always ≤ n)
      (sym (mul_assoc million (initial_total network) (unit ^ length (trades H)))) h);
}

-- exact prices
pub prices_stay : (network : List Variable) (v : Variable) (H : List Entry) (asked : Asked)
    → IsNetwork (with_variable network v) → IsProper network H
    → IsQuestionOf network asked
    → total (with_variable network v) H (with_target asked)
    * total network H (holds asked.condition) ≡ total network H (with_target asked)
    * total (with_variable network v) H (holds asked.condition)
prices_stay network v H asked net proper is =
    rw (
      total_more network v H (with_target asked) net proper
          (λ s x is_state. ap₂ ◌&&◌ (holds_kept network v s x is_state asked.condition is.condition)
          (has_kept network v s x is_state asked.target is.target)),
      total_more network v H (holds asked.condition) net proper
          (λ s x is_state. holds_kept network v s x is_state asked.condition is.condition),
    )
    (across million (total network H (with_target asked)) (total network H (holds asked.condition)))
  where
    across : (m a b : ℕ) → (m * a) * b ≡ a * (m * b)
    across m a b = omega arith
