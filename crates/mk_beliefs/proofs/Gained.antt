-- One user's gains as a meaning: the product of all factors in a state is the user's gain there.
use Rattle.std.proofs.Common.{◌≡◌, ℕ, suc, zero, ◌+◌, ◌*◌, ◌<◌, ◌≤◌, Bool, true, false, cond, ◌&&◌, min, eqb, List, [], ◌∷◌, map, length, slice_index, slice_index_or, filter, Some, refl, sym, ap, ap₂, subst, mul-zero, one-mul, ◌∙◌, arith, le_refl, ne_eqb}
use Rattle.std.proofs.Math.Path.{fun_ext}
use Rattle.std.specs.Prelude.{nat_le}
use Rattle.std.proofs.Math.Nat.{mul-le-mul, lt_of_le_of_lt, one-le-mul}
use Rattle.std.proofs.lemmas.Bool.{le-leb}
use Rattle.std.proofs.lemmas.List.Elements.{All-from_recursion}
use Rattle.std.specs.List.{list_any, AllByRecursion}
use Rattle.mk_net.specs.declared.words.Pair.{Pair}
use Rattle.mk_net.specs.Asked.{Asked}
use Rattle.mk_net.specs.Bounds.{number_limit}
use Rattle.mk_net.specs.Events.{pairs_asked}
use Rattle.mk_net.specs.Network.{Variable, sizes, IsNetwork}
use Rattle.mk_net.specs.Named.{variable_at}
use Rattle.mk_net.specs.Zeros.{has_zero, with_zeros}
use Rattle.mk_net.proofs.Events.{neither}
use Rattle.mk_states.specs.Lawful.{Lawful}
use Rattle.mk_states.specs.States.{states, numbers_below, plus_over, product_by, IsState}
use Rattle.mk_states.specs.InitialWeight.{all_states, can_come, value_at, row_number, entry, initial_weight}
use Rattle.mk_states.specs.Events.{holds, with_target, without_target, always}
use Rattle.mk_states.specs.Ratios.{ratio_at}
use Rattle.mk_exact.specs.History.{Entry, UserTrade, users, trades, trades_of}
use Rattle.mk_exact.specs.Weight.{weight, is_possible, possible_states, IsSmall}
use Rattle.mk_exact.specs.Factors.{gain, lesser, least_by, least_gain}
use Rattle.mk_states.specs.OfNetwork.{IsQuestionOf}
use Rattle.mk_exact.specs.Proper.{IsProper, IsTradeOf}
use Rattle.mk_states.proofs.Sums.{plus_over-map, plus_over_each, product_by-append, product_by_pos, sum_by_is, each_weaker, each_number}
use Rattle.mk_exact.proofs.Single.{over_all}
use Rattle.mk_states.proofs.Listed.{states_are, all_can, all_are}
use Rattle.mk_states.proofs.Shares.{row_number_below, value_below_row}
use Rattle.mk_exact.proofs.Positive.{ratio_pos}
use Rattle.mk_sums.specs.Lawful.{lesser_present}
use Rattle.mk_sums.proofs.Lawfuls.{minima_lawful}
use Rattle.mk_cell.specs.Least.{least, least-zero, least-at_zero, least-both}
use Rattle.mk_tree.specs.Given.{GivenTree}
use Rattle.mk_engine.specs.Meaning.{Factor, SupportOf, RatioOf, factor_there, exact_belief, whole_sum}
use Rattle.mk_engine.specs.Cases.{exact_others}
use Rattle.mk_engine.proofs.Cases.{product_at, belief_where}
use Rattle.mk_beliefs.specs.Meanings.{gains_of, if_present}
use Rattle.mk_beliefs.proofs.Exact.{holds_asked, others_where, without_nothing}

-- the least of numbers where 0 stands for none is lawful
least_is : (a b : ℕ) → lesser_present a b ≡ least a b
least_is zero b = sym (least-zero b)
least_is (suc a) zero = let some : suc a ≡ 0 → ⊥ = λ e. omega arith in rw (ne_eqb (suc a) 0 some) (sym (least-at_zero (suc a)))
least_is (suc a) (suc b) =
    let left : suc a ≡ 0 → ⊥ = λ e. omega arith in let right : suc b ≡ 0 → ⊥ = λ e. omega arith in
    rw (ne_eqb (suc a) 0 left, ne_eqb (suc b) 0 right) (sym (least-both (suc a) (suc b) (omega arith) (omega arith)))

pub least_lawful : Lawful least
least_lawful = subst Lawful (fun_ext (λ a. fun_ext (least_is a))) minima_lawful

some_of : (n : ℕ) → 1 ≤ n → if_present n ≡ Some n
some_of zero h = absurd (omega arith)
some_of (suc n) h = refl

present : (a b : ℕ) → 1 ≤ a → if_present (least a b) ≡ lesser (Some a) (if_present b)
present a zero h = ap if_present (least-at_zero a) ∙ some_of a h
present a (suc b) h = ap if_present (least-both a (suc b) h (omega arith)) ∙ some_of (min a (suc b)) (omega arith)

pub each_of : {X : Type 0} (P : X → Type 0) (p : X → Bool) (xs : List X) → AllByRecursion P xs → AllByRecursion P (filter p xs)
each_of P p [] h = tt
each_of {X} P p (x ∷ xs) h = at (p x) (filter p xs) (each_of P p xs h.1)
  where
    at : (b : Bool) (ys : List X) → AllByRecursion P ys → AllByRecursion P (cond b (x ∷ ys) ys)
    at true ys k = (h.0, k)
    at false ys k = k

-- the least of present values
pub present_over : {X : Type 0} (f : X → ℕ) (xs : List X) → AllByRecursion (λ x. 1 ≤ f x) xs → if_present (plus_over least 0 f xs) ≡ least_by f xs
present_over f [] h = refl
present_over f (x ∷ xs) h = present (f x) (plus_over least 0 f xs) h.0 ∙ ap (lesser (Some (f x))) (present_over f xs h.1)

-- a product of some of these is at most that of all
some_at_most : {X : Type 0} (f : X → ℕ) (p : X → Bool) (xs : List X) → AllByRecursion (λ x. 1 ≤ f x) xs → product_by f (filter p xs) ≤ product_by f xs
some_at_most f p [] h = le_refl 1
some_at_most {X} f p (x ∷ xs) h = at (p x) (some_at_most f p xs h.1)
  where
    at : (b : Bool) → product_by f (filter p xs) ≤ product_by f xs → product_by f (cond b (x ∷ filter p xs) (filter p xs)) ≤ f x * product_by f xs
    at true l = mul-le-mul (le_refl (f x)) l
    at false l = subst (λ n. n ≤ f x * product_by f xs) (one_times (product_by f (filter p xs))) (mul-le-mul h.0 l)
      where
        one_times : (n : ℕ) → 1 * n ≡ n
        one_times n = omega arith

each_at_most : {X : Type 0} (f g : X → ℕ) (xs : List X) → AllByRecursion (λ x. f x ≤ g x) xs → plus_over ◌+◌ 0 f xs ≤ plus_over ◌+◌ 0 g xs
each_at_most f g [] h = le_refl 0
each_at_most f g (x ∷ xs) h = let here = h.0 in let later = each_at_most f g xs h.1 in omega (arith, here, later)

-- one for what is not nothing
pub sign : ℕ → ℕ
sign n = cond (nat_le 1 n) 1 0

sign_some : (n : ℕ) → 1 ≤ n → sign n ≡ 1
unfolding sign
sign_some n h = ap (λ (b : Bool). cond b 1 0) (le-leb 1 n h)

sign_times : (a b : ℕ) → sign a * sign b ≡ sign (a * b)
unfolding sign
sign_times zero b = sym (none (sign b)) ∙ ap sign (none b)
  where
    none : (b : ℕ) → 0 ≡ 0 * b
    none b = omega arith
sign_times (suc a) zero = let e : suc a * 0 ≡ 0 = mul-zero (suc a) in mul-zero (sign (suc a)) ∙ sym (ap sign e)
sign_times (suc a) (suc b) = ap₂ ◌*◌ (sign_some (suc a) (omega arith)) (sign_some (suc b) (omega arith)) ∙ sym (sign_some (suc a * suc b) (one-le-mul {a = suc a} {b = suc b} (omega arith) (omega arith)))

sign_of_product : {X : Type 0} (f : X → ℕ) (xs : List X) → product_by (λ x. sign (f x)) xs ≡ sign (product_by f xs)
unfolding sign
sign_of_product f [] = refl
sign_of_product f (x ∷ xs) = ap (λ n. sign (f x) * n) (sign_of_product f xs) ∙ sign_times (f x) (product_by f xs)

-- a product leaves out what is one
product_kept : {X : Type 0} (f : X → ℕ) (p : X → Bool) (xs : List X) → AllByRecursion (λ x. p x ≡ false → f x ≡ 1) xs → product_by f (filter p xs) ≡ product_by f xs
product_kept f p [] h = refl
product_kept {X} f p (x ∷ xs) h = at (p x) refl (product_kept f p xs h.1)
  where
    at : (b : Bool) → p x ≡ b → product_by f (filter p xs) ≡ product_by f xs → product_by f (cond b (x ∷ filter p xs) (filter p xs)) ≡ f x * product_by f xs
    at true e rest = ap (λ n. f x * n) rest
    at false e rest = rest ∙ rw (h.0 e) (sym (one-mul (product_by f xs)))

-- what no test finds is everywhere otherwise
none_found : {X : Type 0} (p : X → Bool) (xs : List X) → list_any p xs ≡ false → AllByRecursion (λ x. p x ≡ false) xs
none_found p [] h = tt
none_found p (x ∷ xs) h = let parts = neither (p x) (list_any p xs) h in (parts.0, none_found p xs (parts.1))

module _ (network : List Variable) (net : IsNetwork network) (s : List ℕ) (is_state : IsState (sizes network) s) where
  -- a variable without zeros gives each state a share
  share_there_is : (k : ℕ) → k < length network → has_zero network k ≡ false → 1 ≤ entry network k s
  share_there_is k within none = some (All-from_recursion (λ n. eqb n 0 ≡ false) row (none_found (λ n. eqb n 0) row here) (value_at s k) 0 (value_below_row network net s is_state k within))
    where
      row : List ℕ
      row = slice_index_or (variable_at network k).rows (row_number (sizes network) (variable_at network k).parents s) []

      here : list_any (λ n. eqb n 0) row ≡ false
      here = All-from_recursion (λ (r : List ℕ). list_any (λ n. eqb n 0) r ≡ false) (variable_at network k).rows (none_found (λ (r : List ℕ). list_any (λ n. eqb n 0) r) (variable_at network k).rows none)
          (row_number (sizes network) (variable_at network k).parents s) [] (row_number_below network net s is_state k within)

      some : eqb (entry network k s) 0 ≡ false → 1 ≤ entry network k s
      some h = not_zero (entry network k s) h
        where
          not_zero : (n : ℕ) → eqb n 0 ≡ false → 1 ≤ n
          not_zero zero h = absurd (cc)
          not_zero (suc n) h = omega arith

  -- the supports in a state: one where it can come
  supports_are : product_by (λ k. sign (entry network k s)) (with_zeros network) ≡ sign (initial_weight network s)
  unfolding sign
  supports_are = product_kept (λ k. sign (entry network k s)) (has_zero network) (numbers_below (length network))
      (each_number (λ k. has_zero network k ≡ false → sign (entry network k s) ≡ 1) (length network) 0 (λ k p q none. sign_some (entry network k s) (share_there_is k (omega arith) none)))
      ∙ sign_of_product (λ k. entry network k s) (numbers_below (length network))

module _ (network : List Variable) (tree : GivenTree) (H : List Entry) (u : ℕ) where
  product_is_gain : IsNetwork network → (s : List ℕ) → IsState (sizes network) s → product_at (gains_of network tree H u) s ≡ sign (initial_weight network s) * gain H u s
  unfolding sign
  product_is_gain net s is_state =
      let there : Factor → ℕ = λ (f : Factor). factor_there network f (value_at s) in
      product_by-append there (map SupportOf (with_zeros network)) (map (λ (t : UserTrade). RatioOf t.ratio) (trades_of H u))
      ∙ ap₂ ◌*◌ (plus_over-map ◌*◌ 1 there SupportOf (with_zeros network) ∙ supports_are network net s is_state)
      (plus_over-map ◌*◌ 1 there (λ (t : UserTrade). RatioOf t.ratio) (trades_of H u))

  module _ (net : IsNetwork network) (proper : IsProper network H) where
    ratios_pos : (s : List ℕ) → IsState (sizes network) s → AllByRecursion (λ (t : UserTrade). 1 ≤ ratio_at t.ratio s) (trades H)
    ratios_pos s is_state = each_weaker (IsTradeOf network (length (users H))) (λ (t : UserTrade). 1 ≤ ratio_at t.ratio s) (ratio_pos network (length (users H)) s is_state) (trades H) proper.trades_fit

    gain_pos : (s : List ℕ) → IsState (sizes network) s → 1 ≤ gain H u s
    gain_pos s is_state = product_by_pos (λ (t : UserTrade). ratio_at t.ratio s) (trades_of H u)
        (each_of (λ (t : UserTrade). 1 ≤ ratio_at t.ratio s) (λ (t : UserTrade). eqb t.user u) (trades H) (ratios_pos s is_state))

    -- what a list of values adds: the gain where it can come, and nothing elsewhere
    masked : List ℕ → ℕ
    masked s = sign (initial_weight network s) * gain H u s

    masked_none : (s : List ℕ) → can_come network s ≡ false → masked s ≡ 0
    unfolding masked sign
    masked_none s e = ap (λ (b : Bool). cond b 1 0 * gain H u s) e ∙ none (gain H u s)
      where
        none : (g : ℕ) → 0 * g ≡ 0
        none g = omega arith

    masked_gain : (s : List ℕ) → 1 ≤ initial_weight network s → masked s ≡ gain H u s
    unfolding masked sign
    masked_gain s some = ap (λ (n : ℕ). n * gain H u s) (sign_some (initial_weight network s) some) ∙ one-mul (gain H u s)

    -- the least of the products over the possible states that pass a test is the least gain there
    least_where : (test : List ℕ → Bool) (n : ℕ) → n ≡ plus_over least 0 (product_at (gains_of network tree H u)) (filter (λ s. is_possible H s && test s) (states (sizes network)))
        → least_gain network H u test ≡ if_present n
    unfolding masked
    least_where test n e =
        sym (ap if_present (e
        ∙ plus_over_each least 0 (product_at (gains_of network tree H u)) masked (filter passes (states (sizes network)))
        (each_of (λ s. product_at (gains_of network tree H u) s ≡ masked s) passes (states (sizes network))
        (each_weaker (IsState (sizes network)) (λ s. product_at (gains_of network tree H u) s ≡ masked s) (product_is_gain net) (states (sizes network)) (states_are (sizes network))))
        ∙ without_nothing least least_lawful masked passes (can_come network) (states (sizes network)) masked_none
        ∙ plus_over_each least 0 masked (gain H u) (possible_states network H test)
        (each_of (λ s. masked s ≡ gain H u s) passes (all_states network)
        (each_weaker (λ s. IsState (sizes network) s × (1 ≤ initial_weight network s)) (λ s. masked s ≡ gain H u s) (λ s h. masked_gain s h.1) (all_states network) (all_can network))))
        ∙ present_over (gain H u) (possible_states network H test)
        (each_of (λ s. 1 ≤ gain H u s) passes (all_states network) (each_weaker (IsState (sizes network)) (λ s. 1 ≤ gain H u s) gain_pos (all_states network) (all_are network))))
      where
        passes : List ℕ → Bool
        passes s = is_possible H s && test s

    pub belief_is_least : (event : List Pair) → least_gain network H u (holds event) ≡ if_present (exact_belief least (gains_of network tree H u) event)
    belief_is_least event = least_where (holds event) _ (belief_where least (gains_of network tree H u) event)

    pub all_is_least : least_gain network H u always ≡ if_present (exact_belief least (gains_of network tree H u) [])
    all_is_least = belief_is_least []

    pub others_are_least : (asked : Asked) → IsQuestionOf network asked
        → least_gain network H u (without_target asked) ≡ if_present (exact_others least (gains_of network tree H u) asked (slice_index (sizes network) asked.target.variable))
    others_are_least asked fits = least_where (without_target asked) _ (others_where least least_lawful (gains_of network tree H u) asked fits.target.variable)

    -- each state's gain is at most its weight
    gain_at_most : (s : List ℕ) → IsState (sizes network) s → product_at (gains_of network tree H u) s ≤ weight network H s
    unfolding masked sign
    gain_at_most s is_state = subst (λ n. n ≤ weight network H s) (sym (product_is_gain net s is_state))
        (at_most (initial_weight network s) (gain H u s) (product_by (λ (t : UserTrade). ratio_at t.ratio s) (trades H))
        (some_at_most (λ (t : UserTrade). ratio_at t.ratio s) (λ (t : UserTrade). eqb t.user u) (trades H) (ratios_pos s is_state)))
      where
        at_most : (w g all : ℕ) → g ≤ all → sign w * g ≤ w * all
        at_most zero g all l = omega arith
        at_most (suc w) g all l = mul-le-mul (rw (sign_some (suc w) (omega arith)) (omega arith)) l

    pub gains_are_small : IsSmall network H → whole_sum (gains_of network tree H u) < number_limit
    gains_are_small small =
        let less = each_at_most (product_at (gains_of network tree H u)) (weight network H) (states (sizes network))
        (each_weaker (IsState (sizes network)) (λ s. product_at (gains_of network tree H u) s ≤ weight network H s) gain_at_most (states (sizes network)) (states_are (sizes network))) in
        below_of _ _ _ (sum_by_is (product_at (gains_of network tree H u)) (states (sizes network))) less
        (subst (λ n. n < number_limit) (over_all network (weight network H) (λ s e. rw e (omega arith)) ∙ sum_by_is (weight network H) (states (sizes network))) small)
      where
        below_of : (a b c : ℕ) → a ≡ b → b ≤ c → c < number_limit → a < number_limit
        below_of a b c e p q = subst (λ n. n < number_limit) (sym e) (lt_of_le_of_lt p q)

pub target_is_least : (network : List Variable) (H : List Entry) (u : ℕ) (asked : Asked) → least_gain network H u (holds (pairs_asked asked)) ≡ least_gain network H u (with_target asked)
target_is_least network H u asked = ap (least_gain network H u) (holds_asked asked)
