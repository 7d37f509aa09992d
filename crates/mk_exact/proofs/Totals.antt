-- The totals of a condition, and of a question's events, before and after a trade.
use Rattle.std.proofs.Common.{◌≡◌, ℕ, ◌+◌, ◌*◌, Bool, true, false, cond, not, ◌&&◌, List, [], ◌∷◌, ◌++◌, sum_by, refl, sym, ap, ap₂, ◌∙◌, arith}
use Rattle.std.proofs.Math.Path.{fun_ext}
use Rattle.mk_net.specs.declared.words.Pair.{Pair}
use Rattle.mk_net.specs.Network.{Variable, sizes}
use Rattle.mk_net.specs.Asked.{Asked, TradeRatio}
use Rattle.mk_states.specs.States.{IsState}
use Rattle.mk_states.specs.InitialWeight.{all_states, value_at}
use Rattle.mk_states.specs.Events.{holds, has, with_target, without_target, always}
use Rattle.mk_states.specs.Ratios.{unit, ratio_at, units_of}
use Rattle.mk_exact.specs.History.{Entry, Trade}
use Rattle.mk_exact.specs.Weight.{weight, total, is_possible, possible_states}
use Rattle.mk_states.specs.OfNetwork.{IsPairOf}
use Rattle.mk_exact.specs.Sides.{ratio_in, traded}
use Rattle.mk_states.proofs.Sums.{sum_by-filter, sum_by-plus, sum_by-times, sum_by_each, each_weaker}
use Rattle.mk_states.proofs.Listed.{all_are}
use Rattle.mk_exact.proofs.Pairs.{pair_at, ratio_in_at}
use Rattle.mk_exact.proofs.After.{weight_traded, possible_kept}

pub total_is : (network : List Variable) (H : List Entry) (test : List ℕ → Bool)
    → total network H test ≡ sum_by (λ s. cond (is_possible H s && test s) (weight network H s) 0) (all_states network)
total_is network H test = sum_by-filter (weight network H) (λ s. is_possible H s && test s) (all_states network)

-- by cases on whether a state is possible, has the condition, and has the target
by_trade : (p h : Bool) (w units U : ℕ) → cond (p && true) (w * cond h units U) 0 ≡ cond (p && h) (w * cond h units U) 0 + U * cond (p && not h) w 0
by_trade false h w units U = omega arith
by_trade true false w units U = omega arith
by_trade true true w units U = omega arith

by_condition : (p h t : Bool) (w F_t F_n U : ℕ)
    → cond (p && h) (w * cond h (cond t F_t F_n) U) 0 ≡ F_t * cond (p && (h && t)) w 0 + F_n * cond (p && (h && not t)) w 0
by_condition false h t w F_t F_n U = omega arith
by_condition true false t w F_t F_n U = omega arith
by_condition true true false w F_t F_n U = omega arith
by_condition true true true w F_t F_n U = omega arith

by_target : (p h t : Bool) (w F_t F_n U : ℕ) → cond (p && (h && t)) (w * cond h (cond t F_t F_n) U) 0 ≡ F_t * cond (p && (h && t)) w 0
by_target false h t w F_t F_n U = omega arith
by_target true false t w F_t F_n U = omega arith
by_target true true false w F_t F_n U = omega arith
by_target true true true w F_t F_n U = omega arith

by_parts : (p h t : Bool) (w : ℕ) → cond (p && h) w 0 ≡ cond (p && (h && t)) w 0 + cond (p && (h && not t)) w 0
by_parts false h t w = refl
by_parts true false t w = refl
by_parts true true false w = omega arith
by_parts true true true w = omega arith

by_holding : (p h : Bool) (w : ℕ) → cond (p && true) w 0 ≡ cond (p && h) w 0 + cond (p && not h) w 0
by_holding false h w = refl
by_holding true false w = omega arith
by_holding true true w = omega arith

-- the states where the given pairs do not hold
abbrev pub elsewhere : List Pair → List ℕ → Bool
elsewhere given s = not (holds given s)

-- the weights that a trade makes, over the possible states before it that pass a test
abbrev pub traded_sum : List Variable → List Entry → TradeRatio → (List ℕ → Bool) → ℕ
traded_sum network H r test = sum_by (λ s. weight network H s * ratio_at r s) (possible_states network H test)

module _ (network : List Variable) (H : List Entry) where
  part : (List ℕ → Bool) → List ℕ → ℕ
  part test s = cond (is_possible H s && test s) (weight network H s) 0

  is_part : (test : List ℕ → Bool) → total network H test ≡ sum_by (part test) (all_states network)
  unfolding part
  is_part test = total_is network H test

  times_part : (k : ℕ) (test : List ℕ → Bool) → sum_by (λ s. k * part test s) (all_states network) ≡ k * total network H test
  times_part k test = sum_by-times k (part test) (all_states network) ∙ ap (λ n. k * n) (sym (is_part test))

  pub total_always : (given : List Pair) → total network H always ≡ total network H (holds given) + total network H (elsewhere given)
  unfolding part
  total_always given =
      is_part always
      ∙ ap (λ (f : List ℕ → ℕ). sum_by f (all_states network)) (fun_ext (λ s. by_holding (is_possible H s) (holds given s) (weight network H s)))
      ∙ sum_by-plus (part (holds given)) (part (elsewhere given)) (all_states network)
      ∙ ap₂ ◌+◌ (sym (is_part (holds given))) (sym (is_part (elsewhere given)))

  pub total_condition : (asked : Asked) → total network H (holds asked.condition) ≡ total network H (with_target asked) + total network H (without_target asked)
  unfolding part
  total_condition asked =
      is_part (holds asked.condition)
      ∙ ap (λ (f : List ℕ → ℕ). sum_by f (all_states network)) (fun_ext (λ s. by_parts (is_possible H s) (holds asked.condition s) (has asked.target s) (weight network H s)))
      ∙ sum_by-plus (part (with_target asked)) (part (without_target asked)) (all_states network)
      ∙ ap₂ ◌+◌ (sym (is_part (with_target asked))) (sym (is_part (without_target asked)))

  -- after any trade
  module _ (u : ℕ) (r : TradeRatio) where
    part_traded : (List ℕ → Bool) → List ℕ → ℕ
    part_traded test s = cond (is_possible H s && test s) (weight network H s * ratio_at r s) 0

    is_traded : (test : List ℕ → Bool) → total network (H ++ Trade u r ∷ []) test ≡ sum_by (part_traded test) (all_states network)
    unfolding part_traded
    is_traded test =
        total_is network (H ++ Trade u r ∷ []) test
        ∙ ap (λ (f : List ℕ → ℕ). sum_by f (all_states network))
        (fun_ext (λ s. ap₂ (λ (b : Bool) (w : ℕ). cond (b && test s) w 0) (possible_kept H (Trade u r) s refl) (weight_traded network H u r s)))

    is_sum : (test : List ℕ → Bool) → sum_by (part_traded test) (all_states network) ≡ traded_sum network H r test
    unfolding part_traded
    is_sum test = sym (sum_by-filter (λ s. weight network H s * ratio_at r s) (λ s. is_possible H s && test s) (all_states network))

    pub total_traded : (test : List ℕ → Bool) → total network (H ++ Trade u r ∷ []) test ≡ traded_sum network H r test
    total_traded test = is_traded test ∙ is_sum test

    pub traded_always : total network (H ++ Trade u r ∷ []) always ≡ traded_sum network H r (holds r.condition) + unit * total network H (elsewhere r.condition)
    unfolding part part_traded
    traded_always =
        is_traded always
        ∙ ap (λ (f : List ℕ → ℕ). sum_by f (all_states network))
        (fun_ext (λ s. by_trade (is_possible H s) (holds r.condition s) (weight network H s) (units_of r (value_at s r.variable)) unit))
        ∙ sum_by-plus (part_traded (holds r.condition)) (λ s. unit * part (elsewhere r.condition) s) (all_states network)
        ∙ ap₂ ◌+◌ (is_sum (holds r.condition)) (times_part unit (elsewhere r.condition))

  -- after a trade on one question
  module _ (u : ℕ) (asked : Asked) (F_t F_n : ℕ) (fits : IsPairOf network asked.target) where
    part_asked : (List ℕ → Bool) → List ℕ → ℕ
    part_asked test s = cond (is_possible H s && test s) (weight network H s * pair_at asked F_t F_n s) 0

    is_asked : (test : List ℕ → Bool) → total network (traded network H u asked F_t F_n) test ≡ sum_by (part_asked test) (all_states network)
    unfolding part_traded part_asked
    is_asked test =
        is_traded u (ratio_in network asked F_t F_n) test
        ∙ sum_by_each (part_traded u (ratio_in network asked F_t F_n) test) (part_asked test) (all_states network)
        (each_weaker (IsState (sizes network)) (λ s. part_traded u (ratio_in network asked F_t F_n) test s ≡ part_asked test s) at (all_states network) (all_are network))
      where
        at : (s : List ℕ) → IsState (sizes network) s → part_traded u (ratio_in network asked F_t F_n) test s ≡ part_asked test s
        at s is_state = ap (λ (n : ℕ). cond (is_possible H s && test s) (weight network H s * n) 0) (ratio_in_at network asked F_t F_n fits s is_state)

    pub traded_target : total network (traded network H u asked F_t F_n) (with_target asked) ≡ F_t * total network H (with_target asked)
    unfolding part part_asked
    traded_target =
        is_asked (with_target asked)
        ∙ ap (λ (f : List ℕ → ℕ). sum_by f (all_states network)) (fun_ext (λ s. by_target (is_possible H s) (holds asked.condition s) (has asked.target s) (weight network H s) F_t F_n unit))
        ∙ times_part F_t (with_target asked)

    pub traded_condition : total network (traded network H u asked F_t F_n) (holds asked.condition) ≡ F_t * total network H (with_target asked) + F_n * total network H (without_target asked)
    unfolding part part_asked
    traded_condition =
        is_asked (holds asked.condition)
        ∙ ap (λ (f : List ℕ → ℕ). sum_by f (all_states network)) (fun_ext (λ s. by_condition (is_possible H s) (holds asked.condition s) (has asked.target s) (weight network H s) F_t F_n unit))
        ∙ sum_by-plus (λ s. F_t * part (with_target asked) s) (λ s. F_n * part (without_target asked) s) (all_states network)
        ∙ ap₂ ◌+◌ (times_part F_t (with_target asked)) (times_part F_n (without_target asked))

    pub sum_asked : traded_sum network H (ratio_in network asked F_t F_n) (holds asked.condition) ≡ F_t * total network H (with_target asked) + F_n * total network H (without_target asked)
    sum_asked = sym (total_traded u (ratio_in network asked F_t F_n) (holds asked.condition)) ∙ traded_condition
