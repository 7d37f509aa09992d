-- The weights as a meaning: the product of all factors in a state is its weight.
use Rattle.std.proofs.Common.{◌≡◌, ℕ, zero, suc, ◌+◌, ◌*◌, ◌^◌, ◌<◌, Bool, true, false, ◌&&◌, arith, filter, List, map, length, slice_index, sum_by, sym, ap, ap₂, subst, ◌∙◌}
use Rattle.std.proofs.Math.Path.{fun_ext}
use Rattle.std.specs.Prelude.{nat_le}
use Rattle.std.proofs.lemmas.Bool.{le-leb}
use Rattle.mk_net.specs.declared.words.Pair.{Pair}
use Rattle.mk_net.specs.Asked.{Asked}
use Rattle.mk_net.specs.Bounds.{number_limit}
use Rattle.mk_net.specs.Events.{pairs_asked}
use Rattle.mk_net.specs.Network.{Variable, sizes}
use Rattle.mk_states.specs.States.{states, numbers_below, plus_over, product_by}
use Rattle.mk_states.specs.InitialWeight.{all_states, can_come, initial_weight, value_at}
use Rattle.mk_states.specs.Ratios.{ratio_at}
use Rattle.mk_states.specs.Events.{holds, with_target, without_target}
use Rattle.mk_exact.specs.History.{Entry, UserTrade, trades}
use Rattle.mk_exact.specs.Weight.{weight, total, is_possible, possible_states, IsSmall}
use Rattle.mk_states.specs.OfNetwork.{IsQuestionOf}
use Rattle.mk_states.proofs.Sums.{product_by-append, plus_over-map, sum_by_is}
use Rattle.mk_exact.proofs.Totals.{total_condition}
use Rattle.mk_exact.proofs.Single.{over_all}
use Rattle.mk_sums.proofs.Grades.{sums_lawful}
use Rattle.mk_tree.specs.Given.{GivenTree}
use Rattle.mk_engine.specs.Meaning.{Factor, RowsOf, RatioOf, factor_there, exact_belief, whole_sum}
use Rattle.mk_engine.specs.Cases.{exact_others}
use Rattle.mk_engine.proofs.Cases.{product_at, belief_where}
use Rattle.mk_beliefs.specs.Meanings.{weights_of}
use Rattle.mk_beliefs.proofs.Exact.{holds_asked, others_where, without_nothing}

module _ (network : List Variable) (tree : GivenTree) (H : List Entry) where
  pub product_is_weight : (s : List ℕ) → product_at (weights_of network tree H) s ≡ weight network H s
  product_is_weight s =
      let there : Factor → ℕ = λ (f : Factor). factor_there network f (value_at s) in
      product_by-append there (map RowsOf (numbers_below (length network))) (map (λ (t : UserTrade). RatioOf t.ratio) (trades H))
      ∙ ap₂ ◌*◌ (plus_over-map ◌*◌ 1 there RowsOf (numbers_below (length network))) (plus_over-map ◌*◌ 1 there (λ (t : UserTrade). RatioOf t.ratio) (trades H))

  -- a list of values that cannot come has no weight
  none_there : (s : List ℕ) → can_come network s ≡ false → product_at (weights_of network tree H) s ≡ 0
  none_there s e = product_is_weight s ∙ nothing (initial_weight network s) e
    where
      nothing : (n : ℕ) → nat_le 1 n ≡ false → n * product_by (λ (t : UserTrade). ratio_at t.ratio s) (trades H) ≡ 0
      nothing zero e = omega arith
      nothing (suc n) e = absurd (let some : nat_le 1 (suc n) ≡ true = le-leb 1 (suc n) (omega arith) in cc)

  -- the products over the possible states that pass a test are their weights together
  products_are_total : (test : List ℕ → Bool) → plus_over ◌+◌ 0 (product_at (weights_of network tree H)) (filter (λ s. is_possible H s && test s) (states (sizes network))) ≡ total network H test
  products_are_total test =
      without_nothing ◌+◌ sums_lawful (product_at (weights_of network tree H)) (λ s. is_possible H s && test s) (can_come network) (states (sizes network)) none_there
      ∙ ap (λ (w : List ℕ → ℕ). plus_over ◌+◌ 0 w (possible_states network H test)) (fun_ext product_is_weight)
      ∙ sym (sum_by_is (weight network H) (possible_states network H test))

  pub belief_is_total : (event : List Pair) → exact_belief ◌+◌ (weights_of network tree H) event ≡ total network H (holds event)
  belief_is_total event = belief_where ◌+◌ (weights_of network tree H) event ∙ products_are_total (holds event)

  pub others_are_total : (asked : Asked) → IsQuestionOf network asked
      → exact_others ◌+◌ (weights_of network tree H) asked (slice_index (sizes network) asked.target.variable) ≡ total network H (without_target asked)
  others_are_total asked fits = others_where ◌+◌ sums_lawful (weights_of network tree H) asked fits.target.variable ∙ products_are_total (without_target asked)

  pub whole_is_sum : whole_sum (weights_of network tree H) ≡ sum_by (weight network H) (all_states network)
  whole_is_sum = ap (λ (w : List ℕ → ℕ). sum_by w (states (sizes network))) (fun_ext product_is_weight)
      ∙ sym (over_all network (weight network H) (λ s e. rw e (omega arith)))

  pub weights_are_small : IsSmall network H → whole_sum (weights_of network tree H) < number_limit
  weights_are_small small = subst (λ n. n < 2 ^ 63) (sym whole_is_sum) small

pub target_is_total : (network : List Variable) (H : List Entry) (asked : Asked) → total network H (holds (pairs_asked asked)) ≡ total network H (with_target asked)
target_is_total network H asked = ap (total network H) (holds_asked asked)

pub cases_are_all : (network : List Variable) (H : List Entry) (asked : Asked)
    → total network H (with_target asked) + total network H (without_target asked) ≡ total network H (holds asked.condition)
cases_are_all network H asked = sym (total_condition network H asked)
