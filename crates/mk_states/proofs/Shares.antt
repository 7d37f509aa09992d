-- The rows that a state picks; each share of a state that can come is 1 to a million.
use Rattle.std.proofs.Common.{◌≡◌, ℕ, zero, suc, ◌∙◌, mul-zero, ◌+◌, ◌*◌, ◌<◌, ◌≤◌, List, [], ◌∷◌, length, slice_index, slice_index_or, fold, All, subst, arith, le_refl}
use Rattle.std.specs.List.{AllByRecursion}
use Rattle.std.proofs.lemmas.Nat.{mul-add-lt}
use Rattle.std.proofs.lemmas.List.{get_or-map}
use Rattle.std.proofs.lemmas.List.FromFn.{get_or-range_with_len, length-range_with_len}
use Rattle.std.proofs.lemmas.List.Sums.{get_or-le-sum_by}
use Rattle.std.proofs.lemmas.List.Elements.{All-from_recursion, recursion_from_All}
use Rattle.mk_net.specs.Network.{Variable, sizes, choices, IsRow, IsNetwork}
use Rattle.mk_net.specs.Named.{variable_at, nobody}
use Rattle.mk_net.specs.Zeros.{HasNoZeros}
use Rattle.mk_states.specs.States.{numbers_below, product_by, IsState}
use Rattle.mk_states.specs.InitialWeight.{all_states, value_at, row_number, entry, initial_weight}
use Rattle.mk_states.specs.Shares.{HasShares}
use Rattle.mk_states.proofs.Sums.{each_number, each_weaker, product_by_pos}
use Rattle.mk_states.proofs.Listed.{all_can, as_many}

-- the row that a state picks is one of the rows
pub row_below : (sizes : List ℕ) (k : ℕ) (s : List ℕ) → ((j : ℕ) → j < k → value_at s j < slice_index sizes j) → (parents : List ℕ) (row rows : ℕ) → row < rows → AllByRecursion (λ p. p < k) parents
    → fold (λ r p. r * slice_index sizes p + value_at s p) row parents < rows * choices sizes parents
row_below sizes k s in_range [] row rows h fit = omega arith
row_below sizes k s in_range (p ∷ parents) row rows h fit =
    subst (λ (n : ℕ). fold (λ r q. r * slice_index sizes q + value_at s q) (row * slice_index sizes p + value_at s p) parents < n) regroup
    (row_below sizes k s in_range parents (row * slice_index sizes p + value_at s p) (slice_index sizes p * rows) (mul-add-lt row (slice_index sizes p) (value_at s p) rows h (in_range p fit.0)) fit.1)
  where
    regroup : slice_index sizes p * rows * choices sizes parents ≡ rows * (slice_index sizes p * choices sizes parents)
    regroup = omega arith

module _ (network : List Variable) (net : IsNetwork network) where
  pub size_at : (k : ℕ) → k < length network → slice_index (sizes network) k ≡ length (variable_at network k).values
  size_at k h = get_or-map (λ (w : Variable). length w.values) network k nobody 0 h

  -- each variable has at most 16 values, and its parents are variables
  pub few_values_at : (k : ℕ) → k < length network → slice_index (sizes network) k ≤ 16
  few_values_at k h = omega (arith, size_at k h, (net.each k nobody h).few_values)

  pub parents_within : (k : ℕ) → k < length network → AllByRecursion (λ p. p < length network) (variable_at network k).parents
  parents_within k h = each_weaker (λ p. p < k) (λ p. p < length network) (λ p q. omega arith) (variable_at network k).parents (recursion_from_All (λ p. p < k) (variable_at network k).parents (net.each k nobody h).parents_earlier)

module _ (network : List Variable) (net : IsNetwork network) (s : List ℕ) (is_state : IsState (sizes network) s) where
  pub row_number_below : (k : ℕ) → k < length network → row_number (sizes network) (variable_at network k).parents s < length (variable_at network k).rows
  row_number_below k h = omega (arith, (net.each k nobody h).one_row_each, row_below (sizes network) (length (sizes network)) s is_state.in_range (variable_at network k).parents 0 1 (le_refl 1) fit)
    where
      fit : AllByRecursion (λ p. p < length (sizes network)) (variable_at network k).parents
      fit = each_weaker (λ p. p < length network) (λ p. p < length (sizes network)) (λ p q. omega (arith, as_many network)) (variable_at network k).parents (parents_within network net k h)

  abbrev picked : (k : ℕ) → List ℕ
  picked k = slice_index_or (variable_at network k).rows (row_number (sizes network) (variable_at network k).parents s) []

  pub value_below_row : (k : ℕ) → k < length network → value_at s k < length (picked k)
  value_below_row k h = omega (arith, size_at network net k h, is_state.in_range k (omega (arith, as_many network)), row.one_each)
    where
      row : IsRow (length (variable_at network k).values) (picked k)
      row = (net.each k nobody h).rows_fit (row_number (sizes network) (variable_at network k).parents s) [] (row_number_below k h)

  pub share_at_most : (k : ℕ) → k < length network → entry network k s ≤ 1000000
  share_at_most k h = omega (arith, get_or-le-sum_by (λ (n : ℕ). n) (picked k) (value_at s k) 0 (value_below_row k h), row.whole)
    where
      row : IsRow (length (variable_at network k).values) (picked k)
      row = (net.each k nobody h).rows_fit (row_number (sizes network) (variable_at network k).parents s) [] (row_number_below k h)

  -- without zeros each state can come
  pub weight_without_zeros : HasNoZeros network → 1 ≤ initial_weight network s
  weight_without_zeros none = product_by_pos (λ k. entry network k s) (numbers_below (length network)) (each_number (λ k. 1 ≤ entry network k s) (length network) 0
      (λ k p q. none k (omega arith) (row_number (sizes network) (variable_at network k).parents s) [] (row_number_below k (omega arith)) (value_at s k) 0 (value_below_row k (omega arith))))

both_positive : (a b : ℕ) → 1 ≤ a * b → (1 ≤ a) × (1 ≤ b)
both_positive zero b h = absurd (omega arith)
both_positive (suc a) zero h = absurd (let e : suc a * 0 ≡ 0 = mul-zero (suc a) in omega arith)
both_positive (suc a) (suc b) h = (omega arith, omega arith)

each_positive : {X : Type 0} (f : X → ℕ) (xs : List X) → 1 ≤ product_by f xs → AllByRecursion (λ x. 1 ≤ f x) xs
each_positive f [] h = tt
each_positive f (x ∷ xs) h = let p = both_positive (f x) (product_by f xs) h in (p.0, each_positive f xs (p.1))

-- where a state can come, each share that it picks is at least one
pub share_positive : (network : List Variable) (s : List ℕ) → 1 ≤ initial_weight network s → (k : ℕ) → k < length network → 1 ≤ entry network k s
share_positive network s h k within = subst (λ (n : ℕ). 1 ≤ entry network n s) is_k
    (All-from_recursion (λ k. 1 ≤ entry network k s) (numbers_below (length network)) (each_positive (λ k. entry network k s) (numbers_below (length network)) h) k 0 (omega (arith, length-range_with_len 0 (length network))))
  where
    is_k : slice_index (numbers_below (length network)) k ≡ k
    is_k = get_or-range_with_len 0 (length network) k 0 within ∙ omega arith

pub shares_positive : (network : List Variable) → IsNetwork network → All (HasShares network) (all_states network)
shares_positive network net = All-from_recursion (HasShares network) (all_states network)
    (each_weaker (λ s. IsState (sizes network) s × (1 ≤ initial_weight network s)) (HasShares network)
    (λ s h. record { shares = λ k within. (share_positive network s h.1 k within, share_at_most network net s h.0 k within); weight = h.1 }) (all_states network) (all_can network))
