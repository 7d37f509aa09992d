-- The number of a row, parent by parent, where each parent has one of its values.
use Rattle.std.proofs.Common.{◌≡◌, ℕ, ◌+◌, ◌*◌, ◌^◌, ◌<◌, ◌≤◌, List, [], ◌∷◌, length, get_or, take, take_all, fold, slice_index, All, sym, ap, ◌∙◌, arith, subst, add-one, pow-suc, mul-le-mul_right, lt_of_lt_of_le, le_refl}
use Rattle.std.proofs.Math.Nat.{pow-le-pow_right}
use Rattle.std.proofs.lemmas.Nat.{mul-add-lt}
use Rattle.std.proofs.lemmas.List.Sums.{fold_more}
use Rattle.std.proofs.lemmas.List.Elements.{All-head, All-tail, All-same, All-from_recursion}
use Rattle.mk_net.specs.Network.{Variable, sizes, choices, IsNetwork}
use Rattle.mk_net.specs.Named.{variable_at, nobody}
use Rattle.mk_states.proofs.Shares.{few_values_at, parents_within}
use Rattle.mk_sums.specs.There.{row_there}

number_grows : (row size v i : ℕ) → row < 16 ^ i → size ≤ 16 → v < size → row * size + v < 16 ^ (i + 1)
number_grows row size v i p q r = lt_of_lt_of_le (mul-add-lt row size v (16 ^ i) p r) (rw (add-one i, pow-suc 16 i) (let m : size * 16 ^ i ≤ 16 * 16 ^ i = mul-le-mul_right (16 ^ i) q in omega arith))

row_below : (sizes : List ℕ) (a : ℕ → ℕ) (parents : List ℕ) (row rows : ℕ) → row < rows → All (λ p. a p < slice_index sizes p) parents
    → fold (λ r p. r * slice_index sizes p + a p) row parents < rows * choices sizes parents
row_below sizes a [] row rows h fit = omega arith
row_below sizes a (p ∷ parents) row rows h fit =
    subst (λ (n : ℕ). fold (λ r q. r * slice_index sizes q + a q) (row * slice_index sizes p + a p) parents < n) regroup
    (row_below sizes a parents (row * slice_index sizes p + a p) (slice_index sizes p * rows) (mul-add-lt row (slice_index sizes p) (a p) rows h (All-head (λ p. a p < slice_index sizes p) p parents fit)) (All-tail (λ p. a p < slice_index sizes p) p parents fit))
  where
    regroup : slice_index sizes p * rows * choices sizes parents ≡ rows * (slice_index sizes p * choices sizes parents)
    regroup = omega arith

module _ (network : List Variable) (net : IsNetwork network) (k : ℕ) (within : k < length network) (a : ℕ → ℕ)
    (fit : All (λ p. a p < slice_index (sizes network) p) (variable_at network k).parents) where
  pub row_within : row_there (sizes network) (variable_at network k).parents a < length (variable_at network k).rows
  row_within = omega (arith, (net.each k nobody within).one_row_each, row_below (sizes network) a (variable_at network k).parents 0 1 (le_refl 1) fit)

  module _ (parents : List ℕ) (are : parents ≡ (variable_at network k).parents) where
    pub step_small : (i row : ℕ) → i < length parents → row < 16 ^ i → row * slice_index (sizes network) (get_or parents i 0) + a (get_or parents i 0) < 16 ^ (i + 1)
    step_small i row h p = number_grows row _ _ i p (few_values_at network net (get_or parents i 0) parent) (All-same (λ p. a p < slice_index (sizes network) p) parents (variable_at network k).parents are fit i 0 h)
      where
        parent : get_or parents i 0 < length network
        parent = All-same (λ p. p < length network) parents (variable_at network k).parents are (All-from_recursion (λ p. p < length network) (variable_at network k).parents (parents_within network net k within)) i 0 h

    pub step_number : (i row : ℕ) → i < length parents → row ≡ fold (λ r p. r * slice_index (sizes network) p + a p) 0 (take i parents)
        → row * slice_index (sizes network) (get_or parents i 0) + a (get_or parents i 0) ≡ fold (λ r p. r * slice_index (sizes network) p + a p) 0 (take (i + 1) parents)
    step_number i row h e = rw e (sym (fold_more (λ r p. r * slice_index (sizes network) p + a p) 0 parents i 0 h))

    pub all_number : (i row : ℕ) → length parents ≤ i → row ≡ fold (λ r p. r * slice_index (sizes network) p + a p) 0 (take i parents) → row ≡ row_there (sizes network) (variable_at network k).parents a
    all_number i row h e = e ∙ ap (fold (λ r p. r * slice_index (sizes network) p + a p) 0) (take_all i parents h ∙ are)

    pub all_below : (i row : ℕ) → length parents ≤ i → row ≡ fold (λ r p. r * slice_index (sizes network) p + a p) 0 (take i parents) → row < length (variable_at network k).rows
    all_below i row h e = rw (all_number i row h e) row_within

    pub row_fits : (i row : ℕ) → i ≤ length parents → row < 16 ^ i → row < 2 ^ 32
    row_fits i row h p = lt_of_lt_of_le p (let q : i ≤ 8 = omega (arith, ap (λ (ps : List ℕ). length ps) are, (net.each k nobody within).few_parents) in pow-le-pow_right {n = 16} (omega arith) q)

    pub next_fits : (i row : ℕ) → i < length parents → row < 16 ^ i → row * slice_index (sizes network) (get_or parents i 0) + a (get_or parents i 0) < 2 ^ 32
    next_fits i row h p = row_fits (i + 1) _ (omega arith) (step_small i row h p)
