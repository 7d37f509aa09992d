-- The number of a row, parent by parent.
use Rattle.std.proofs.Common.{◌≡◌, ℕ, ◌+◌, ◌*◌, ◌^◌, ◌<◌, ◌≤◌, List, length, get_or, take, take_all, fold, slice_index, sym, ap, ◌∙◌, arith, subst, add-one, pow-suc, mul-le-mul_right, lt_of_lt_of_le, le_trans}
use Rattle.std.proofs.Math.Nat.{pow-le-pow_right}
use Rattle.std.proofs.lemmas.Nat.{mul-add-lt}
use Rattle.std.proofs.lemmas.List.Sums.{fold_more}
use Rattle.std.proofs.lemmas.List.Elements.{All-from_recursion}
use Rattle.mk_net.specs.Network.{Variable, sizes, IsNetwork}
use Rattle.mk_net.specs.Named.{variable_at, nobody}
use Rattle.mk_states.specs.States.{IsState}
use Rattle.mk_states.specs.InitialWeight.{row_number}
use Rattle.mk_states.proofs.Listed.{as_many}
use Rattle.mk_states.proofs.Shares.{few_values_at, parents_within, row_number_below}

number_grows : (row size v i : ℕ) → row < 16 ^ i → size ≤ 16 → v < size → row * size + v < 16 ^ (i + 1)
number_grows row size v i p q r = lt_of_lt_of_le (mul-add-lt row size v (16 ^ i) p r) (rw (add-one i, pow-suc 16 i) (let m : size * 16 ^ i ≤ 16 * 16 ^ i = mul-le-mul_right (16 ^ i) q in omega arith))

module _ (network : List Variable) (net : IsNetwork network) (s : List ℕ) (is_state : IsState (sizes network) s) (k : ℕ) (within : k < length network)
    (parents : List ℕ) (are : parents ≡ (variable_at network k).parents) where
  pub step_small : (i row : ℕ) → i < length parents → row < 16 ^ i → row * slice_index (sizes network) (get_or parents i 0) + slice_index s (get_or parents i 0) < 16 ^ (i + 1)
  step_small i row h p = number_grows row _ _ i p (few_values_at network net (get_or parents i 0) parent) (is_state.in_range (get_or parents i 0) (omega (arith, parent, as_many network)))
    where
      parent : get_or parents i 0 < length network
      parent = subst (λ (ps : List ℕ). i < length ps → get_or ps i 0 < length network) (sym are) (λ q. All-from_recursion (λ p. p < length network) (variable_at network k).parents (parents_within network net k within) i 0 q) h

  pub step_fits : (i row : ℕ) → i < length parents → row < 16 ^ i → row * slice_index (sizes network) (get_or parents i 0) + slice_index s (get_or parents i 0) < 2 ^ 64
  step_fits i row h p = lt_of_lt_of_le (step_small i row h p) (le_trans powers (let e : 16 ^ 8 ≤ 2 ^ 64 = omega arith in e))
    where
      powers : 16 ^ (i + 1) ≤ 16 ^ 8
      powers = let q : i + 1 ≤ 8 = omega (arith, ap (λ (ps : List ℕ). length ps) are, (net.each k nobody within).few_parents) in pow-le-pow_right {n = 16} (omega arith) q

  pub step_number : (i row : ℕ) → i < length parents → row ≡ fold (λ r p. r * slice_index (sizes network) p + slice_index s p) 0 (take i parents)
      → row * slice_index (sizes network) (get_or parents i 0) + slice_index s (get_or parents i 0) ≡ fold (λ r p. r * slice_index (sizes network) p + slice_index s p) 0 (take (i + 1) parents)
  step_number i row h e = rw e (sym (fold_more (λ r p. r * slice_index (sizes network) p + slice_index s p) 0 parents i 0 h))

  pub all_number : (i row : ℕ) → length parents ≤ i → row ≡ fold (λ r p. r * slice_index (sizes network) p + slice_index s p) 0 (take i parents) → row ≡ row_number (sizes network) (variable_at network k).parents s
  all_number i row h e = e ∙ ap (fold (λ r p. r * slice_index (sizes network) p + slice_index s p) 0) (take_all i parents h ∙ are)

  pub all_below : (i row : ℕ) → length parents ≤ i → row ≡ fold (λ r p. r * slice_index (sizes network) p + slice_index s p) 0 (take i parents) → row < length (variable_at network k).rows
  all_below i row h e = rw (all_number i row h e) (row_number_below network net s is_state k within)

  pub row_fits : (i row : ℕ) → i ≤ length parents → row < 16 ^ i → row < 2 ^ 32
  row_fits i row h p = lt_of_lt_of_le p (let q : i ≤ 8 = omega (arith, ap (λ (ps : List ℕ). length ps) are, (net.each k nobody within).few_parents) in pow-le-pow_right {n = 16} (omega arith) q)
