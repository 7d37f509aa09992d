-- The initial weights of all states together: variable after variable, the shares of a row make a million.
use Rattle.std.proofs.Common.{◌≡◌, ℕ, zero, suc, ◌+◌, ◌*◌, ◌^◌, ◌<◌, ◌≤◌, List, [], ◌∷◌, ◌++◌, length, take, slice_index, slice_index_or, sum, sum_by, refl, sym, ap, ap₂, ◌∙◌, subst, arith, pow-suc, mul_comm}
use Rattle.std.proofs.Math.Path.{fun_ext}
use Rattle.std.proofs.Math.Nat.{pow-zero}
use Rattle.std.proofs.Math.Seq.{take-suc, get_or-append_seam}
use Rattle.std.proofs.Math.ListN.{get_or-append}
use Rattle.std.specs.List.{AllByRecursion}
use Rattle.std.proofs.lemmas.List.{take_all, get_or-take, length-take-le, map-id}
use Rattle.std.proofs.lemmas.List.FromFn.{map-range_with_len_more, fill_by_all}
use Rattle.std.proofs.lemmas.List.Sums.{sum-map}
use Rattle.std.proofs.lemmas.List.Elements.{recursion_from_All}
use Rattle.mk_net.specs.Bounds.{million}
use Rattle.mk_net.specs.Network.{Variable, sizes, IsRow, IsNetwork}
use Rattle.mk_net.specs.Named.{variable_at, nobody}
use Rattle.mk_states.specs.States.{states, numbers_below, product_by, IsState}
use Rattle.mk_states.specs.InitialWeight.{value_at, row_number, entry, initial_weight, initial_total}
use Rattle.mk_states.proofs.Sums.{plus_over_each, each_number, each_weaker, product_by_push, sum_by-times, sum_by_each}
use Rattle.mk_states.proofs.Listed.{states_are, as_many}
use Rattle.mk_states.proofs.Shares.{size_at, row_below}
use Rattle.mk_exact.proofs.Comes.{same_row, entry_same}
use Rattle.mk_exact.proofs.Single.{over_all}
use Rattle.mk_exact.proofs.Longer.{sum_longer}

module _ (network : List Variable) (net : IsNetwork network) where
  -- the sizes of the first k variables, and the product of the shares that a state picks of them
  abbrev first_sizes : ℕ → List ℕ
  first_sizes k = take k (sizes network)

  abbrev first_weight : ℕ → List ℕ → ℕ
  first_weight k s = product_by (λ j. entry network j s) (numbers_below k)

  module _ (k : ℕ) (within : k < length network) (s : List ℕ) (is_state : IsState (first_sizes k) s) where
    long : length s ≡ k
    long = is_state.one_each ∙ length-take-le k (sizes network) (omega (arith, as_many network))

    ranged : (j : ℕ) → j < k → value_at s j < slice_index (sizes network) j
    ranged j h = subst (λ (n : ℕ). value_at s j < n) (get_or-take k (sizes network) j 0 h) (is_state.in_range j (omega (arith, long, is_state.one_each)))

    earlier : AllByRecursion (λ p. p < k) (variable_at network k).parents
    earlier = recursion_from_All (λ p. p < k) (variable_at network k).parents (net.each k nobody within).parents_earlier

    picked : List ℕ
    picked = slice_index_or (variable_at network k).rows (row_number (sizes network) (variable_at network k).parents s) []

    row : IsRow (length (variable_at network k).values) picked
    unfolding picked
    row = (net.each k nobody within).rows_fit (row_number (sizes network) (variable_at network k).parents s) []
        (omega (arith, (net.each k nobody within).one_row_each, row_below (sizes network) k s ranged (variable_at network k).parents 0 1 (omega arith) earlier))

    last : (x : ℕ) → value_at (s ++ x ∷ []) k ≡ x
    last x = subst (λ (n : ℕ). value_at (s ++ x ∷ []) n ≡ x) long (get_or-append_seam s x [] 0)

    entry_last : (x : ℕ) → entry network k (s ++ x ∷ []) ≡ slice_index picked x
    unfolding picked
    entry_last x = ap₂ (λ (r v : ℕ). slice_index (slice_index_or (variable_at network k).rows r []) v)
        (same_row (sizes network) (s ++ x ∷ []) s (variable_at network k).parents 0
        (each_weaker (λ p. p < k) (λ p. value_at (s ++ x ∷ []) p ≡ value_at s p) (λ p q. get_or-append s (x ∷ []) 0 p (omega (arith, long))) (variable_at network k).parents earlier))
        (last x)

    shares_whole : sum_by (slice_index picked) (numbers_below (slice_index (sizes network) k)) ≡ million
    shares_whole =
        ap (λ n. sum_by (slice_index picked) (numbers_below n)) (size_at network net k within)
        ∙ sym (sum-map (slice_index picked) (numbers_below (length (variable_at network k).values)))
        ∙ ap sum (sym (fill_by_all (slice_index picked) picked (length (variable_at network k).values) 0 row.one_each (λ j h. refl)))
        ∙ row.whole

    numbers_more : numbers_below (k + 1) ≡ numbers_below k ++ k ∷ []
    numbers_more = sym (map-id (numbers_below (k + 1))) ∙ map-range_with_len_more (λ j. j) 0 k k (omega arith) ∙ ap (λ ks. ks ++ k ∷ []) (map-id (numbers_below k))

    weight_last : (x : ℕ) → first_weight (k + 1) (s ++ x ∷ []) ≡ first_weight k s * slice_index picked x
    weight_last x =
        ap (product_by (λ j. entry network j (s ++ x ∷ []))) numbers_more
        ∙ product_by_push (λ j. entry network j (s ++ x ∷ [])) (numbers_below k) k
        ∙ ap₂ ◌*◌ (plus_over_each ◌*◌ 1 (λ j. entry network j (s ++ x ∷ [])) (λ j. entry network j s) (numbers_below k)
        (each_number (λ j. entry network j (s ++ x ∷ []) ≡ entry network j s) k 0 (λ j p q. entry_same network net j k s x (omega arith) (omega arith) long))) (entry_last x)

    -- over the values of one variable more
    pub one_more : sum_by (λ x. first_weight (k + 1) (s ++ x ∷ [])) (numbers_below (slice_index (sizes network) k)) ≡ million * first_weight k s
    one_more =
        ap (λ (f : ℕ → ℕ). sum_by f (numbers_below (slice_index (sizes network) k))) (fun_ext weight_last)
        ∙ sum_by-times (first_weight k s) (slice_index picked) (numbers_below (slice_index (sizes network) k))
        ∙ ap (λ n. first_weight k s * n) shares_whole
        ∙ mul_comm (first_weight k s) million

  first_total : (k : ℕ) → k ≤ length network → sum_by (first_weight k) (states (first_sizes k)) ≡ million ^ k
  first_total zero h = sym (pow-zero million)
  first_total (suc k) h =
      ap (λ n. sum_by (first_weight n) (states (first_sizes (suc k)))) plus_one
      ∙ ap (λ ns. sum_by (first_weight (k + 1)) (states ns)) (take-suc (sizes network) k 0 (omega (arith, as_many network)))
      ∙ sum_longer (first_weight (k + 1)) (first_sizes k) (slice_index (sizes network) k)
      ∙ sum_by_each (λ s. sum_by (λ x. first_weight (k + 1) (s ++ x ∷ [])) (numbers_below (slice_index (sizes network) k))) (λ s. million * first_weight k s) (states (first_sizes k))
      (each_weaker (IsState (first_sizes k)) (λ s. sum_by (λ x. first_weight (k + 1) (s ++ x ∷ [])) (numbers_below (slice_index (sizes network) k)) ≡ million * first_weight k s)
      (λ s is_state. one_more k (omega arith) s is_state) (states (first_sizes k)) (states_are (first_sizes k)))
      ∙ sum_by-times million (first_weight k) (states (first_sizes k))
      ∙ ap (λ n. million * n) (first_total k (omega arith))
      ∙ mul_comm million (million ^ k)
      ∙ sym (pow-suc million k)
    where
      plus_one : suc k ≡ k + 1
      plus_one = omega arith

  pub initial_total_is : initial_total network ≡ million ^ length network
  initial_total_is =
      over_all network (initial_weight network) (λ s e. e)
      ∙ ap (λ ns. sum_by (initial_weight network) (states ns)) (sym (take_all (length network) (sizes network) (omega (arith, as_many network))))
      ∙ first_total (length network) (omega arith)
