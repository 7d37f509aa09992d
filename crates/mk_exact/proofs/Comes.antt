-- Some state of each network can come: variable after variable, a value whose share is not nothing.
use Rattle.std.proofs.Common.{◌≡◌, ℕ, suc, zero, ◌+◌, ◌*◌, ◌<◌, ◌≤◌, ◌⊎◌, inl, inr, Bool, true, false, cond, List, [], ◌∷◌, ◌++◌, ◌||◌, map, flat_map, length, filter, slice_index, slice_index_or, fold, sum, refl, sym, ap, ap₂, ◌∙◌, subst, arith, length-append}
use Rattle.std.specs.List.{list_any, AllByRecursion}
use Rattle.std.proofs.lemmas.List.Folds.{list_any-append, list_any_at}
use Rattle.std.proofs.lemmas.List.FromFn.{get_or-range_with_len, length-range_with_len}
use Rattle.std.proofs.lemmas.List.Elements.{recursion_from_All}
use Rattle.mk_net.proofs.Mapped.{any_of_map}
use Rattle.std.proofs.Math.ListN.{get_or-append}
use Rattle.std.proofs.Math.Seq.{get_or-append_seam}
use Rattle.std.proofs.lemmas.Bool.{le-leb, cases_lt}
use Rattle.mk_net.specs.Network.{Variable, sizes, choices, IsRow, IsNetwork}
use Rattle.mk_net.specs.Named.{variable_at, nobody}
use Rattle.mk_states.specs.States.{states, numbers_below, IsState}
use Rattle.mk_states.specs.InitialWeight.{all_states, can_come, value_at, row_number, entry, initial_weight}
use Rattle.mk_states.proofs.Sums.{each_weaker, each_number, product_by_pos}
use Rattle.mk_states.proofs.Listed.{as_many}
use Rattle.mk_states.proofs.Shares.{size_at, row_below}

-- a state that passes a test is among those that are listed
any_of_flat_map : {X Y : Type 0} (test : Y → Bool) (g : X → List Y) (xs : List X) → list_any test (flat_map g xs) ≡ list_any (λ x. list_any test (g x)) xs
any_of_flat_map test g [] = refl
any_of_flat_map test g (x ∷ xs) = list_any-append test (g x) (flat_map g xs) ∙ ap (λ b. list_any test (g x) || b) (any_of_flat_map test g xs)

pub is_listed : (sizes s : List ℕ) (test : List ℕ → Bool) → IsState sizes s → test s ≡ true → list_any test (states sizes) ≡ true
is_listed [] [] test is_state passes = rw passes refl
is_listed [] (v ∷ s) test is_state passes = absurd (let e : suc (length s) ≡ 0 = is_state.one_each in omega arith)
is_listed (size ∷ sizes) [] test is_state passes = absurd (let e : 0 ≡ suc (length sizes) = is_state.one_each in omega arith)
is_listed (size ∷ sizes) (v ∷ s) test is_state passes =
    any_of_flat_map test (λ x. map (λ t. x ∷ t) (states sizes)) (numbers_below size)
    ∙ list_any_at (λ x. list_any test (map (λ t. x ∷ t) (states sizes))) (numbers_below size) v 0 (omega (arith, below, length-range_with_len 0 size))
    (rw is_v (any_of_map (λ t. v ∷ t) test (states sizes) ∙ is_listed sizes s (λ t. test (v ∷ t)) rest passes))
  where
    below : v < size
    below = is_state.in_range 0 (omega arith)

    is_v : slice_index (numbers_below size) v ≡ v
    is_v = get_or-range_with_len 0 size v 0 below ∙ omega arith

    rest : IsState sizes s
    rest = record { one_each = let e : suc (length s) ≡ suc (length sizes) = is_state.one_each in omega arith; in_range = λ k p. is_state.in_range (suc k) (omega arith) }

pub some_kept : {X : Type 0} (test : X → Bool) (xs : List X) → list_any test xs ≡ true → 1 ≤ length (filter test xs)
some_kept test [] h = absurd (cc)
some_kept test (x ∷ xs) h = at (test x) h (some_kept test xs)
  where
    at : (b : Bool) → b || list_any test xs ≡ true → (list_any test xs ≡ true → 1 ≤ length (filter test xs)) → 1 ≤ length (cond b (x ∷ filter test xs) (filter test xs))
    at true h rest = omega arith
    at false h rest = rest h

-- a list whose sum is not nothing has a number that is not
some_share : (row : List ℕ) → 1 ≤ sum row → (x : ℕ) × (x < length row) × (1 ≤ slice_index row x)
some_share [] h = absurd (omega arith)
some_share (zero ∷ row) h = at (some_share row (omega (arith, h)))
  where
    at : (x : ℕ) × (x < length row) × (1 ≤ slice_index row x) → (x : ℕ) × (x < length (zero ∷ row)) × (1 ≤ slice_index (zero ∷ row) x)
    at f = (suc (f.0), omega (arith, f.1), f.2)
some_share (suc n ∷ row) h = (0, omega arith, omega arith)

-- a row depends on the parents' values alone
pub same_row : (sizes s t parents : List ℕ) (row : ℕ) → AllByRecursion (λ p. value_at s p ≡ value_at t p) parents
    → fold (λ r p. r * slice_index sizes p + value_at s p) row parents ≡ fold (λ r p. r * slice_index sizes p + value_at t p) row parents
same_row sizes s t [] row h = refl
same_row sizes s t (p ∷ parents) row h = rw (h.0) (same_row sizes s t parents (row * slice_index sizes p + value_at t p) h.1)

module _ (network : List Variable) (net : IsNetwork network) where
  -- values of the first k variables whose shares are not nothing
  record IsBegun (k : ℕ) (s : List ℕ) : Type 0 where
    long : length s ≡ k
    in_range : (j : ℕ) → j < k → value_at s j < slice_index (sizes network) j
    shares : (j : ℕ) → j < k → 1 ≤ entry network j s

  pub entry_same : (j k : ℕ) (s : List ℕ) (x : ℕ) → j < k → k ≤ length network → length s ≡ k → entry network j (s ++ x ∷ []) ≡ entry network j s
  entry_same j k s x before within long =
      ap₂ (λ (row v : ℕ). slice_index (slice_index_or (variable_at network j).rows row []) v)
      (same_row (sizes network) (s ++ x ∷ []) s (variable_at network j).parents 0 (each_weaker (λ p. p < j) (λ p. value_at (s ++ x ∷ []) p ≡ value_at s p) (λ p q. get_or-append s (x ∷ []) 0 p (omega (arith, long))) (variable_at network j).parents (earlier j (omega arith))))
      (get_or-append s (x ∷ []) 0 j (omega (arith, long)))
    where
      earlier : (j : ℕ) → j < length network → AllByRecursion (λ p. p < j) (variable_at network j).parents
      earlier j h = recursion_from_All (λ p. p < j) (variable_at network j).parents (net.each j nobody h).parents_earlier

  step : (k : ℕ) (s : List ℕ) → k < length network → IsBegun k s → (t : List ℕ) × IsBegun (k + 1) t
  step k s within begun = at (some_share picked (omega (arith, row.whole)))
    where
      number : ℕ
      number = row_number (sizes network) (variable_at network k).parents s

      picked : List ℕ
      picked = slice_index_or (variable_at network k).rows number []

      below : number < length (variable_at network k).rows
      below = omega (arith, (net.each k nobody within).one_row_each, row_below_begun)
        where
          row_below_begun : number < 1 * choices (sizes network) (variable_at network k).parents
          row_below_begun = row_below (sizes network) k s begun.in_range (variable_at network k).parents 0 1 (omega arith)
              (recursion_from_All (λ p. p < k) (variable_at network k).parents (net.each k nobody within).parents_earlier)

      row : IsRow (length (variable_at network k).values) picked
      row = (net.each k nobody within).rows_fit number [] below

      at : (x : ℕ) × (x < length picked) × (1 ≤ slice_index picked x) → (t : List ℕ) × IsBegun (k + 1) t
      at found = (s ++ found.0 ∷ [], record { long = length-append s (found.0 ∷ []) ∙ omega (arith, begun.long); in_range = ranged; shares = shared })
        where
          last : value_at (s ++ found.0 ∷ []) k ≡ found.0
          last = subst (λ (n : ℕ). value_at (s ++ found.0 ∷ []) n ≡ found.0) begun.long (get_or-append_seam s (found.0) [] 0)

          ranged : (j : ℕ) → j < k + 1 → value_at (s ++ found.0 ∷ []) j < slice_index (sizes network) j
          ranged j h = or_last (cases_lt j k)
            where
              or_last : ((j < k) ⊎ (k ≤ j)) → value_at (s ++ found.0 ∷ []) j < slice_index (sizes network) j
              or_last (inl p) = rw (get_or-append s (found.0 ∷ []) 0 j (omega (arith, begun.long))) (begun.in_range j p)
              or_last (inr p) = let same : k ≡ j = omega arith in subst (λ (n : ℕ). value_at (s ++ found.0 ∷ []) n < slice_index (sizes network) n) same
                  (rw last (omega (arith, found.1, row.one_each, size_at network net k within)))

          here : entry network k (s ++ found.0 ∷ []) ≡ slice_index picked (found.0)
          here = ap₂ (λ (r v : ℕ). slice_index (slice_index_or (variable_at network k).rows r []) v)
              (same_row (sizes network) (s ++ found.0 ∷ []) s (variable_at network k).parents 0
              (each_weaker (λ p. p < k) (λ p. value_at (s ++ found.0 ∷ []) p ≡ value_at s p) (λ p q. get_or-append s (found.0 ∷ []) 0 p (omega (arith, begun.long))) (variable_at network k).parents
              (recursion_from_All (λ p. p < k) (variable_at network k).parents (net.each k nobody within).parents_earlier)))
              last

          shared : (j : ℕ) → j < k + 1 → 1 ≤ entry network j (s ++ found.0 ∷ [])
          shared j h = or_last (cases_lt j k)
            where
              or_last : ((j < k) ⊎ (k ≤ j)) → 1 ≤ entry network j (s ++ found.0 ∷ [])
              or_last (inl p) = rw (entry_same j k s (found.0) p (omega arith) begun.long) (begun.shares j p)
              or_last (inr p) = let same : k ≡ j = omega arith in subst (λ (n : ℕ). 1 ≤ entry network n (s ++ found.0 ∷ [])) same (rw here (found.2))

  begin : (k : ℕ) → k ≤ length network → (s : List ℕ) × IsBegun k s
  begin zero h = ([], record { long = refl; in_range = λ j p. absurd (omega arith); shares = λ j p. absurd (omega arith) })
  begin (suc k) h = more (begin k (omega arith))
    where
      more : (s : List ℕ) × IsBegun k s → (s : List ℕ) × IsBegun (suc k) s
      more b = subst (λ (n : ℕ). (s : List ℕ) × IsBegun n s) (omega arith) (step k (b.0) (omega arith) (b.1))

  pub some_can : 1 ≤ length (all_states network)
  some_can = at (begin (length network) (omega arith))
    where
      at : (s : List ℕ) × IsBegun (length network) s → 1 ≤ length (all_states network)
      at b = some_kept (can_come network) (states (sizes network)) (is_listed (sizes network) (b.0) (can_come network)
          (record { one_each = (b.1).long ∙ sym (as_many network); in_range = λ k p. (b.1).in_range k (omega (arith, as_many network)) })
          (le-leb 1 (initial_weight network (b.0)) (product_by_pos (λ k. entry network k (b.0)) (numbers_below (length network)) (each_number (λ k. 1 ≤ entry network k (b.0)) (length network) 0 (λ k p q. (b.1).shares k (omega arith))))))
