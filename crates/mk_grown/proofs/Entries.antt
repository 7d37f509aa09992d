-- What a longer state picks in a network with one variable more.
use Rattle.std.proofs.Common.{◌≡◌, ℕ, zero, suc, ◌+◌, ◌*◌, ◌<◌, ◌≤◌, ◌⊎◌, inl, inr, Bool, cond}
use Rattle.std.proofs.Common.{◌&&◌, ◌==◌, nat_le}
use Rattle.std.proofs.Common.{List, [], ◌∷◌, ◌++◌, length, slice_index, slice_index_or, fold, All}
use Rattle.std.proofs.Math.Path.{fun_ext}
use Rattle.std.proofs.Common.{sum, sum_by, refl, sym, ap, ap₂, ◌∙◌, subst, arith}
use Rattle.std.specs.List.{AllByRecursion}
use Rattle.std.proofs.lemmas.List.{map-id, get_or_append_left, get_or_push, length_push}
use Rattle.std.proofs.lemmas.List.FromFn.{map-range_with_len_more, fill_by_all}
use Rattle.std.proofs.lemmas.List.Sums.{sum-map}
use Rattle.std.proofs.lemmas.Bool.{cases_lt, le-leb}
use Rattle.std.proofs.lemmas.List.Elements.{recursion_from_All}
use Rattle.mk_net.specs.declared.words.Pair.{Pair}
use Rattle.mk_net.specs.Bounds.{million}
use Rattle.mk_net.specs.Network.{Variable, sizes, IsNetwork, IsVariable, IsRow}
use Rattle.mk_net.specs.Named.{variable_at, nobody}
use Rattle.mk_net.specs.Asked.{TradeRatio}
use Rattle.mk_states.specs.States.{numbers_below, product_by, IsState}
use Rattle.mk_states.specs.InitialWeight.{value_at, row_number, entry, initial_weight}
use Rattle.mk_states.specs.Events.{has, holds}
use Rattle.mk_states.specs.Ratios.{unit, ratio_at, units_of}
use Rattle.mk_exact.specs.History.{UserTrade}
use Rattle.mk_states.specs.OfNetwork.{IsPairOf, IsRatioOf}
use Rattle.mk_exact.specs.Proper.{IsTradeOf}
use Rattle.mk_states.proofs.Sums.{plus_over_each, each_weaker, each_number, product_by_push}
use Rattle.mk_states.proofs.Sums.{sum_by-filter}
use Rattle.mk_states.proofs.Listed.{as_many}
use Rattle.mk_states.proofs.Shares.{row_number_below}
use Rattle.mk_grown.specs.Grown.{with_variable, share_of, values_behind}
use Rattle.mk_net.proofs.Behind.{sizes_more, size_before, variable_before, variable_last}

-- a longer state has the earlier values
value_before : (s : List ℕ) (x p : ℕ) → p < length s → slice_index (s ++ x ∷ []) p ≡ slice_index s p
value_before s x p h = get_or_append_left s (x ∷ []) 0 p h

value_last : (s : List ℕ) (x k : ℕ) → length s ≡ k → slice_index (s ++ x ∷ []) k ≡ x
value_last s x k h = get_or_push s x 0 k h

pub longer_state : (network : List Variable) (v : Variable) (s : List ℕ) (x : ℕ)
    → IsState (sizes network) s → x < length v.values
    → IsState (sizes (with_variable network v)) (s ++ x ∷ [])
longer_state network v s x is_state h = subst (λ ns. IsState ns (s ++ x ∷ []))
    (sym (sizes_more network v)) (record {
      one_each = length_push s x ∙ ap (λ n. n + 1) is_state.one_each
          ∙ sym (length_push (sizes network) (length v.values));
      in_range = at;
    })
  where
    at : (k : ℕ) → k < length (sizes network ++ length v.values ∷ [])
        → slice_index (s ++ x ∷ []) k < slice_index (sizes network ++ length v.values ∷ []) k
    at k p = either (cases_lt k (length (sizes network)))
      where
        either : (k < length (sizes network)) ⊎ (length (sizes network) ≤ k)
            → slice_index (s ++ x ∷ []) k < slice_index (sizes network ++ length v.values ∷ []) k
        either (inl q) = rw (
          value_before s x k (omega (arith, q, is_state.one_each)),
          get_or_append_left (sizes network) (length v.values ∷ []) 0 k q,
        ) (is_state.in_range k q)
        either (inr q) =
            let e : length (sizes network) ≡ k =
            omega (arith, q, p, length_push (sizes network) (length v.values)) in
            rw (
              value_last s x k (is_state.one_each ∙ e),
              get_or_push (sizes network) (length v.values) 0 k e,
            ) h

-- the row that a state picks
row_same : (ns ms s t : List ℕ) (n : ℕ) → ((p : ℕ) → p < n → slice_index ms p ≡ slice_index ns p)
    → ((p : ℕ) → p < n → value_at t p ≡ value_at s p)
    → (parents : List ℕ) (row : ℕ) → AllByRecursion (λ p. p < n) parents
    → fold (λ r p. r * slice_index ms p + value_at t p) row parents
    ≡ fold (λ r p. r * slice_index ns p + value_at s p) row parents
row_same ns ms s t n f g [] row h = refl
row_same ns ms s t n f g (p ∷ parents) row h =
    ap (λ r. fold (λ r p. r * slice_index ms p + value_at t p) r parents)
    (ap₂ (λ a b. row * a + b) (f p h.0) (g p h.0))
    ∙ row_same ns ms s t n f g parents (row * slice_index ns p + value_at s p) h.1

module _ (network : List Variable) (v : Variable) (s : List ℕ) (x : ℕ)
    (is_state : IsState (sizes network) s) where
  value_kept : (p : ℕ) → p < length network → value_at (s ++ x ∷ []) p ≡ value_at s p
  value_kept p h = value_before s x p (omega (arith, h, is_state.one_each, as_many network))

  row_kept : (parents : List ℕ) → AllByRecursion (λ p. p < length network) parents
      → row_number (sizes (with_variable network v)) parents (s ++ x ∷ [])
      ≡ row_number (sizes network) parents s
  row_kept parents h = row_same (sizes network) (sizes (with_variable network v)) s (s ++ x ∷ [])
      (length network) (size_before network v) value_kept parents 0 h

  -- pairs of earlier variables
  pub holds_kept : (pairs : List Pair) → AllByRecursion (IsPairOf network) pairs
      → holds pairs (s ++ x ∷ []) ≡ holds pairs s
  holds_kept [] h = refl
  holds_kept (p ∷ pairs) h = ap₂ (λ a b. (a == p.value) && b) (value_kept p.variable h.0.variable)
      (holds_kept pairs h.1)

  pub has_kept : (p : Pair) → IsPairOf network p → has p (s ++ x ∷ []) ≡ has p s
  has_kept p h = ap (λ a. a == p.value) (value_kept p.variable h.variable)

  pub ratio_kept : (r : TradeRatio) → IsRatioOf network r → ratio_at r (s ++ x ∷ []) ≡ ratio_at r s
  ratio_kept r h = ap₂ (λ (b : Bool) a. cond b (units_of r a) unit)
      (holds_kept r.condition h.condition) (value_kept r.variable h.variable)

  pub ratios_kept : (joined : ℕ) (ts : List UserTrade)
      → AllByRecursion (IsTradeOf network joined) ts
      → product_by (λ (t : UserTrade). ratio_at t.ratio (s ++ x ∷ [])) ts
      ≡ product_by (λ (t : UserTrade). ratio_at t.ratio s) ts
  ratios_kept joined ts h = plus_over_each ◌*◌ 1 (λ (t : UserTrade). ratio_at t.ratio (s ++ x ∷ []))
      (λ (t : UserTrade). ratio_at t.ratio s) ts
      (each_weaker (IsTradeOf network joined)
      (λ (t : UserTrade). ratio_at t.ratio (s ++ x ∷ []) ≡ ratio_at t.ratio s)
      (λ t is. ratio_kept t.ratio is.ratio) ts h)

  -- the shares that a longer state picks
  module _ (net : IsNetwork (with_variable network v)) where
    last_in : length network < length (with_variable network v)
    last_in = omega (arith, length_push network v)

    earlier : (k : ℕ) (w : Variable) → k ≤ length network → w
        ≡ variable_at (with_variable network v) k
        → AllByRecursion (λ p. p < length network) w.parents
    earlier k w h e = each_weaker (λ p. p < k) (λ p. p < length network) (λ p q. omega arith)
        w.parents
        (recursion_from_All (λ p. p < k) w.parents
        (subst (λ (u : Variable). All (λ p. p < k) u.parents) (sym e)
        (net.each k nobody (omega (arith, h, last_in))).parents_earlier))

    pub entry_kept : (k : ℕ) → k < length network → entry (with_variable network v) k (s ++ x ∷ [])
        ≡ entry network k s
    entry_kept k h = rw (
      variable_before network v k h,
      row_kept (variable_at network k).parents
          (earlier k (variable_at network k) (omega arith) (sym (variable_before network v k h))),
      value_kept k h,
    ) refl

    pub entry_last : entry (with_variable network v) (length network) (s ++ x ∷ [])
        ≡ share_of network v s x
    entry_last = rw (
      variable_last network v,
      row_kept v.parents (earlier (length network) v (omega arith)
          (sym (variable_last network v))),
      value_last s x (length network) (is_state.one_each
          ∙ as_many network),
    ) refl

    numbers_more : numbers_below (length (with_variable network v)) ≡ numbers_below (length network)
        ++ length network ∷ []
    numbers_more = ap numbers_below (length_push network v)
        ∙ sym (map-id (numbers_below (length network + 1)))
        ∙ map-range_with_len_more (λ k. k) 0 (length network) (length network) (omega arith)
        ∙ ap (λ ks. ks ++ length network ∷ []) (map-id (numbers_below (length network)))

    pub weight_more : initial_weight (with_variable network v) (s ++ x ∷ [])
        ≡ initial_weight network s * share_of network v s x
    weight_more =
        ap (product_by (λ k. entry (with_variable network v) k (s ++ x ∷ []))) numbers_more
        ∙ product_by_push (λ k. entry (with_variable network v) k (s ++ x ∷ []))
        (numbers_below (length network)) (length network)
        ∙ ap₂ ◌*◌ (plus_over_each ◌*◌ 1 (λ k. entry (with_variable network v) k (s ++ x ∷ []))
        (λ k. entry network k s) (numbers_below (length network))
        (each_number (λ k. entry (with_variable network v) k (s ++ x ∷ []) ≡ entry network k s)
        (length network) 0 (λ k p q. entry_kept k (omega arith)))) entry_last

-- the shares of a row make a million
module _ (network : List Variable) (v : Variable) (net : IsNetwork (with_variable network v))
    (s : List ℕ) (is_state : IsState (sizes network) s) where
  its : IsVariable (sizes (with_variable network v)) (length network) v
  its = subst (IsVariable (sizes (with_variable network v)) (length network))
      (variable_last network v) (net.each (length network) nobody
      (omega (arith, length_push network v)))

  some_value : 0 < length v.values
  some_value = omega (arith, its.two_values)

  row_within : row_number (sizes network) v.parents s < length v.rows
  row_within = within
    where
      whole : row_number (sizes (with_variable network v))
          (variable_at (with_variable network v) (length network)).parents (s ++ 0 ∷ []) < length
          (variable_at (with_variable network v) (length network)).rows
      whole = row_number_below (with_variable network v) net (s ++ 0 ∷ [])
          (longer_state network v s 0 is_state some_value) (length network)
          (omega (arith, length_push network v))

      within : row_number (sizes network) v.parents s < length v.rows
      within = subst (λ n. n < length v.rows)
          (row_kept network v s 0 is_state v.parents
          (earlier network v s 0 is_state net (length network) v (omega arith)
          (sym (variable_last network v))))
          (subst (λ (w : Variable). row_number (sizes (with_variable network v)) w.parents
          (s ++ 0 ∷ []) < length w.rows) (variable_last network v) whole)

  picked_row : IsRow (length v.values) (slice_index_or v.rows
      (row_number (sizes network) v.parents s) [])
  picked_row = its.rows_fit (row_number (sizes network) v.parents s) [] row_within

  shares_whole : sum_by (share_of network v s) (numbers_below (length v.values)) ≡ million
  shares_whole =
      sym (sum-map (share_of network v s) (numbers_below (length v.values)))
      ∙ ap sum (sym (fill_by_all (share_of network v s)
      (slice_index_or v.rows (row_number (sizes network) v.parents s) []) (length v.values)
      0 picked_row.one_each (λ k h. refl)))
      ∙ picked_row.whole

  pub behind_whole : sum_by (share_of network v s) (values_behind network v s) ≡ million
  behind_whole =
      sum_by-filter (share_of network v s) (λ x. nat_le 1 (share_of network v s x))
      (numbers_below (length v.values))
      ∙ ap (λ (f : ℕ → ℕ). sum_by f (numbers_below (length v.values)))
      (fun_ext (λ x. or_nothing (share_of network v s x)))
      ∙ shares_whole
    where
      or_nothing : (share : ℕ) → cond (nat_le 1 share) share 0 ≡ share
      or_nothing zero = refl
      or_nothing (suc n) = rw (le-leb 1 (suc n) (omega arith)) refl

  -- so some value has a share
  pub some_behind : 1 ≤ length (values_behind network v s)
  some_behind = some (values_behind network v s) behind_whole
    where
      some : (xs : List ℕ) → sum_by (share_of network v s) xs ≡ million → 1 ≤ length xs
      some [] e = absurd (omega (arith, e))
      some (x ∷ xs) e = omega arith
