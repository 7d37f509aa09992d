-- The scope of a set of a network's variables.
use Rattle.std.proofs.Common.{◌≡◌, ℕ, ◌+◌, ◌<◌, ◌≤◌, true, List, length, slice_index, All, sym, ◌∙◌, arith}
use Rattle.std.proofs.lemmas.List.{length-map}
use Rattle.std.proofs.lemmas.List.Elements.{All-weaker, All-map}
use Rattle.mk_sets.specs.Sets.{VarSet, is_member}
use Rattle.mk_net.specs.Bounds.{max_clique_cells}
use Rattle.mk_net.specs.Network.{Variable, sizes, IsNetwork}
use Rattle.mk_sums.specs.Sums.{listed}
use Rattle.mk_sums.specs.Cells.{keep, cells}
use Rattle.mk_sums.specs.Joint.{variables}
use Rattle.mk_scope.specs.Scopes.{IsScope, Rising, scope_of, size_in, cells_in}
use Rattle.mk_scope.specs.inner.Columns.{HaveColumns, IsKept}
use Rattle.mk_scope.proofs.Members.{keep_below, keep_rising, keep_few, size_of_map}
use Rattle.mk_scope.proofs.Values.{cells_same, place_same}
use Rattle.mk_scope.proofs.Writing.{two_values_at}

module _ (network : List Variable) (net : IsNetwork network) (set : VarSet) where
  abbrev pub held : List ℕ
  held = keep (is_member set) (variables (sizes network))

  as_many : length (sizes network) ≡ length network
  as_many = length-map network (λ (v : Variable). length v.values)

  pub held_within : All (λ x. x < length network) held
  held_within = All-weaker (λ x. x < 0 + length (sizes network)) (λ x. x < length network) (λ x p. omega (arith, as_many)) held (keep_below (is_member set) 0 (length (sizes network)))

  pub held_rising : Rising held
  held_rising = keep_rising (is_member set) 0 (length (sizes network))

  pub held_few : length held ≤ 256
  held_few = omega (arith, keep_few (is_member set) 0 (length (sizes network)), as_many, net.few)

  same_size : (x : ℕ) → listed held x ≡ true → size_in (scope_of network set) x ≡ slice_index (sizes network) x
  same_size x p = size_of_map (slice_index (sizes network)) held x p

  pub cells_are : cells_in (scope_of network set) ≡ cells (slice_index (sizes network)) held
  cells_are = cells_same (size_in (scope_of network set)) (slice_index (sizes network)) held same_size

  scope_is : cells_in (scope_of network set) ≤ max_clique_cells → IsScope (scope_of network set)
  scope_is few = record {
    rising = held_rising;
    one_size_each = length-map held (slice_index (sizes network));
    positive = All-map (λ n. 1 ≤ n) (slice_index (sizes network)) held (All-weaker (λ x. x < length network) (λ x. 1 ≤ slice_index (sizes network) x) (λ x p. omega (arith, two_values_at network net x p)) held held_within);
    few_cells = few;
  }

  pub kept_of : cells_in (scope_of network set) ≤ max_clique_cells → (count first : ℕ) (starts columns : List ℕ) → count ≡ cells (slice_index (sizes network)) held
      → HaveColumns (slice_index (sizes network)) held held first starts columns → IsKept (scope_of network set) count first starts columns
  kept_of few count first starts columns e have = record {
    scope_is = scope_is few;
    counted = e ∙ sym cells_are;
    have = at;
  }
    where
      at : HaveColumns (size_in (scope_of network set)) held held first starts columns
      at x c p q =
          let o = have x c p (omega (arith, cells_are)) in
          record { reached = o.reached; started = o.started; within = o.within; value = o.value ∙ sym (place_same (size_in (scope_of network set)) (slice_index (sizes network)) held same_size c (λ y. 0) x) }
