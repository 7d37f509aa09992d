-- The first clique that passes a test.
use Rattle.std.proofs.Common.{◌≡◌, ℕ, ◌+◌, ◌-◌, ◌<◌, ◌≤◌, Bool, true, false, ◌&&◌, List, [], ◌∷◌, length, get_or, slice_index_or, Option, Some, None, option_map, position, sym, ap, ◌∙◌, arith}
use Rattle.std.specs.List.{position_or_len, list_all}
use Rattle.std.proofs.lemmas.Bool.{cond-true, cond-false, lt-ltb, le-ltb}
use Rattle.std.proofs.lemmas.List.Sums.{position_or_len_is}
use Rattle.mk_net.specs.declared.words.Pair.{Pair}
use Rattle.mk_sets.specs.Sets.{is_member, no_variables}
use Rattle.mk_tree.specs.Given.{GivenTree, clique_at, home, holds_event}
use Rattle.mk_plan.specs.inner.Shaped.{StartsAt}

abbrev pub no_pair : Pair
no_pair = record { variable = 0; value = 0 }

-- the first item that passes
pub first_passes : {X : Type 0} (p : X → Bool) (xs : List X) (i : ℕ) (d : X) → i < length xs → ((k : ℕ) → k < i → p (get_or xs k d) ≡ false) → p (get_or xs i d) ≡ true → position p xs ≡ Some i
first_passes p xs i d l before here =
    let e : position_or_len p xs ≡ i = position_or_len_is p xs i d (omega arith) before (λ q. here) in
    let w : position_or_len p xs < length xs = omega arith in
    cond-true _ (Some (position_or_len p xs)) None (lt-ltb (position_or_len p xs) (length xs) w) ∙ ap (λ (n : ℕ). Some n) e

-- none passes
no_position : {X : Type 0} (p : X → Bool) (xs : List X) (d : X) → ((k : ℕ) → k < length xs → p (get_or xs k d) ≡ false) → position p xs ≡ None
no_position p xs d before =
    let e : position_or_len p xs ≡ length xs = position_or_len_is p xs (length xs) d (omega arith) before (λ q. absurd (omega (arith, q))) in
    cond-false _ (Some (position_or_len p xs)) None (le-ltb (position_or_len p xs) (length xs) (omega (arith, e)))

-- a clique by its place
pub at_place : (tree : GivenTree) (i : ℕ) → clique_at tree (i + 1) ≡ get_or tree.cliques i no_variables
at_place tree i = let e : i + 1 - 1 ≡ i = omega arith in ap (λ n. slice_index_or tree.cliques n no_variables) e

module _ (tree : GivenTree) (event : List Pair) (passed : ℕ) (before : (i : ℕ) → i < passed → holds_event event (clique_at tree (i + 1)) ≡ false) where
  each_before : (k : ℕ) → k < passed → holds_event event (get_or tree.cliques k no_variables) ≡ false
  each_before k l = ap (holds_event event) (sym (at_place tree k)) ∙ before k l

  pub home_here : passed < length tree.cliques → holds_event event (clique_at tree (passed + 1)) ≡ true → home tree event ≡ Some (passed + 1)
  home_here l here =
      ap (λ (o : Option ℕ). option_map (λ (k : ℕ). k + 1) o)
      (first_passes (holds_event event) tree.cliques passed no_variables l each_before (ap (holds_event event) (sym (at_place tree passed)) ∙ here))

  pub home_nowhere : length tree.cliques ≤ passed → home tree event ≡ None
  home_nowhere l =
      ap (λ (o : Option ℕ). option_map (λ (k : ℕ). k + 1) o) (no_position (holds_event event) tree.cliques no_variables (λ k q. each_before k (omega arith)))

-- what does not hold the first variable does not hold the event
pub start_of : (tree : GivenTree) (event : List Pair) (start : ℕ) → 0 < length event → StartsAt tree (λ set. is_member set (slice_index_or event 0 no_pair).variable) start → StartsAt tree (holds_event event) start
start_of tree [] start l h = absurd (omega (arith, l))
start_of tree (pair ∷ event) start l h = record {
  first = h.first;
  before = λ k p q. ap (λ b. b && list_all (λ (p : Pair). is_member (clique_at tree k) p.variable) event) (h.before k p q);
}
