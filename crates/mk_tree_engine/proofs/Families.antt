-- The first clique that holds something.
use Rattle.std.proofs.Common.{◌≡◌, ℕ, suc, ◌+◌, ◌<◌, ◌≤◌, Bool, true, false, List, [], ◌∷◌, length}
use Rattle.std.proofs.Common.{get_or, Option, Some, unwrap_or, option_map, position, refl, sym, ap}
use Rattle.std.proofs.Common.{◌∙◌, arith}
use Rattle.std.specs.List.{list_any}
use Rattle.std.proofs.lemmas.Bool.{both_ways, or_from}
use Rattle.mk_net.specs.declared.words.Pair.{Pair}
use Rattle.mk_net.specs.Asked.{TradeRatio, ratio_pairs}
use Rattle.mk_sets.specs.Sets.{no_variables}
use Rattle.mk_net.specs.Network.{Variable}
use Rattle.mk_tree.specs.Given.{GivenTree, clique_at, home}
use Rattle.mk_tree.specs.Tests.{holds_family, is_covered}
use Rattle.mk_tree.specs.Held.{IsHeldAt}
use Rattle.mk_engine.specs.Meaning.{RatioOf}
use Rattle.mk_plan.specs.Shapes.{IsClique}
use Rattle.mk_plan.proofs.Starts.{first_passes, at_place}
use Rattle.mk_tree_engine.specs.Engines.{factor_home, pair_home}

-- no item passes
none_passes : {X : Type 0} (p : X → Bool) (xs : List X) (d : X) → ((i : ℕ) → i < length xs → p (get_or xs i d) ≡ false) → list_any p xs ≡ false
none_passes p [] d h = refl
none_passes p (x ∷ xs) d h =
    or_from (p x) (list_any p xs) (h 0 (omega arith)) (none_passes p xs d (λ i l. h (suc i) (omega arith)))

module _ (tree : GivenTree) where
  pub family_first : (network : List Variable) (x passed : ℕ) → passed < length tree.cliques
      → ((i : ℕ) → i < passed → holds_family network x (clique_at tree (i + 1)) ≡ false) → holds_family network x (clique_at tree (passed + 1)) ≡ true
      → unwrap_or (option_map (λ (k : ℕ). k + 1) (position (holds_family network x) tree.cliques)) 0 ≡ passed + 1
  family_first network x passed l before here =
      ap (λ (o : Option ℕ). unwrap_or (option_map (λ (k : ℕ). k + 1) o) 0)
      (first_passes (holds_family network x) tree.cliques passed no_variables l
      (λ k q. ap (holds_family network x) (sym (at_place tree k)) ∙ before k q) (ap (holds_family network x) (sym (at_place tree passed)) ∙ here))

  -- a covered family has a home
  pub family_somewhere : (network : List Variable) (x passed : ℕ) → length tree.cliques ≤ passed → is_covered network tree.cliques x ≡ true
      → ((i : ℕ) → i < passed → holds_family network x (clique_at tree (i + 1)) ≡ false) → ⊥
  family_somewhere network x passed l covered none =
      both_ways (list_any (holds_family network x) tree.cliques)
      (none_passes (holds_family network x) tree.cliques no_variables (λ i q. ap (holds_family network x) (sym (at_place tree i)) ∙ none i (omega arith))) covered

-- a clique that holds an event is one of the tree's
pub clique_of : (tree : GivenTree) (k : ℕ) (event : List Pair) → IsHeldAt tree k event
    → IsClique tree k
clique_of tree k event h = record { first = h.first; last = h.last }

-- what has a home is placed there
pub ratio_place : (network : List Variable) (tree : GivenTree) (k : ℕ) (ratio : TradeRatio)
    → home tree (ratio_pairs ratio) ≡ Some k → k ≡ factor_home network tree (RatioOf ratio)
ratio_place network tree k ratio e = sym (ap (λ (o : Option ℕ). unwrap_or o 0) e)

pub pair_place : (tree : GivenTree) (k : ℕ) (pair : Pair) → home tree (pair ∷ []) ≡ Some k
    → k ≡ pair_home tree pair
pair_place tree k pair e = sym (ap (λ (o : Option ℕ). unwrap_or o 0) e)
