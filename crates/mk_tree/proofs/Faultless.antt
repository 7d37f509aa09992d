-- Faults in their order, and what a tree without a fault keeps.
use Rattle.std.specs.Prelude.{◌≡◌, ℕ, ◌<◌, ◌≤◌, List, [], ◌∷◌, length, true, ◌⊎◌, Option, Some, None, option_map}
use Rattle.std.proofs.Common.{refl, arith, inl, inr}
use Rattle.std.proofs.lemmas.Bool.{cases_lt}
use Rattle.mk_net.specs.Network.{Variable}
use Rattle.mk_net.specs.Firsts.{first_of}
use Rattle.mk_tree.specs.declared.fault.TreeFault.TheVariants.{Cover, NotRunning, Cells}
use Rattle.mk_tree.specs.Given.{GivenTree, AreLinked, AreOfNetwork}
use Rattle.mk_tree.specs.Tests.{is_covered, are_connected, first_failing, first_too_large, tree_fault}
use Rattle.mk_tree.specs.Checked.{IsTreeOf}
use Rattle.mk_tree.proofs.Connected.{connected_of_test, test_of_connected}
use Rattle.mk_tree.proofs.Tested.{connected_outside}
use Rattle.mk_tree.proofs.Found.{passes_where_none, none_failing}
use Rattle.mk_tree.proofs.Cells.{each_small, all_small, none_too_large}

-- the three tests that pass where there is no fault
no_faults : (cover running cells : Option ℕ)
    → first_of (option_map Cover cover ∷ option_map NotRunning running ∷ option_map Cells cells ∷ []) ≡ None
    → (cover ≡ None) × (running ≡ None) × (cells ≡ None)
no_faults None None None e = (refl, refl, refl)
no_faults (Some x) running cells e = absurd (cc)
no_faults None (Some x) cells e = absurd (cc)
no_faults None None (Some k) e = absurd (cc)

pub tree_without_fault : (network : List Variable) (t : GivenTree) → AreLinked t → AreOfNetwork network t.cliques → tree_fault network t ≡ None → IsTreeOf network t
tree_without_fault network t linked inside e =
    let none = no_faults (first_failing network (is_covered network t.cliques)) (first_failing network (are_connected t)) (first_too_large network 1 0 t.cliques) e in
    record {
      linked = linked;
      of_network = inside;
      covers = passes_where_none network (is_covered network t.cliques) none.0;
      running = λ x. connected_of_test t linked x (one none.1 x (cases_lt x (length network)));
      small_cliques = each_small network 1 0 t.cliques none.2;
      few_cells = omega (arith, all_small network 1 0 t.cliques (omega arith) none.2);
    }
  where
    one : first_failing network (are_connected t) ≡ None → (x : ℕ) → ((x < length network) ⊎ (length network ≤ x)) → are_connected t x ≡ true
    one none x (inl within) = passes_where_none network (are_connected t) none x within
    one none x (inr outside) = connected_outside network t inside x outside

-- and a tree has no fault
pub tree_is_faultless : (network : List Variable) (t : GivenTree) → IsTreeOf network t
    → tree_fault network t ≡ None
tree_is_faultless network t tree = none (first_failing network (is_covered network t.cliques))
    (first_failing network (are_connected t)) (first_too_large network 1 0 t.cliques)
    (none_failing network (is_covered network t.cliques) tree.covers)
    (none_failing network (are_connected t) (λ x within. test_of_connected t tree.linked x
    (tree.running x)))
    (none_too_large network 1 0 t.cliques tree.small_cliques (omega (arith, tree.few_cells)))
  where
    none : (cover running cells : Option ℕ) → None ≡ cover → None ≡ running → cells ≡ None
        → first_of (option_map Cover cover ∷ option_map NotRunning running ∷ option_map Cells cells ∷ []) ≡ None
    none None None None a b c = refl
    none (Some x) running cells a b c = absurd (cc)
    none None (Some x) cells a b c = absurd (cc)
    none None None (Some x) a b c = absurd (cc)
