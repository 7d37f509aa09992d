-- A clique of all variables.
use Rattle.std.proofs.Common.{◌≡◌, ℕ, suc, zero, ◌+◌, ◌*◌, ◌<◌, Bool, true, List, [], ◌∷◌, length, filter, slice_index, refl, sym, ap, ◌∙◌, arith}
use Rattle.std.specs.List.{range_with_len}
use Rattle.std.proofs.lemmas.Bool.{cond-true}
use Rattle.std.proofs.lemmas.List.{length-map}
use Rattle.mk_sets.specs.Sets.{VarSet, is_member}
use Rattle.mk_net.specs.Network.{Variable, sizes, choices}
use Rattle.mk_states.specs.States.{numbers_below}
use Rattle.mk_sums.specs.Cells.{cells}
use Rattle.mk_tree.specs.Tests.{cells_of}
use Rattle.mk_joint.specs.inner.Joints.{joint_states}

choices_are_cells : (ns xs : List ℕ) → choices ns xs ≡ cells (slice_index ns) xs
choices_are_cells ns [] = refl
choices_are_cells ns (x ∷ xs) = ap (λ n. slice_index ns x * n) (choices_are_cells ns xs)

-- a set that has each number of a range leaves none out
none_left_out : (p : ℕ → Bool) (a n : ℕ) → ((x : ℕ) → x < a + n → p x ≡ true) → filter p (range_with_len a n) ≡ range_with_len a n
none_left_out p a zero h = refl
none_left_out p a (suc n) h =
    cond-true (p a) (a ∷ filter p (range_with_len (a + 1) n)) (filter p (range_with_len (a + 1) n)) (h a (omega arith))
    ∙ ap (λ (xs : List ℕ). a ∷ xs) (none_left_out p (a + 1) n (λ x q. h x (omega (arith, q))))

-- a clique of all variables has a cell for each joint state
pub cells_of_all : (network : List Variable) (set : VarSet) → ((x : ℕ) → x < length network → is_member set x ≡ true) → cells_of network set ≡ joint_states network
cells_of_all network set h =
    let many : length (sizes network) ≡ length network = length-map network (λ (v : Variable). length v.values) in
    ap (choices (sizes network)) (none_left_out (is_member set) 0 (length network) (λ x q. h x (omega (arith, q))))
    ∙ choices_are_cells (sizes network) (numbers_below (length network))
    ∙ ap (λ (n : ℕ). cells (slice_index (sizes network)) (numbers_below n)) (sym many)
