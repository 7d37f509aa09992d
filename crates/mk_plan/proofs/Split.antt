-- The cells of a clique are shared out evenly among those of its core.
use Rattle.std.proofs.Common.{◌≡◌, ℕ, ◌+◌, ◌*◌, ◌<◌, ◌≤◌, Bool, true, false, List, length, slice_index, sym, ap, ◌∙◌, arith}
use Rattle.std.proofs.lemmas.List.{length-map}
use Rattle.std.proofs.lemmas.List.Elements.{All-weaker, All-map}
use Rattle.mk_net.specs.Bounds.{max_clique_cells}
use Rattle.mk_net.specs.Network.{Variable, IsNetwork, sizes}
use Rattle.mk_sums.specs.Cells.{keep}
use Rattle.mk_sums.specs.Joint.{variables}
use Rattle.mk_scope.specs.Scopes.{ScopeOf, IsScope, LiesIn, size_in, cells_in}
use Rattle.mk_scope.specs.Cells.{cells_beside}
use Rattle.mk_scope.specs.inner.Strides.{cells_with, values_moved}
use Rattle.mk_scope.proofs.Members.{keep_below, keep_rising, size_pos}
use Rattle.mk_scope.proofs.Values.{cells_pos}
use Rattle.mk_scope.proofs.Writing.{two_values_at}
use Rattle.mk_scope.proofs.Onto.{bases_count, cells_apart, onto_cells}
use Rattle.mk_tree.specs.Given.{holds}
use Rattle.mk_plan.specs.Shapes.{ShapeOf, IsClique, IsShapeFor, clique_scope, core_scope, scope_within, in_core}
use Rattle.mk_plan.proofs.Scopes.{part_has_fewer, clique_small}
use Rattle.mk_plan.proofs.Cores.{core_part, core_lies_in}

-- the scope of a set of a network's variables
within_is : (network : List Variable) → IsNetwork network → (set : ℕ → Bool) → cells_in (scope_within network set) ≤ max_clique_cells → IsScope (scope_within network set)
within_is network legal set few = record {
  rising = keep_rising set 0 (length (sizes network));
  one_size_each = length-map held (slice_index (sizes network));
  positive = All-map (λ n. 1 ≤ n) (slice_index (sizes network)) held (All-weaker (λ x. x < 0 + length (sizes network)) (λ x. 1 ≤ slice_index (sizes network) x) some held (keep_below set 0 (length (sizes network))));
  few_cells = few;
}
  where
    held : List ℕ
    held = keep set (variables (sizes network))

    some : (x : ℕ) → x < 0 + length (sizes network) → 1 ≤ slice_index (sizes network) x
    some x l =
        let n : x < length network = omega (arith, l, length-map network (λ (v : Variable). length v.values)) in
        omega (arith, two_values_at network legal x n)

-- the cells of a whole are shared out evenly among those of a part
part_split : (part whole : ScopeOf) → IsScope part → IsScope whole → LiesIn part whole → cells_in part * cells_beside part whole ≡ cells_in whole
part_split part whole is_part is_whole lies =
    ap (λ n. n * cells_beside part whole) (sym (bases_count part whole is_part is_whole lies)) ∙ ap (λ n. length bases * n) (sym each) ∙ cells_apart part whole is_part is_whole lies
  where
    bases : List ℕ
    bases = cells_with (size_in whole) (values_moved whole part true) whole.variables

    offsets : List ℕ
    offsets = cells_with (size_in whole) (values_moved whole part false) whole.variables

    each : length offsets ≡ cells_beside part whole
    each =
        sym (length-map offsets (λ c. slice_index bases 0 + c))
        ∙ ap (λ (ys : List ℕ). length ys) (onto_cells part whole is_part is_whole lies 0 (cells_pos (size_in part) part.variables (λ x p. size_pos part is_part x)))

pub core_split : (shape : ShapeOf) (k : ℕ) → IsClique shape.tree k → (network : List Variable) → IsShapeFor shape network
    → cells_in (core_scope shape k) * cells_beside (core_scope shape k) (clique_scope shape k) ≡ cells_in (clique_scope shape k)
core_split shape k clique network is =
    ap (λ (s : ScopeOf). cells_in s * cells_beside s (clique_scope shape k)) (is.core_scopes k clique)
    ∙ ap (λ (s : ScopeOf). cells_in core * cells_beside core s) (is.clique_scopes k clique)
    ∙ part_split core whole (within_is network is.legal (in_core shape.tree k) (omega (arith, fewer, small))) (within_is network is.legal (holds shape.tree k) small) (core_lies_in network shape.tree k)
    ∙ sym (ap cells_in (is.clique_scopes k clique))
  where
    core : ScopeOf
    core = scope_within network (in_core shape.tree k)

    whole : ScopeOf
    whole = scope_within network (holds shape.tree k)

    fewer : cells_in core ≤ cells_in whole
    fewer = part_has_fewer network is.legal (in_core shape.tree k) (holds shape.tree k) (core_part shape.tree k)

    small : cells_in whole ≤ max_clique_cells
    small = clique_small network shape.tree is.tree_is k clique.first clique.last
