-- A list of tables of ones over all scopes of a shape, seen as a board.
use Rattle.std.proofs.Common.{◌≡◌, ℕ, ◌+◌, ◌-◌, ◌*◌, ◌<◌, ◌≤◌, List, ◌++◌, length, refl, sym, ap}
use Rattle.std.proofs.Common.{subst, ◌∙◌, arith}
use Rattle.std.specs.Prelude.{slice_index_or}
use Rattle.std.proofs.lemmas.List.{get_or-append-add, get_or_append_left, length-append, append_assoc}
use Rattle.mk_scope.specs.Scopes.{ScopeOf}
use Rattle.mk_table.specs.Tables.{TableOf}
use Rattle.mk_table.specs.Lists.{IsOnes}
use Rattle.mk_tree.specs.Given.{AreLinked}
use Rattle.mk_plan.specs.Shapes.{ShapeOf, no_scope, clique_scope, core_scope, separator_scope}
use Rattle.mk_plan.specs.Shapes.{scopes_of, HasEach}
use Rattle.mk_propagate.specs.Flows.{no_table}
use Rattle.mk_propagate.specs.inner.Boards.{part, board_of, IsBoard}
use Rattle.mk_propagate.specs.inner.Ones.{AreOnes, IsStart}
use Rattle.mk_propagate.proofs.Boards.{part_get, part_length}

-- the scopes in their order, nested to the right
abbrev pub nested : ShapeOf → List ScopeOf
nested shape =
    shape.cliques
    ++ (shape.cores ++ (shape.cores ++ (shape.separators ++ shape.separators)))

pub nested_is : (shape : ShapeOf) → scopes_of shape ≡ nested shape
nested_is shape =
    let a = shape.cliques in let b = shape.cores in let c = shape.separators in
    append_assoc ((a ++ b) ++ b) c c ∙ append_assoc (a ++ b) b (c ++ c)
    ∙ append_assoc a b (b ++ (c ++ c))

module _ (shape : ShapeOf) (linked : AreLinked shape.tree) (h : HasEach shape) (ts : List TableOf)
    (one_each : length ts ≡ length (nested shape))
    (ones : (k : ℕ) → k < length (nested shape)
    → IsOnes (slice_index_or (nested shape) k no_scope) (slice_index_or ts k no_table)) where
  many : length ts + 2 ≡ 5 * length shape.tree.cliques
  many =
      let ends = shape.separators ++ shape.separators in
      let a = length-append shape.cliques (shape.cores ++ (shape.cores ++ ends)) in
      let b = length-append shape.cores (shape.cores ++ ends) in
      let c = length-append shape.cores ends in
      let d = length-append shape.separators shape.separators in
      omega (arith, one_each, a, b, c, d, h.one_each, h.one_core_each, h.one_less, linked.some)

  pub board_begun : IsBoard (length shape.tree.cliques) ts
  board_begun = record { some = linked.some; few = linked.few; long = many }

  -- a part of the list lies over the scopes that stand there
  lie : (first count : ℕ) (scope : ℕ → ScopeOf) (from : ℕ) → first + count ≤ length ts
      → ((i : ℕ) → i < count
      → slice_index_or (nested shape) (first + i) no_scope ≡ scope (from + i))
      → AreOnes scope from count (part first count ts)
  lie first count scope from fits same = record {
    long = part_length first count ts fits;
    each = λ i l.
        subst (λ (t : TableOf). IsOnes (scope (from + i)) t)
        (sym (part_get first count i (first + i) ts refl l))
        (subst (λ (s : ScopeOf). IsOnes s (slice_index_or ts (first + i) no_table)) (same i l)
        (ones (first + i) (omega (arith, fits, l, one_each))));
  }

  pub ones_begun : IsStart shape (board_of (length shape.tree.cliques) ts)
  ones_begun = record {
    tables = lie 0 n (clique_scope shape) 1 (omega (arith, many, some)) (λ i l. clique_at i l);
    cores = lie n n (core_scope shape) 1 (omega (arith, many, some)) (λ i l. core_at i l);
    products = lie (2 * n) n (core_scope shape) 1 (omega (arith, many, some)) (λ i l. product_at i l);
    upward =
        lie (3 * n) (n - 1) (separator_scope shape) 2 (omega (arith, many, some)) (λ i l. up_at i l);
    downward =
        lie (4 * n - 1) (n - 1) (separator_scope shape) 2 (omega (arith, many, some))
        (λ i l. down_at i l);
  }
    where
      n : ℕ
      n = length shape.tree.cliques

      some : 1 ≤ n
      some = linked.some

      ends : List ScopeOf
      ends = shape.separators ++ shape.separators

      at : (k i : ℕ) → k ≡ i → slice_index_or (nested shape) k no_scope ≡ slice_index_or (nested shape) i no_scope
      at k i e = ap (λ j. slice_index_or (nested shape) j no_scope) e

      -- behind the cliques
      behind : (i : ℕ) → slice_index_or (nested shape) (length shape.cliques + i) no_scope
          ≡ slice_index_or (shape.cores ++ (shape.cores ++ ends)) i no_scope
      behind i = get_or-append-add shape.cliques (shape.cores ++ (shape.cores ++ ends)) i no_scope

      clique_at : (i : ℕ) → i < n → slice_index_or (nested shape) (0 + i) no_scope ≡ clique_scope shape (1 + i)
      clique_at i l =
          at (0 + i) i (omega arith)
          ∙ get_or_append_left shape.cliques (shape.cores ++ (shape.cores ++ ends)) no_scope i
          (omega (arith, l, h.one_each))
          ∙ ap (λ j. slice_index_or shape.cliques j no_scope) (omega arith)

      core_at : (i : ℕ) → i < n → slice_index_or (nested shape) (n + i) no_scope ≡ core_scope shape (1 + i)
      core_at i l =
          at (n + i) (length shape.cliques + i) (omega (arith, h.one_each)) ∙ behind i
          ∙ get_or_append_left shape.cores (shape.cores ++ ends) no_scope i
          (omega (arith, l, h.one_core_each))
          ∙ ap (λ j. slice_index_or shape.cores j no_scope) (omega arith)

      product_at : (i : ℕ) → i < n → slice_index_or (nested shape) (2 * n + i) no_scope ≡ core_scope shape (1 + i)
      product_at i l =
          at (2 * n + i) (length shape.cliques + (length shape.cores + i))
          (omega (arith, h.one_each, h.one_core_each))
          ∙ behind (length shape.cores + i)
          ∙ get_or-append-add shape.cores (shape.cores ++ ends) i no_scope
          ∙ get_or_append_left shape.cores ends no_scope i (omega (arith, l, h.one_core_each))
          ∙ ap (λ j. slice_index_or shape.cores j no_scope) (omega arith)

      -- behind the products
      last : (i : ℕ) → slice_index_or (nested shape) (3 * n + i) no_scope ≡ slice_index_or ends i no_scope
      last i =
          at (3 * n + i) (length shape.cliques + (length shape.cores + (length shape.cores + i)))
          (omega (arith, h.one_each, h.one_core_each))
          ∙ behind (length shape.cores + (length shape.cores + i))
          ∙ get_or-append-add shape.cores (shape.cores ++ ends) (length shape.cores + i) no_scope
          ∙ get_or-append-add shape.cores ends i no_scope

      up_at : (i : ℕ) → i < n - 1 → slice_index_or (nested shape) (3 * n + i) no_scope ≡ separator_scope shape (2 + i)
      up_at i l =
          last i
          ∙ get_or_append_left shape.separators shape.separators no_scope i
          (omega (arith, l, h.one_less))
          ∙ ap (λ j. slice_index_or shape.separators j no_scope) (omega arith)

      down_at : (i : ℕ) → i < n - 1
          → slice_index_or (nested shape) (4 * n - 1 + i) no_scope ≡ separator_scope shape (2 + i)
      down_at i l =
          at (4 * n - 1 + i) (3 * n + (length shape.separators + i))
          (omega (arith, h.one_less, some))
          ∙ last (length shape.separators + i)
          ∙ get_or-append-add shape.separators shape.separators i no_scope
          ∙ ap (λ j. slice_index_or shape.separators j no_scope) (omega arith)
