-- Every sum in a tree is at most the sum, over the list of all states, of the product of all factors.
use Rattle.std.proofs.Common.{◌≡◌, ℕ, ◌+◌, ◌*◌, ◌≤◌, Bool, true, false, cond, ◌&&◌, eqb, List, [], ◌∷◌, ◌++◌, slice_index, sym, ap, subst, ◌∙◌, le_refl, mul-one}
use Rattle.std.proofs.Math.Path.{fun_ext}
use Rattle.std.proofs.Math.Nat.{mul-le-mul, one-le-mul}
use Rattle.std.specs.List.{AllByRecursion}
use Rattle.std.proofs.lemmas.List.Elements.{recursion_from_All}
use Rattle.std.proofs.lemmas.Bool.{both_ways}
use Rattle.mk_states.specs.States.{states, plus_over, product_by}
use Rattle.mk_states.specs.InitialWeight.{value_at}
use Rattle.mk_states.proofs.Sums.{product_by-append}
use Rattle.mk_sums.specs.Sums.{over, listed}
use Rattle.mk_sums.specs.Trees.{times_of, held}
use Rattle.mk_sums.specs.Cells.{InRange}
use Rattle.mk_sums.specs.Joint.{Item, placed_in, IsItem, variables}
use Rattle.mk_sums.specs.Laws.{SmallCase}
use Rattle.mk_sums.proofs.Sets.{times_within}
use Rattle.mk_sums.proofs.Sides.{holder}
use Rattle.mk_sums.proofs.States.{states_nest}
use Rattle.mk_sums.proofs.Items.{items_placed, items_fit}
use Rattle.mk_sums.proofs.Unread.{over_reads}
use Rattle.mk_sums.proofs.Bounds.{sums_bound}
use Rattle.mk_sums.proofs.Grades.{sums_lawful}

known_at_most : (known : List Item) → AllByRecursion (λ (i : Item). (t : ℕ → ℕ) → i.value t ≤ 1) known → (j : ℕ) (t : ℕ → ℕ) → placed_in known j t ≤ 1
known_at_most [] h j t = le_refl 1
known_at_most (i ∷ is) h j t = mul-le-mul (at (eqb i.clique j)) (known_at_most is h.1 j t)
  where
    at : (b : Bool) → cond b (i.value t) 1 ≤ 1
    at true = h.0 t
    at false = le_refl 1

factors_at_least : (R : (ℕ → ℕ) → Type 0) (factors : List Item) → AllByRecursion (λ (i : Item). (t : ℕ → ℕ) → R t → 1 ≤ i.value t) factors → (j : ℕ) (t : ℕ → ℕ) → R t → 1 ≤ placed_in factors j t
factors_at_least R [] h j t r = le_refl 1
factors_at_least R (i ∷ is) h j t r = one-le-mul (at (eqb i.clique j)) (factors_at_least R is h.1 j t r)
  where
    at : (b : Bool) → 1 ≤ cond b (i.value t) 1
    at true = h.0 t r
    at false = le_refl 1

with_known : (factors known : List Item) → AllByRecursion (λ (i : Item). (t : ℕ → ℕ) → i.value t ≤ 1) known → (j : ℕ) (t : ℕ → ℕ) → placed_in (factors ++ known) j t ≤ placed_in factors j t
with_known factors known h j t =
    subst (λ n. n ≤ placed_in factors j t) (sym (product_by-append (λ (i : Item). cond (eqb i.clique j) (i.value t) 1) factors known))
    (subst (λ n. placed_in factors j t * placed_in known j t ≤ n) (mul-one (placed_in factors j t)) (mul-le-mul (le_refl (placed_in factors j t)) (known_at_most known h j t)))

pub small_case : SmallCase
small_case sizes clique factors known m fits lists least most variables_of cliques_of s r =
    subst (λ n. over ◌+◌ (slice_index sizes) variables_of (variables sizes) (times_of cliques_of m (placed_in (factors ++ known))) s ≤ n) all
    (sums_bound ◌+◌ (slice_index sizes) (variables sizes) (placed_in (factors ++ known)) (placed_in factors) m sums_lawful
    (λ j t p q k. (
      with_known factors known (recursion_from_All (λ (i : Item). (t : ℕ → ℕ) → i.value t ≤ 1) known most) j t,
      factors_at_least (InRange (slice_index sizes) (variables sizes)) factors (recursion_from_All (λ (i : Item). (t : ℕ → ℕ) → InRange (slice_index sizes) (variables sizes) t → 1 ≤ i.value t) factors least) j t k,
    ))
    variables_of cliques_of s r).1
  where
    every : AllByRecursion (IsItem m clique) factors
    every = recursion_from_All (IsItem m clique) factors fits

    off : (x : ℕ) → held (λ j. true) m clique x ≡ true → (true && listed (variables sizes) x) ≡ false → s x ≡ 0
    off x p q = let o = holder (λ j. true) m clique x p in absurd (both_ways (listed (variables sizes) x) q (lists o.at x o.first o.last o.holds))

    all : over ◌+◌ (slice_index sizes) (λ x. true) (variables sizes) (times_of (λ j. true) m (placed_in factors)) s ≡ plus_over ◌+◌ 0 (λ (t : List ℕ). product_by (λ (i : Item). i.value (value_at t)) factors) (states sizes)
    all =
        over_reads ◌+◌ (slice_index sizes) (λ x. true) (held (λ j. true) m clique) (variables sizes) (times_of (λ j. true) m (placed_in factors))
        (times_within (placed_in factors) clique (λ j. true) m (λ k _ _. items_fit m clique factors every k)) s (λ x. 0) off
        ∙ ap (λ (g : (ℕ → ℕ) → ℕ). over ◌+◌ (slice_index sizes) (λ x. true) (variables sizes) g (λ x. 0)) (fun_ext (items_placed m clique factors every))
        ∙ sym (states_nest ◌+◌ sums_lawful sizes (λ t. product_by (λ (i : Item). i.value t) factors))
