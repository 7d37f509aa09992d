-- The plus of products of a table's cells by another's, for each cell of a third.
use Rattle.std.proofs.Common.{◌≡◌, ℕ, ◌+◌, ◌*◌, ◌<◌, true, false, ◌==◌, List, length, slice_index, sym, ap, subst, ◌∙◌, arith}
use Rattle.std.specs.Prelude.{Option}
use Rattle.std.proofs.lemmas.Bool.{eqb-true}
use Rattle.mk_net.specs.declared.words.Pair.{Pair}
use Rattle.mk_states.specs.Lawful.{Lawful}
use Rattle.mk_states.specs.States.{plus_over}
use Rattle.mk_scope.specs.Scopes.{ScopeOf, LiesIn, cells_in}
use Rattle.mk_scope.specs.Cells.{values_at, cell_in, cells_onto, cells_beside}
use Rattle.mk_table.specs.Tables.{TableOf, HasNumbers, touches, is_touched}
use Rattle.mk_table.specs.inner.Numbers.{AreNumbers}
use Rattle.mk_passes.specs.Parts.{IsFull, MakesPlusOfPairs}
use Rattle.mk_table.specs.inner.Touched.{HasTouched, IsEitherWithin}
use Rattle.mk_table.proofs.Multiplied.{table_pairs, table_own}
use Rattle.mk_table.proofs.Untouched.{touched_in, false_before}
use Rattle.mk_table.proofs.Whole.{AreParts, touched_cells}

-- ---- the numbers of all cells

module _ (t m : TableOf) (part : ScopeOf) (lies : LiesIn part t.scope) (other_lies : LiesIn m.scope t.scope) (there : HasTouched m.scope m.touched)
    (after : Option (List Pair)) (either : IsEitherWithin part t.touched m.touched after) where
  module _ (d : ℕ) (untouched : touched_cells after part d ≡ false) where
    outside : (c : ℕ) → (cell_in part t.scope c == d) ≡ true → c < cells_in t.scope → touches after (values_at t.scope c) ≡ false
    outside c e l = sym (touched_in part t.scope after lies either.there c l) ∙ ap (touched_cells after part) (eqb-true (cell_in part t.scope c) d e) ∙ untouched

    free : (c : ℕ) → (cell_in part t.scope c == d) ≡ true → c < cells_in t.scope → is_touched t c ≡ false
    free c e l = false_before (is_touched t c) (touches after (values_at t.scope c)) (either.of_first (values_at t.scope c)) (outside c e l)

    other_free : (c : ℕ) → (cell_in part t.scope c == d) ≡ true → c < cells_in t.scope → is_touched m (cell_in m.scope t.scope c) ≡ false
    other_free c e l =
        touched_in m.scope t.scope m.touched other_lies there c l
        ∙ false_before (touches m.touched (values_at t.scope c)) (touches after (values_at t.scope c)) (either.of_second (values_at t.scope c)) (outside c e l)

  pub joined_numbers : IsFull t.scope t.digits t.exponents → IsFull m.scope m.digits m.exponents → (plus : ℕ → ℕ → ℕ) → Lawful plus → (more : ℕ) (nd ne : List ℕ) → length nd ≡ cells_in part
      → ((d : ℕ) → d < cells_in part → MakesPlusOfPairs plus t.digits t.exponents m.digits m.exponents (cell_in m.scope t.scope) (cells_onto part t.scope d) more (slice_index nd d) (slice_index ne d))
      → (f g : ℕ → ℕ) (n p : ℕ) → HasNumbers t f n → HasNumbers m g p
      → AreNumbers (touched_cells after part) (t.shift + m.shift) nd ne (λ d. plus_over plus 0 (λ c. f c * g (cell_in m.scope t.scope c)) (cells_onto part t.scope d)) (n + p + more)
  joined_numbers full other_full plus law more nd ne long made f g n p has other = record {
    stand = record {
      each = λ d l.
          made d (omega (arith, l, long)) t.shift m.shift f (λ c. g (cell_in m.scope t.scope c)) n p
          (table_pairs t m (λ c. cell_in part t.scope c == d) other_lies full.as_many_digits other_full.as_many_digits f g n p has other);
    };
    own = λ d l o.
        table_own t m (λ c. cell_in part t.scope c == d) other_lies full.as_many_digits other_full.as_many_digits f g n p has other (free d o) (other_free d o) plus law
        (slice_index nd d) (slice_index ne d) (n + p + more) (λ j k a b pairs. made d (omega (arith, l, long)) j k a b n p pairs);
  }

-- ---- by a table's parts

-- each cell of a part is the plus of the products of those that have its values
abbrev pub AreMade : (ℕ → ℕ → ℕ) → List ℕ → List ℕ → List ℕ → List ℕ → ScopeOf → ScopeOf → ScopeOf → List ℕ → List ℕ → Type 0
AreMade plus od oe md me other whole part nd ne =
    (d : ℕ) → d < cells_in part → MakesPlusOfPairs plus od oe md me (cell_in other whole) (cells_onto part whole d) (2 * cells_beside part whole + 1) (slice_index nd d) (slice_index ne d)

pub made_of_parts : (plus : ℕ → ℕ → ℕ) (t m : TableOf) (whole other part : ScopeOf) (j k : ℕ) (od oe md me nd ne : List ℕ) → AreParts t whole j od oe → AreParts m other k md me
    → AreMade plus od oe md me other whole part nd ne → AreMade plus t.digits t.exponents m.digits m.exponents m.scope t.scope part nd ne
made_of_parts plus t m whole other part j k od oe md me nd ne are others made =
    subst (λ (s : ScopeOf). AreMade plus t.digits t.exponents m.digits m.exponents m.scope s part nd ne) are.scope_is
    (subst (λ (s : ScopeOf). AreMade plus t.digits t.exponents m.digits m.exponents s whole part nd ne) others.scope_is
    (subst (λ (ys : List ℕ). AreMade plus t.digits t.exponents m.digits ys other whole part nd ne) others.exponents_are
    (subst (λ (ys : List ℕ). AreMade plus t.digits t.exponents ys me other whole part nd ne) others.digits_are
    (subst (λ (ys : List ℕ). AreMade plus t.digits ys md me other whole part nd ne) are.exponents_are
    (subst (λ (ys : List ℕ). AreMade plus ys oe md me other whole part nd ne) are.digits_are made)))))
