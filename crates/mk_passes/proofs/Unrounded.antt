-- The places of the products of a table's cells by a message's, gathered.
use Rattle.std.proofs.Common.{◌≡◌, ℕ, ◌+◌, ◌*◌, ◌/◌, ◌^◌, ◌<◌, ◌≤◌, List, length, take, slice_index, All, length-take-le, sym, subst, ◌∙◌, arith}
use Rattle.std.proofs.lemmas.List.{get_or-take}
use Rattle.mk_states.specs.Lawful.{Lawful}
use Rattle.mk_states.specs.States.{plus_over}
use Rattle.mk_cell.specs.Cell.{AreCells, StandsAt}
use Rattle.mk_cell.specs.Passes.{plus_below}
use Rattle.mk_cell.specs.Products.{AreUnrounded, PairsStand}
use Rattle.mk_cell.specs.inner.Laws.{stands_with_more}
use Rattle.mk_passes.specs.Parts.{StandPairs}
use Rattle.mk_scope.specs.Runs.{cells_at}
use Rattle.mk_passes.proofs.Paired.{gathered_at}
use Rattle.mk_scope.proofs.Runs.{all_at}

-- some cells that lie so far from a base, and the message's cells that have their values
module _ (d e md me onto : List ℕ) (base : ℕ) (xs : List ℕ) where
  abbrev pub here : ℕ → ℕ
  here i = base + slice_index xs i

  abbrev pub there : ℕ → ℕ
  there i = slice_index onto (base + slice_index xs i)

  abbrev pub left : ℕ → ℕ
  left i = slice_index d (here i)

  abbrev pub left_exponent : ℕ → ℕ
  left_exponent i = slice_index e (here i)

  abbrev pub right : ℕ → ℕ
  right i = slice_index md (there i)

  abbrev pub right_exponent : ℕ → ℕ
  right_exponent i = slice_index me (there i)

  pub are_unrounded : (places sums : List ℕ) → length xs ≤ length places → length xs ≤ length sums → All (λ c. base + c < length onto) xs → All (λ c. c < length md) onto
      → length d ≡ length onto → AreCells d e → AreCells md me
      → ((k : ℕ) → k < length xs → slice_index places k ≡ left k * right k / 2 ^ 64) → ((k : ℕ) → k < length xs → slice_index sums k ≡ left_exponent k + right_exponent k)
      → AreUnrounded left left_exponent right right_exponent (take (length xs) places) (take (length xs) sums)
  are_unrounded places sums l m within goes full cells others p q = record {
    same_length = length-take-le (length xs) sums m ∙ sym (length-take-le (length xs) places l);
    each = λ c i.
        let k : c < length xs = omega (arith, i, length-take-le (length xs) places l) in
        let w = within c 0 k in
        record {
          left_cell = cells.each (here c) (omega (arith, w, full));
          right_cell = others.each (there c) (goes (here c) 0 w);
          places_are = get_or-take (length xs) places c 0 k ∙ p c k;
          exponent_is = get_or-take (length xs) sums c 0 k ∙ q c k;
        };
  }

  pub pairs_stand : (count : ℕ) → count ≡ length xs → (j k : ℕ) (f g : ℕ → ℕ) (n p : ℕ) → StandPairs j k d e md me (slice_index onto) f g n p (cells_at base xs)
      → PairsStand count left left_exponent right right_exponent j k (λ i. f (here i)) (λ i. g (here i)) n p
  pairs_stand count long j k f g n p pairs = record {
    left = λ i l. all_at (λ y. StandsAt j (slice_index d y) (slice_index e y) (f y) n) base xs i pairs.left (omega (arith, l, long));
    right = λ i l. all_at (λ y. StandsAt k (slice_index md (slice_index onto y)) (slice_index me (slice_index onto y)) (g y) p) base xs i pairs.right (omega (arith, l, long));
  }

  -- what is made of them stands for the plus of the products
  pub stands_for : (plus : ℕ → ℕ → ℕ) → Lawful plus → (count : ℕ) → count ≡ length xs → (shift q x : ℕ) (f g : ℕ → ℕ) (m : ℕ)
      → StandsAt shift q x (plus_below plus count (λ i. f (here i) * g (here i))) (m + 2 * count + 1) → StandsAt shift q x (plus_over plus 0 (λ i. f i * g i) (cells_at base xs)) (m + (2 * length xs + 1))
  stands_for plus law count long shift q x f g m made =
      stands_with_more shift q x (plus_over plus 0 (λ i. f i * g i) (cells_at base xs)) (m + 2 * length xs + 1) (m + (2 * length xs + 1)) (omega arith)
      (subst (λ s. StandsAt shift q x s (m + 2 * length xs + 1)) (gathered_at plus law (λ i. f i * g i) base xs)
      (subst (λ y. StandsAt shift q x (plus_below plus y (λ i. f (here i) * g (here i))) (m + 2 * y + 1)) long made))
