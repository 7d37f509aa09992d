-- Tables whose cells become a message's: so do those of a blank table that is multiplied by it.
use Rattle.std.proofs.Common.{◌≡◌, ℕ, ◌+◌, ◌*◌, ◌<◌, ◌≤◌, List, length, slice_index, sym, ap, subst, ◌∙◌, arith}
use Rattle.std.proofs.Math.Nat.{mul_comm}
use Rattle.std.proofs.lemmas.List.{get_or_past}
use Rattle.mk_cell.specs.Cell.{IsForm, StandsAt}
use Rattle.mk_scope.specs.Scopes.{ScopeOf, LiesIn, cells_in}
use Rattle.mk_scope.specs.Cells.{cell_in}
use Rattle.mk_passes.specs.Blank.{one_digits, one_exponent, filled}
use Rattle.mk_passes.specs.Parts.{AreBlankOrFull, IsChanged, IsTimesCell}
use Rattle.mk_scope.specs.Places.{AreOnto}
use Rattle.mk_passes.proofs.Filled.{at_most, filled_length, filled_full, one_at}
use Rattle.mk_scope.proofs.Kept.{cell_within}
use Rattle.mk_passes.proofs.OnesSum.{times_one}

-- 1 times a cell is that cell
one_times : (q x : ℕ) → IsForm q x → IsTimesCell one_digits one_exponent q x q x
one_times q x form = record {
  times = λ k w p h. record {
    stands = λ j v n s.
        let shifts : k + j ≡ j + k = omega arith in
        let steps : p + n + 1 ≡ n + p + 1 = omega arith in
        subst (λ i. StandsAt i q x (v * w) (n + p + 1)) shifts
        (subst (λ i. StandsAt (k + j) q x (v * w) i) steps
        (subst (λ y. StandsAt (k + j) q x y (p + n + 1)) (mul_comm w v) (((times_one q x form).times j v n s).stands k w p h)));
  };
}

-- the message's cells stand where they belong, in a table of which nothing was written
module _ (part whole : ScopeOf) (lies : LiesIn part whole) (d e md me nd ne : List ℕ)
    (blank : (length d ≡ 0) × (length e ≡ 0)) (held : AreBlankOrFull (cells_in whole) nd ne)
    (forms : (p : ℕ) → p < cells_in part → IsForm (slice_index (filled one_digits (cells_in part) md) p) (slice_index (filled one_exponent (cells_in part) me) p))
    (digits_are : (c : ℕ) → c < cells_in whole → slice_index (filled one_digits (cells_in whole) nd) c ≡ slice_index (filled one_digits (cells_in part) md) (cell_in part whole c))
    (exponents_are : (c : ℕ) → c < cells_in whole → slice_index (filled one_exponent (cells_in whole) ne) c ≡ slice_index (filled one_exponent (cells_in part) me) (cell_in part whole c)) where
  abbrev pub n : ℕ
  n = cells_in whole

  abbrev pub q : ℕ → ℕ
  q c = slice_index (filled one_digits (cells_in part) md) (cell_in part whole c)

  abbrev pub x : ℕ → ℕ
  x c = slice_index (filled one_exponent (cells_in part) me) (cell_in part whole c)

  spread_cell : (c : ℕ) → c < n → IsTimesCell (slice_index (filled one_digits n d) c) (slice_index (filled one_exponent n e) c) (q c) (x c)
      (slice_index (filled one_digits n nd) c) (slice_index (filled one_exponent n ne) c)
  spread_cell c l =
      subst (λ y. IsTimesCell y (slice_index (filled one_exponent n e) c) (q c) (x c) (slice_index (filled one_digits n nd) c) (slice_index (filled one_exponent n ne) c)) (sym (one_at one_digits n c d blank.0 l))
      (subst (λ y. IsTimesCell one_digits y (q c) (x c) (slice_index (filled one_digits n nd) c) (slice_index (filled one_exponent n ne) c)) (sym (one_at one_exponent n c e blank.1 l))
      (subst (λ y. IsTimesCell one_digits one_exponent (q c) (x c) y (slice_index (filled one_exponent n ne) c)) (sym (digits_are c l))
      (subst (λ y. IsTimesCell one_digits one_exponent (q c) (x c) (q c) y) (sym (exponents_are c l))
      (one_times (q c) (x c) (forms (cell_in part whole c) (cell_within part whole lies c l))))))

  -- nothing is there beyond the cells
  left : (one : ℕ) (xs ys : List ℕ) → length (filled one n xs) ≡ n → length (filled one n ys) ≡ n → (c : ℕ) → (c < n → ⊥) → slice_index (filled one n ys) c ≡ slice_index (filled one n xs) c
  left one xs ys h i c out = get_or_past (filled one n ys) c 0 (omega (arith, i, out)) ∙ sym (get_or_past (filled one n xs) c 0 (omega (arith, h, out)))

  d_long : length (filled one_digits n d) ≡ n
  d_long = filled_length one_digits n d (omega (arith, blank.0))

  e_long : length (filled one_exponent n e) ≡ n
  e_long = filled_length one_exponent n e (omega (arith, blank.1))

  nd_long : length (filled one_digits n nd) ≡ n
  nd_long = filled_length one_digits n nd (at_most n nd ne held).0

  ne_long : length (filled one_exponent n ne) ≡ n
  ne_long = filled_length one_exponent n ne (at_most n nd ne held).1

  pub spread_changed : IsChanged (λ c a b y z. IsTimesCell a b (q c) (x c) y z) (λ c. c < n) (filled one_digits n d) (filled one_exponent n e) (filled one_digits n nd) (filled one_exponent n ne)
  spread_changed = record {
    as_many_digits = nd_long ∙ sym d_long;
    as_many_exponents = ne_long ∙ sym e_long;
    done = spread_cell;
    digits_left = left one_digits d nd d_long nd_long;
    exponents_left = left one_exponent e ne e_long ne_long;
  }

-- the message's cells are put where they belong, one array at a time
module _ (part whole : ScopeOf) (lies : LiesIn part whole) (one : ℕ) (ms ns : List ℕ) where
  -- a blank message's
  pub blank_put : length ms ≡ 0 → length ns ≡ 0 → (c : ℕ) → c < cells_in whole
      → slice_index (filled one (cells_in whole) ns) c ≡ slice_index (filled one (cells_in part) ms) (cell_in part whole c)
  blank_put h i c l = one_at one (cells_in whole) c ns i l ∙ sym (one_at one (cells_in part) (cell_in part whole c) ms h (cell_within part whole lies c l))

  -- those of a message that is written
  pub full_put : (onto : List ℕ) → AreOnto part whole onto → cells_in part ≤ length ms → ((c : ℕ) → c < length onto → slice_index ns c ≡ slice_index ms (slice_index onto c)) → (c : ℕ) → c < cells_in whole
      → slice_index ns c ≡ slice_index (filled one (cells_in part) ms) (cell_in part whole c)
  full_put onto places full h c l =
      h c (omega (arith, l, places.one_each)) ∙ ap (slice_index ms) (places.cell c l) ∙ sym (ap (λ ys. slice_index ys (cell_in part whole c)) (filled_full one (cells_in part) ms full))
