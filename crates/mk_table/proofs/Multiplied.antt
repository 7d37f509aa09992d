-- A table's cells times those of a message that have their values, for the cells that pass a test.
use Rattle.std.proofs.Common.{◌≡◌, ℕ, ◌+◌, ◌*◌, ◌/◌, ◌^◌, ◌<◌, ◌≤◌, Bool, true, false, List, length, filter, slice_index, All, sym, ap, subst, ◌∙◌, arith}
use Rattle.std.proofs.lemmas.List.{get_or_default}
use Rattle.std.proofs.lemmas.List.Elements.{All-weaker}
use Rattle.mk_net.specs.declared.words.Pair.{Pair}
use Rattle.mk_states.specs.Lawful.{Lawful}
use Rattle.mk_states.specs.States.{plus_over, numbers_below}
use Rattle.mk_sums.specs.There.{holds_there}
use Rattle.mk_cell.specs.declared.cell.Cell.{Cell}
use Rattle.mk_cell.specs.Cell.{Stands, StandsAt, IsOwnAt}
use Rattle.mk_cell.specs.inner.Laws.{stands_with_more}
use Rattle.mk_scope.specs.Scopes.{LiesIn, cells_in}
use Rattle.mk_scope.specs.Cells.{values_at, cell_in, cells_where}
use Rattle.mk_table.specs.Tables.{TableOf, HasNumbers, is_touched, is_untouched}
use Rattle.mk_passes.specs.Blank.{one_digits, one_exponent, filled}
use Rattle.mk_passes.specs.Parts.{StandPairs, StandListed, IsPlusOfPairs}
use Rattle.mk_scope.specs.Runs.{cells_at}
use Rattle.mk_table.specs.inner.Touched.{HasTouched}
use Rattle.mk_scope.proofs.Chosen.{chosen_pass, chosen_few}
use Rattle.mk_scope.proofs.Kept.{cell_within}
use Rattle.mk_table.proofs.Owned.{own_is, own_stands, scaled_times, plus_scaled}
use Rattle.mk_passes.proofs.Paired.{blank_others, cells_zero, full_made}
use Rattle.mk_table.proofs.Untouched.{touched_in, untouched_there}

module _ (t m : TableOf) (passes : ℕ → Bool) (lies : LiesIn m.scope t.scope) where
  abbrev pub goes : ℕ → ℕ
  goes c = cell_in m.scope t.scope c

  abbrev pub chosen : List ℕ
  chosen = filter passes (numbers_below (cells_in t.scope))

  each_chosen : (P : ℕ → Type 0) → ((c : ℕ) → passes c ≡ true → c < cells_in t.scope → P c) → All P chosen
  each_chosen P h =
      All-weaker (λ c. (passes c ≡ true) × (c < cells_in t.scope)) P (λ c p. h c p.0 p.1) chosen (chosen_pass passes (cells_in t.scope))

  pub few_chosen : length chosen ≤ cells_in t.scope
  few_chosen = chosen_few passes (cells_in t.scope)

  pub chosen_within : (count : ℕ) → count ≡ cells_in t.scope → All (λ c. c < count) chosen
  chosen_within count e = each_chosen (λ c. c < count) (λ c h l. omega (arith, e, l))

  pub onto_within : (onto : List ℕ) (count : ℕ) → length onto ≡ cells_in t.scope → ((c : ℕ) → c < cells_in t.scope → slice_index onto c ≡ goes c) → count ≡ cells_in m.scope → All (λ d. d < count) onto
  onto_within onto count long onto_is e = λ i z l.
      let k : i < cells_in t.scope = omega (arith, l, long) in
      let w = cell_within m.scope t.scope lies i k in
      subst (λ y. y < count) (sym (get_or_default onto i z 0 l ∙ onto_is i k)) (omega (arith, w, e))

  -- both cells of each pair stand for their numbers
  module _ (full : length t.digits ≡ cells_in t.scope) (other_full : length m.digits ≡ cells_in m.scope) (f g : ℕ → ℕ) (n p : ℕ) (has : HasNumbers t f n) (other : HasNumbers m g p) where
    within : (c : ℕ) → c < cells_in t.scope → goes c < length m.digits
    within c l = let w = cell_within m.scope t.scope lies c l in omega (arith, w, other_full)

    pub table_pairs : StandPairs t.shift m.shift t.digits t.exponents m.digits m.exponents goes f (λ c. g (goes c)) n p chosen
    table_pairs = record {
      left = each_chosen (λ c. StandsAt t.shift (slice_index t.digits c) (slice_index t.exponents c) (f c) n) (λ c e l. has.stand.each c (omega (arith, l, full)));
      right = each_chosen (λ c. StandsAt m.shift (slice_index m.digits (goes c)) (slice_index m.exponents (goes c)) (g (goes c)) p) (λ c e l. other.stand.each (goes c) (within c l));
    }

    -- and where no ratio touched them for numbers of their own
    module _ (free : (c : ℕ) → passes c ≡ true → c < cells_in t.scope → is_touched t c ≡ false) (other_free : (c : ℕ) → passes c ≡ true → c < cells_in t.scope → is_touched m (goes c) ≡ false) where
      own_left : (c : ℕ) → passes c ≡ true → c < cells_in t.scope → IsOwnAt t.shift (slice_index t.digits c) (slice_index t.exponents c) (f c) n
      own_left c e l = has.own c (omega (arith, l, full)) (free c e l)

      own_right : (c : ℕ) → passes c ≡ true → c < cells_in t.scope → IsOwnAt m.shift (slice_index m.digits (goes c)) (slice_index m.exponents (goes c)) (g (goes c)) p
      own_right c e l = other.own (goes c) (within c l) (other_free c e l)

      own_product : (c : ℕ) → passes c ≡ true → c < cells_in t.scope → f c / 2 ^ t.shift * (g (goes c) / 2 ^ m.shift) * 2 ^ (t.shift + m.shift) ≡ f c * g (goes c)
      own_product c e l =
          sym (scaled_times t.shift m.shift (f c) (g (goes c)) (f c / 2 ^ t.shift) (g (goes c) / 2 ^ m.shift)
          (sym (own_is t.shift (slice_index t.digits c) (slice_index t.exponents c) (f c) n (own_left c e l)))
          (sym (own_is m.shift (slice_index m.digits (goes c)) (slice_index m.exponents (goes c)) (g (goes c)) p (own_right c e l))))

      pub table_own : (plus : ℕ → ℕ → ℕ) → Lawful plus → (q x steps : ℕ)
          → ((j k : ℕ) (a b : ℕ → ℕ) → StandPairs j k t.digits t.exponents m.digits m.exponents goes a b n p chosen → StandsAt (j + k) q x (plus_over plus 0 (λ c. a c * b c) chosen) steps)
          → IsOwnAt (t.shift + m.shift) q x (plus_over plus 0 (λ c. f c * g (goes c)) chosen) steps
      table_own plus law q x steps made = record {
        own = plus_over plus 0 (λ c. f c / 2 ^ t.shift * (g (goes c) / 2 ^ m.shift)) chosen;
        scaled = sym (plus_scaled plus law (λ c. f c * g (goes c)) (λ c. f c / 2 ^ t.shift * (g (goes c) / 2 ^ m.shift)) (2 ^ (t.shift + m.shift)) chosen
            (each_chosen (λ c. f c / 2 ^ t.shift * (g (goes c) / 2 ^ m.shift) * 2 ^ (t.shift + m.shift) ≡ f c * g (goes c)) own_product));
        stands = made 0 0 (λ c. f c / 2 ^ t.shift) (λ c. g (goes c) / 2 ^ m.shift) (record {
          left = each_chosen (λ c. StandsAt 0 (slice_index t.digits c) (slice_index t.exponents c) (f c / 2 ^ t.shift) n)
              (λ c e l. own_stands t.shift (slice_index t.digits c) (slice_index t.exponents c) (f c) n (own_left c e l));
          right = each_chosen (λ c. StandsAt 0 (slice_index m.digits (goes c)) (slice_index m.exponents (goes c)) (g (goes c) / 2 ^ m.shift) p)
              (λ c e l. own_stands m.shift (slice_index m.digits (goes c)) (slice_index m.exponents (goes c)) (g (goes c)) p (own_right c e l));
        });
      }

  -- by the arrays and the lists that the code reads
  pub from_code : (d e md me onto xs : List ℕ) → d ≡ t.digits → e ≡ t.exponents → md ≡ m.digits → me ≡ m.exponents → xs ≡ chosen → ((c : ℕ) → c < cells_in t.scope → slice_index onto c ≡ goes c)
      → (plus : ℕ → ℕ → ℕ) (cell : Cell) → IsPlusOfPairs plus d e md me (slice_index onto) (cells_at 0 xs) (2 * length xs + 1) cell
      → (j k : ℕ) (a b : ℕ → ℕ) (n p : ℕ) → StandPairs j k t.digits t.exponents m.digits m.exponents goes a b n p chosen → Stands (j + k) cell (plus_over plus 0 (λ c. a c * b c) chosen) (n + p + 2 * cells_in t.scope + 1)
  from_code d e md me onto xs di ei mdi mei xi onto_is plus cell made j k a b n p h =
      stands_with_more (j + k) cell.digits cell.exponent (plus_over plus 0 (λ c. a c * b c) chosen) (n + p + (2 * length chosen + 1)) (n + p + 2 * cells_in t.scope + 1) (omega (arith, few_chosen))
      (full_made plus t.digits t.exponents m.digits m.exponents goes 0 xs chosen (cells_zero xs ∙ xi) (length chosen) (ap length xi) cell.digits cell.exponent d e md me onto di ei mdi mei
      (each_chosen (λ c. slice_index onto c ≡ goes c) (λ c e l. onto_is c l)) made j k a b n p h)

  -- where nothing is written of the message
  pub from_blank : (xs ys : List ℕ) → m.digits ≡ filled one_digits (cells_in m.scope) xs → m.exponents ≡ filled one_exponent (cells_in m.scope) ys → length xs ≡ 0 → length ys ≡ 0
      → (plus : ℕ → ℕ → ℕ) (q x : ℕ) → ((k : ℕ) (f : ℕ → ℕ) (n : ℕ) → StandListed k t.digits t.exponents f n 0 chosen → StandsAt k q x (plus_over plus 0 f chosen) (n + 2 * cells_in t.scope))
      → (j k : ℕ) (a b : ℕ → ℕ) (n p : ℕ) → StandPairs j k t.digits t.exponents m.digits m.exponents goes a b n p chosen → StandsAt (j + k) q x (plus_over plus 0 (λ c. a c * b c) chosen) (n + p + 2 * cells_in t.scope + 1)
  from_blank xs ys di ei none none_too plus q x made j k a b n p h =
      let steps : n + p + 1 + 2 * cells_in t.scope ≡ n + p + 2 * cells_in t.scope + 1 = omega arith in
      subst (λ s. StandsAt (j + k) q x (plus_over plus 0 (λ c. a c * b c) chosen) s) steps
      (made (j + k) (λ c. a c * b c) (n + p + 1)
      (blank_others t.digits t.exponents m.digits m.exponents chosen goes (cells_in m.scope) xs ys di ei none none_too (each_chosen (λ c. goes c < cells_in m.scope) (λ c e l. cell_within m.scope t.scope lies c l)) j k a b n p h))

-- ---- the cells where an event holds

abbrev pub event_passes : TableOf → List Pair → ℕ → Bool
event_passes t event c = holds_there event (values_at t.scope c)

module _ (t m : TableOf) (event : List Pair) (lies : LiesIn m.scope t.scope) where
  pub event_free : is_untouched t event ≡ true → (c : ℕ) → event_passes t event c ≡ true → c < cells_in t.scope → is_touched t c ≡ false
  event_free untouched c e l = untouched_there t.touched event (values_at t.scope c) untouched e

  pub event_free_too : HasTouched m.scope m.touched → is_untouched m event ≡ true → (c : ℕ) → event_passes t event c ≡ true → c < cells_in t.scope → is_touched m (cell_in m.scope t.scope c) ≡ false
  event_free_too there untouched c e l = touched_in m.scope t.scope m.touched lies there c l ∙ untouched_there m.touched event (values_at t.scope c) untouched e

-- a cell is the plus of the products where an event holds, and has a number of its own where no ratio touched them
pub record IsTotal (plus : ℕ → ℕ → ℕ) (t m : TableOf) (event : List Pair) (q x : ℕ) : Type 0 where
  pub stands : (f g : ℕ → ℕ) (n p : ℕ) → HasNumbers t f n → HasNumbers m g p
      → StandsAt (t.shift + m.shift) q x (plus_over plus 0 (λ c. f c * g (cell_in m.scope t.scope c)) (cells_where t.scope event)) (n + p + 2 * cells_in t.scope + 1)
  pub own : is_untouched t event ≡ true → is_untouched m event ≡ true → (f g : ℕ → ℕ) (n p : ℕ) → HasNumbers t f n → HasNumbers m g p
      → IsOwnAt (t.shift + m.shift) q x (plus_over plus 0 (λ c. f c * g (cell_in m.scope t.scope c)) (cells_where t.scope event)) (n + p + 2 * cells_in t.scope + 1)

pub is_total : (plus : ℕ → ℕ → ℕ) → Lawful plus → (t m : TableOf) (event : List Pair) (lies : LiesIn m.scope t.scope) → length t.digits ≡ cells_in t.scope → length m.digits ≡ cells_in m.scope
    → HasTouched m.scope m.touched → (q x : ℕ)
    → ((j k : ℕ) (a b : ℕ → ℕ) (n p : ℕ) → StandPairs j k t.digits t.exponents m.digits m.exponents (goes t m (event_passes t event) lies) a b n p (chosen t m (event_passes t event) lies)
    → StandsAt (j + k) q x (plus_over plus 0 (λ c. a c * b c) (chosen t m (event_passes t event) lies)) (n + p + 2 * cells_in t.scope + 1))
    → IsTotal plus t m event q x
is_total plus law t m event lies full other_full there q x made =
    let passes = event_passes t event in
    record {
      stands = λ f g n p has other. made t.shift m.shift f (λ i. g (cell_in m.scope t.scope i)) n p (table_pairs t m passes lies full other_full f g n p has other);
      own = λ untouched untouched_too f g n p has other.
          table_own t m passes lies full other_full f g n p has other (event_free t m event lies untouched) (event_free_too t m event lies there untouched_too) plus law
          q x (n + p + 2 * cells_in t.scope + 1) (λ i j a b pairs. made i j a b n p pairs);
    }
