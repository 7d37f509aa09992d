-- What a reading adds up: a table's cells times those of a product of messages that have their
-- values, where an event holds.
use Rattle.std.specs.Prelude.{◌≡◌, ℕ, ◌+◌, ◌*◌, ◌^◌, ◌<◌, ◌≤◌, true, List}
use Rattle.mk_net.specs.declared.words.Pair.{Pair}
use Rattle.mk_net.specs.Bounds.{number_limit}
use Rattle.mk_states.specs.States.{plus_over}
use Rattle.mk_scope.specs.Scopes.{cells_in}
use Rattle.mk_scope.specs.Cells.{cell_in, cells_where}
use Rattle.mk_table.specs.Tables.{TableOf, HasNumbers, is_untouched}

-- the plus of the products of their numbers
abbrev pub total_of : (ℕ → ℕ → ℕ) → TableOf → TableOf → List Pair → (ℕ → ℕ) → (ℕ → ℕ) → ℕ
total_of plus table into event f g =
    plus_over plus 0 (λ c. f c * g (cell_in into.scope table.scope c))
    (cells_where table.scope event)

-- so many steps of both leave a total within three steps for each of a grade
abbrev pub IsWithin : TableOf → ℕ → ℕ → ℕ → Type 0
IsWithin table n p grade = n + p + 2 * cells_in table.scope + 1 ≤ 3 * grade

-- both have numbers, of which the total is within the grade
pub record HaveTotal (table into : TableOf) (grade : ℕ) : Type 0 where
  pub numbers : ℕ → ℕ
  pub others : ℕ → ℕ
  pub steps : ℕ
  pub other_steps : ℕ
  pub has : HasNumbers table numbers steps
  pub has_others : HasNumbers into others other_steps
  pub within : IsWithin table steps other_steps grade

-- A value encloses the total, and has the grade. It is exact if the total is small, or, where no
-- ratio touched a cell of the event, if
-- what is left of it under no shift is.
pub record IsTotal {V : Type 0} (encloses : V → ℕ → Type 0) (has_grade : V → ℕ → Type 0)
    (is_exact : V → Type 0)
    (plus : ℕ → ℕ → ℕ) (table into : TableOf) (event : List Pair) (grade : ℕ) (value : V) : Type 0
  where
    pub enclosed : (f g : ℕ → ℕ) (n p : ℕ) → HasNumbers table f n → HasNumbers into g p
        → IsWithin table n p grade
        → encloses value (total_of plus table into event f g)
    pub has : has_grade value grade
    pub exact : (f g : ℕ → ℕ) (n p : ℕ) → HasNumbers table f n → HasNumbers into g p
        → IsWithin table n p grade
        → total_of plus table into event f g < number_limit → is_exact value
    pub apart : is_untouched table event ≡ true → is_untouched into event ≡ true
        → (f g : ℕ → ℕ) (n p : ℕ) → HasNumbers table f n → HasNumbers into g p
        → IsWithin table n p grade
        → (own : ℕ) → total_of plus table into event f g ≤ own * 2 ^ (table.shift + into.shift)
        → own < number_limit → is_exact value
