-- Tables: one cell for each assignment of a list of variables, the last variable's value changing fastest.
use Rattle.std.specs.Prelude.{◌≡◌, ℕ, ◌+◌, ◌*◌, ◌/◌, ◌%◌, ◌<◌, Bool, true, false, cond, List, [], ◌∷◌}
use Rattle.mk_sums.specs.Sums.{upd, listed}

-- the variables of a list that are in the set
abbrev pub keep : (ℕ → Bool) → List ℕ → List ℕ
keep set [] = []
keep set (x ∷ xs) = cond (set x) (x ∷ keep set xs) (keep set xs)

-- the number of cells of a table over the variables
abbrev pub cells : (ℕ → ℕ) → List ℕ → ℕ
cells size [] = 1
cells size (x ∷ xs) = size x * cells size xs

-- the number of an assignment's cell
abbrev pub cell_of : (ℕ → ℕ) → List ℕ → (ℕ → ℕ) → ℕ
cell_of size [] a = 0
cell_of size (x ∷ xs) a = a x * cells size xs + cell_of size xs a

-- the assignment of a cell; each other variable keeps its value in a
abbrev pub place : (ℕ → ℕ) → List ℕ → ℕ → (ℕ → ℕ) → ℕ → ℕ
place size [] c a = a
place size (x ∷ xs) c a = place size xs (c % cells size xs) (upd a x (c / cells size xs))

-- no variable is listed twice
abbrev pub Apart : List ℕ → Type 0
Apart [] = Unit {0}
Apart (x ∷ xs) = (listed xs x ≡ false) × Apart xs

-- each listed variable has one of its values
abbrev pub InRange : (ℕ → ℕ) → List ℕ → (ℕ → ℕ) → Type 0
InRange size xs a = (x : ℕ) → listed xs x ≡ true → a x < size x
