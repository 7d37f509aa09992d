-- Tables of cells, and which numbers their cells stand for.
use Rattle.std.specs.Prelude.{◌≡◌, ℕ, ◌+◌, ◌^◌, ◌<◌, Bool, true, false, List, length, slice_index, ◌*◌, ◌≤◌, ◌⊎◌, All, take, drop}
use Rattle.mk_net.specs.Bounds.{max_values}
use Rattle.mk_cell.specs.Cell.{AllStand, StandsAt}
use Rattle.mk_scope.specs.Scopes.{ScopeOf, cells_in}
use Rattle.mk_states.specs.States.{plus_over}
use Rattle.mk_cell.specs.declared.cell.Cell.{Cell}
use Rattle.mk_scope.specs.Runs.{IsAmong}

-- below these every cell leaves room for a product, and so does a product of two
abbrev pub max_steps : ℕ
max_steps = 3 * 2 ^ 20

abbrev pub max_shift : ℕ
max_shift = 2 ^ 26

-- both arrays have a place for each cell of the scope
pub record IsFull (scope : ScopeOf) (digits exponents : List ℕ) : Type 0 where
  pub as_many_digits : length digits ≡ cells_in scope
  pub as_many_exponents : length exponents ≡ cells_in scope

-- nothing is written of two arrays, or each cell of both
pub record AreBlankOrFull (cells : ℕ) (digits exponents : List ℕ) : Type 0 where
  pub either : ((length digits ≡ 0) × (length exponents ≡ 0)) ⊎ ((length digits ≡ cells) × (length exponents ≡ cells))

-- the same of arrays that have room for all cells
pub record AreHeld (cells : ℕ) (digits exponents : List ℕ) (digits_room exponents_room : ℕ) : Type 0 where
  pub whole : AreBlankOrFull cells digits exponents
  pub digits_fit : cells ≤ digits_room
  pub exponents_fit : cells ≤ exponents_room

-- the cells that lie so far from a base stand for their numbers of f
pub record StandListed (shift : ℕ) (digits exponents : List ℕ) (f : ℕ → ℕ) (steps base : ℕ) (offsets : List ℕ) : Type 0 where
  pub listed : All (λ c. StandsAt shift (slice_index digits (base + c)) (slice_index exponents (base + c)) (f (base + c)) steps) offsets

-- some cells stand for their numbers of f, and the cells of another table that have their values for theirs of g
pub record StandPairs (j k : ℕ) (digits exponents other_digits other_exponents : List ℕ) (onto f g : ℕ → ℕ) (n p : ℕ) (chosen : List ℕ) : Type 0 where
  pub left : All (λ c. StandsAt j (slice_index digits c) (slice_index exponents c) (f c) n) chosen
  pub right : All (λ c. StandsAt k (slice_index other_digits (onto c)) (slice_index other_exponents (onto c)) (g c) p) chosen

-- digits and an exponent stand for the plus of the products of pairs, whatever numbers these stand for
abbrev pub MakesPlusOfPairs : (ℕ → ℕ → ℕ) → List ℕ → List ℕ → List ℕ → List ℕ → (ℕ → ℕ) → List ℕ → ℕ → ℕ → ℕ → Type 0
MakesPlusOfPairs plus digits exponents other_digits other_exponents onto chosen more digit exponent =
    (j k : ℕ) (f g : ℕ → ℕ) (n p : ℕ) → StandPairs j k digits exponents other_digits other_exponents onto f g n p chosen
    → StandsAt (j + k) digit exponent (plus_over plus 0 (λ c. f c * g c) chosen) (n + p + more)

-- so does a cell
abbrev pub IsPlusOfPairs : (ℕ → ℕ → ℕ) → List ℕ → List ℕ → List ℕ → List ℕ → (ℕ → ℕ) → List ℕ → ℕ → Cell → Type 0
IsPlusOfPairs plus digits exponents other_digits other_exponents onto chosen more cell =
    MakesPlusOfPairs plus digits exponents other_digits other_exponents onto chosen more cell.digits cell.exponent

-- two arrays whose cells stand under a shift, with room for so many steps more
pub record HaveRoom (shift : ℕ) (digits exponents : List ℕ) (more : ℕ) : Type 0 where
  pub same_length : length exponents ≡ length digits
  pub numbers : ℕ → ℕ
  pub steps : ℕ
  pub stand : AllStand shift digits exponents numbers steps
  pub few_steps : steps + more < max_steps
  pub small_shift : shift < max_shift

-- A cell becomes another, which stands for the product by a number under a shift, in one step more than both.
pub record IsTimes (digits exponent shift number steps new_digits new_exponent : ℕ) : Type 0 where
  pub stands : (j v n : ℕ) → StandsAt j digits exponent v n → StandsAt (j + shift) new_digits new_exponent (v * number) (n + steps + 1)

-- A cell becomes another, which stands for the product by whatever a third cell stands for.
pub record IsTimesCell (digits exponent other_digits other_exponent new_digits new_exponent : ℕ) : Type 0 where
  pub times : (k w p : ℕ) → StandsAt k other_digits other_exponent w p → IsTimes digits exponent k w p new_digits new_exponent

-- the cells of the units of a ratio, one for each value of its variable, of 16 at most
pub record AreUnitCells (units digits exponents : List ℕ) : Type 0 where
  pub few : length units ≤ max_values
  pub long : length digits ≡ 16
  pub long_too : length exponents ≡ 16
  pub stand : (v : ℕ) → v < length units → StandsAt 40 (slice_index digits v) (slice_index exponents v) (slice_index units v) 0

-- Of two arrays the cells that are reached are changed as R says, and the others are as they were.
pub record IsChanged (R : ℕ → ℕ → ℕ → ℕ → ℕ → Type 0) (reached : ℕ → Type 0) (old_digits old_exponents digits exponents : List ℕ) : Type 0 where
  pub as_many_digits : length digits ≡ length old_digits
  pub as_many_exponents : length exponents ≡ length old_exponents
  pub done : (c : ℕ) → reached c → R c (slice_index old_digits c) (slice_index old_exponents c) (slice_index digits c) (slice_index exponents c)
  pub digits_left : (c : ℕ) → (reached c → ⊥) → slice_index digits c ≡ slice_index old_digits c
  pub exponents_left : (c : ℕ) → (reached c → ⊥) → slice_index exponents c ≡ slice_index old_exponents c

-- Of two arrays the first `count` chosen cells are pluses, each of the cells that lie so far from its base, and the others are as they were.
pub record AreMadeAnew (plus : ℕ → ℕ → ℕ) (digits exponents bases offsets : List ℕ) (more : ℕ) (chosen : List ℕ) (count : ℕ) (old_digits old_exponents new_digits new_exponents : List ℕ) : Type 0 where
  pub as_many_digits : length new_digits ≡ length old_digits
  pub as_many_exponents : length new_exponents ≡ length old_exponents
  pub stand : (b : ℕ) → IsAmong chosen count b → (k : ℕ) (f : ℕ → ℕ) (n : ℕ) → StandListed k digits exponents f n (slice_index bases b) offsets
      → StandsAt k (slice_index new_digits b) (slice_index new_exponents b) (plus_over plus 0 (λ c. f (slice_index bases b + c)) offsets) (n + more)
  pub digits_left : (b : ℕ) → (IsAmong chosen count b → ⊥) → slice_index new_digits b ≡ slice_index old_digits b
  pub exponents_left : (b : ℕ) → (IsAmong chosen count b → ⊥) → slice_index new_exponents b ≡ slice_index old_exponents b

-- what a restriction makes of a cell that it keeps, or does not keep
pub record IsRestricted (kept : Bool) (digits exponent new_digits new_exponent : ℕ) : Type 0 where
  pub same_digits : kept ≡ true → new_digits ≡ digits
  pub same_exponent : kept ≡ true → new_exponent ≡ exponent
  pub no_digits : kept ≡ false → new_digits ≡ 0
  pub no_exponent : kept ≡ false → new_exponent ≡ 0

-- a block of a list of cells
abbrev pub block_of : List ℕ → ℕ → List ℕ
block_of xs b = take 64 (drop (b * 64) xs)
