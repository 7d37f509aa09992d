-- What a cell says of an exact number: a whole number, where 0 stands for Absent.
use Rattle.std.specs.Prelude.{◌≡◌, ℕ, ◌+◌, ◌*◌, ◌^◌, ◌<◌, ◌≤◌, List, length, slice_index, refl}
use Rattle.mk_scaled.specs.Range.{two_to}
use Rattle.mk_cell.specs.declared.cell.Cell.{Cell}

-- What exponents are counted from. No proof of another file computes it.
pub bias : ℕ
bias = 1342177280

pub bias-is : bias ≡ 1342177280
unfolding bias
bias-is = refl

-- high is at most low times (1 + 2 ^ -63) ^ steps
pub record IsClose (low high steps : ℕ) : Type 0 where
  pub close : high * (2 ^ 63) ^ steps ≤ low * (2 ^ 63 + 1) ^ steps

-- A lower end of an exact number, both counted in parts of a whole one: it is the number where it is below 2 ^ 63.
pub record IsLowerEnd (low exact whole steps : ℕ) : Type 0 where
  pub below : low ≤ exact
  pub close : IsClose low exact steps
  pub same : low < 2 ^ 63 * whole → low ≡ exact

-- 64 digits of which the first is set, or none
pub record IsForm (digits exponent : ℕ) : Type 0 where
  pub absent : digits ≡ 0 → exponent ≡ 0
  pub full : 0 < digits → 2 ^ 63 ≤ digits
  pub fits : digits < 2 ^ 64

-- A form whose exponent leaves room for a product.
pub record IsCell (digits exponent : ℕ) : Type 0 where
  pub form : IsForm digits exponent
  pub low : 0 < digits → 7 * 2 ^ 27 ≤ exponent
  pub high : exponent ≤ 13 * 2 ^ 27

-- The digits times 2 ^ (exponent + shift - bias) are a lower end of the exact number, which the steps bound.
pub record StandsAt (shift digits exponent exact steps : ℕ) : Type 0 where
  pub form : IsForm digits exponent
  pub lower : IsLowerEnd (digits * 2 ^ (exponent + shift)) (exact * 2 ^ bias) (2 ^ bias) steps
  pub size : exact < two_to (64 * (steps + 1))

abbrev pub Stands : ℕ → Cell → ℕ → ℕ → Type 0
Stands shift cell exact steps = StandsAt shift cell.digits cell.exponent exact steps

-- Under no shift a cell stands for a number of its own, and the number is 2 ^ shift times that.
pub record IsOwnAt (shift digits exponent number steps : ℕ) : Type 0 where
  pub own : ℕ
  pub scaled : number ≡ own * 2 ^ shift
  pub stands : StandsAt 0 digits exponent own steps

abbrev pub IsOwnOf : ℕ → Cell → ℕ → ℕ → Type 0
IsOwnOf shift cell number steps = IsOwnAt shift cell.digits cell.exponent number steps

-- each cell of two arrays stands for its value of f
pub record AllStand (shift : ℕ) (digits exponents : List ℕ) (f : ℕ → ℕ) (steps : ℕ) : Type 0 where
  pub each : (c : ℕ) → c < length digits → StandsAt shift (slice_index digits c) (slice_index exponents c) (f c) steps

-- two arrays that are cells
pub record AreCells (digits exponents : List ℕ) : Type 0 where
  pub same_length : length exponents ≡ length digits
  pub each : (c : ℕ) → c < length digits → IsCell (slice_index digits c) (slice_index exponents c)

-- the full digits of a number, whose last digit counts 2 ^ exponent
pub record IsCut (digits exponent number : ℕ) : Type 0 where
  pub full : 2 ^ 63 ≤ digits
  pub fits : digits < 2 ^ 64
  pub lower : digits * 2 ^ exponent ≤ number
  pub upper : number < (digits + 1) * 2 ^ exponent

-- The number's full digits, counted from the bias; none where it is 0.
pub record IsRounded (digits exponent number : ℕ) : Type 0 where
  pub form : IsForm digits exponent
  pub none : number ≡ 0 → digits ≡ 0
  pub cut : 0 < number → IsCut digits (exponent + bias) number
