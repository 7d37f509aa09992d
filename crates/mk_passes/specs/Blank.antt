-- Arrays of which nothing is written while each cell is 1.
use Rattle.std.specs.Prelude.{◌≡◌, ℕ, ◌-◌, List, ◌++◌, length, replicate, refl}

-- the digits and the exponent of a cell of 1 under no shift; no proof of another file computes them
pub one_digits : ℕ
one_digits = 9223372036854775808

pub one_exponent : ℕ
one_exponent = 1342177217

pub one_digits-is : one_digits ≡ 9223372036854775808
unfolding one_digits
one_digits-is = refl

pub one_exponent-is : one_exponent ≡ 1342177217
unfolding one_exponent
one_exponent-is = refl

-- what is written of an array, and then a one for each cell that is not
unfoldable pub filled : {X : Type 0} → X → ℕ → List X → List X
filled one cells written = written ++ replicate (cells - length written) one
