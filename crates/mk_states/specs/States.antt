-- States: every list that gives each variable one of its values, and what is summed or multiplied over a list.
use Rattle.std.specs.Prelude.{ℕ, ◌*◌, ◌<◌, ◌≡◌, List, [], ◌∷◌, map, length, slice_index}
use Rattle.std.specs.List.{flat_map, range_with_len}

-- the numbers 0, 1, .. below a size
abbrev pub numbers_below : ℕ → List ℕ
numbers_below size = range_with_len 0 size

-- every list that gives each variable one of its values, the last variable's changing fastest
abbrev pub states : List ℕ → List (List ℕ)
states [] = [] ∷ []
states (size ∷ sizes) = flat_map (λ v. map (λ s. v ∷ s) (states sizes)) (numbers_below size)

-- the plus of f over a list, from the neutral value
abbrev pub plus_over : {X V : Type 0} → (V → V → V) → V → (X → V) → List X → V
plus_over plus none f [] = none
plus_over plus none f (x ∷ xs) = plus (f x) (plus_over plus none f xs)

-- the product of f over a list
abbrev pub product_by : {X : Type 0} → (X → ℕ) → List X → ℕ
product_by f xs = plus_over ◌*◌ 1 f xs

-- a list gives each variable one of its values
pub record IsState (sizes : List ℕ) (s : List ℕ) : Type 0 where
  pub one_each : length s ≡ length sizes
  pub in_range : (k : ℕ) → k < length sizes → slice_index s k < slice_index sizes k
