-- The variables that trades name, and the values that cells give them.
use Rattle.std.specs.Prelude.{◌≡◌, ℕ, ◌*◌, ◌/◌, ◌%◌, ◌<◌, ◌≤◌, Bool, not, ◌||◌, ◌==◌, if◌then◌else◌}
use Rattle.std.specs.Prelude.{List, [], ◌∷◌, length, slice_index}
use Rattle.std.specs.List.{list_any, list_all}
use Rattle.mk_net.specs.declared.words.Pair.{Pair}
use Rattle.mk_user_engine.specs.declared.names.Named.{Named}

-- cells of the narrow form, and variables, of which each has at least two values
abbrev pub max_cells : ℕ
max_cells = 64

abbrev pub max_names : ℕ
max_names = 6

abbrev pub is_named : List Named → ℕ → Bool
is_named names x = list_any (λ (n : Named). n.variable == x) names

-- the value that a cell gives a variable; 0 where it is not named
abbrev pub value_in : List Named → ℕ → ℕ → ℕ
value_in [] c x = 0
value_in (n ∷ ns) c x = if n.variable == x then c / n.stride % n.values else value_in ns c x

-- a cell gives each named variable of some pairs the value of its pair
abbrev pub agrees : List Named → List Pair → ℕ → Bool
agrees names pairs c =
    list_all
    (λ (p : Pair). not (is_named names p.variable) || value_in names c p.variable == p.value)
    pairs

pub record CanDivide (n : Named) : Type 0 where
  pub stride : 1 ≤ n.stride
  pub values : 1 ≤ n.values

-- the values of each variable change after as many cells as those before it have together
abbrev pub AreStrided : ℕ → List Named → ℕ → Type 0
AreStrided stride [] cells = cells ≡ stride
AreStrided stride (n ∷ ns) cells =
    (n.stride ≡ stride) × (1 ≤ n.values) × AreStrided (stride * n.values) ns cells

-- a variable has so many values, at least one
pub record IsSize (sizes : List ℕ) (variable values : ℕ) : Type 0 where
  pub within : variable < length sizes
  pub size_is : values ≡ slice_index sizes variable
  pub some : 1 ≤ values

abbrev pub IsSized : List ℕ → Named → Type 0
IsSized sizes n = IsSize sizes n.variable n.values
