-- Sets of variables: lists of numbers in rising order.
use Rattle.std.specs.Prelude.{◌≡◌, ℕ, List, [], filter, Bool, true, ◌||◌, ◌==◌}
use Rattle.std.specs.List.{list_any, range_with_len}
use Rattle.mk_net.specs.Bounds.{max_variables}

abbrev pub VarSet : Type 0
VarSet = List ℕ

-- a variable is in the set
abbrev pub is_member : VarSet → ℕ → Bool
is_member set x = list_any (λ v. v == x) set

-- each variable of a set is in another
abbrev pub IsSubset : VarSet → VarSet → Type 0
IsSubset part whole = (x : ℕ) → is_member part x ≡ true → is_member whole x ≡ true

-- the variables that pass a test, in rising order
unfoldable pub set_where : (ℕ → Bool) → VarSet
set_where test = filter test (range_with_len 0 max_variables)

abbrev pub no_variables : VarSet
no_variables = []

-- a set with one variable more
abbrev pub with_member : ℕ → VarSet → VarSet
with_member x set = set_where (λ v. (v == x) || is_member set v)

-- the set of some variables
abbrev pub set_of : List ℕ → VarSet
set_of variables = set_where (is_member variables)
