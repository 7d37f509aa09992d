-- Lists of tables.
use Rattle.std.specs.Prelude.{◌≡◌, ℕ, [], List, None, slice_index_or}
use Rattle.mk_scope.specs.Scopes.{ScopeOf}
use Rattle.mk_table.specs.Tables.{TableOf, HasNumbers}

abbrev pub no_scope : ScopeOf
no_scope = record { variables = []; sizes = [] }

abbrev pub no_table : TableOf
no_table = record { scope = no_scope; shift = 0; digits = []; exponents = []; touched = None }

-- table number k, counted from 0
abbrev pub table_in : List TableOf → ℕ → TableOf
table_in tables k = slice_index_or tables k no_table

-- a table of ones over a scope, under no shift, in which no ratio is
pub record IsOnes (scope : ScopeOf) (t : TableOf) : Type 0 where
  pub scope_is : t.scope ≡ scope
  pub no_shift : t.shift ≡ 0
  pub ones : HasNumbers t (λ c. 1) 0
  pub no_ratio : t.touched ≡ None
