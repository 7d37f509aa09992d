-- Where the cells of a part lie in a whole.
use Rattle.std.specs.Prelude.{◌≡◌, ℕ, ◌*◌, ◌<◌, ◌≤◌, List, length, slice_index}
use Rattle.mk_scope.specs.Scopes.{ScopeOf, IsScope, LiesIn, cells_in}
use Rattle.mk_scope.specs.Cells.{cell_in, cells_onto}
use Rattle.mk_scope.specs.Runs.{cells_at}

-- a base in the whole for each cell of a part: the cells with its values lie there and so far from it, in runs
pub record ArePlaces (part whole : ScopeOf) (bases offsets : List ℕ) (run : ℕ) : Type 0 where
  pub is_whole : IsScope whole
  pub lies_in : LiesIn part whole
  pub one_each : length bases ≡ cells_in part
  pub onto : (d : ℕ) → d < cells_in part → cells_at (slice_index bases d) offsets ≡ cells_onto part whole d
  pub few : length offsets ≤ cells_in whole
  pub beside : length bases * length offsets ≡ cells_in whole
  pub some : 1 ≤ run

-- for each cell of a whole the part's cell that has its values
pub record AreOnto (part whole : ScopeOf) (onto : List ℕ) : Type 0 where
  pub one_each : length onto ≡ cells_in whole
  pub cell : (c : ℕ) → c < cells_in whole → slice_index onto c ≡ cell_in part whole c
