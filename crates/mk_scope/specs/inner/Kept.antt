-- Places as they are kept.
use Rattle.std.specs.Prelude.{◌≡◌, ℕ, ◌<◌, List}
use Rattle.mk_scope.specs.Scopes.{ScopeOf}
use Rattle.mk_scope.specs.Places.{ArePlaces, AreOnto}

-- both, as they are kept, and the cells of longer runs one by one
pub record AreKeptPlaces (part whole : ScopeOf) (bases offsets : List ℕ) (run : ℕ) (onto beside : List ℕ) : Type 0 where
  pub are : ArePlaces part whole bases offsets run
  pub onto_are : AreOnto part whole onto
  pub beside_are : 1 < run → beside ≡ offsets
