-- What the trials keep of an engine.
use Rattle.std.specs.Prelude.{◌≡◌, ℕ, ◌≤◌, length}
use Rattle.mk_file.specs.declared.market_file.MarketFile.{MarketFile}
use Rattle.mk_engine.specs.Meaning.{Meaning}

-- an engine of some kind stands for a meaning of a file's network and tree
-- with at most so many factors
pub record IsInUse {E : Type 0} (stands_for : E → Meaning → Type 0) (engine : E)
    (file : MarketFile) (count : ℕ) : Type 0 where
  pub meaning : Meaning
  pub stands : stands_for engine meaning
  pub of_network : meaning.network ≡ file.net
  pub of_tree : meaning.tree ≡ file.tree
  pub few : length meaning.factors ≤ count
