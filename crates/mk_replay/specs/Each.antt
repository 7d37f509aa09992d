-- The assets of all users.
use Rattle.std.specs.Prelude.{◌≡◌, ℕ, List, Some, slice_get}
use Rattle.mk_engine.specs.Meaning.{Meaning}
use Rattle.mk_assets.specs.declared.assets.Assets.{Assets}
use Rattle.mk_assets.specs.Holdings.{Holding, Holds}

-- each user's assets are those of the user's holding
abbrev pub HoldAll : {E P : Type 0} → (E → Meaning → Type 0) → (ℕ → Holding) → List (Assets E P)
    → Type 0
HoldAll {E} {P} stands_for holding all = (u : ℕ) (assets : Assets E P)
    → slice_get all u ≡ Some assets → Holds stands_for assets (holding u)
