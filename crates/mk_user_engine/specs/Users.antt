-- What a user's engine stands for.
use Rattle.std.specs.Prelude.{◌≡◌, true, false}
use Rattle.mk_cell.specs.Least.{least}
use Rattle.mk_engine.specs.Meaning.{Meaning, opening}
use Rattle.mk_plan.specs.Shapes.{IsShapeFor}
use Rattle.mk_tree_engine.specs.Engines.{MarkedFlow, HasTree}
use Rattle.mk_user_engine.specs.declared.engine.UserEngine.{UserEngine}
use Rattle.mk_user_engine.specs.NarrowForm.{IsNarrow}

-- nothing was given to the engine over the tree
abbrev pub Begun : MarkedFlow → Meaning → Type 0
Begun tree m = HasTree least tree (opening m.network m.tree)

-- the narrow form, beside an engine over the tree that has nothing
pub record IsBeside (e : UserEngine) (m : Meaning) : Type 0 where
  pub shape_for : IsShapeFor e.shape.value m.network
  pub tree_is : e.shape.value.tree ≡ m.tree
  pub lists : IsNarrow e.narrow m
  pub begun : Begun e.tree m

-- in its narrow form the lists stand for a meaning, and once it has gone over the engine over the
-- tree does
pub record StandsFor (e : UserEngine) (m : Meaning) : Type 0 where
  pub tree_is : e.tree.flow.shape.tree ≡ m.tree
  pub narrow : e.is_over ≡ false → IsBeside e m
  pub over : e.is_over ≡ true → HasTree least e.tree m
