-- How many messages a belief makes.
use Rattle.std.specs.Prelude.{◌≡◌, ℕ, ◌-◌, ◌≤◌, length}
use Rattle.mk_sums.specs.Trees.{way}
use Rattle.mk_tree.specs.Given.{link_of, AreLinked}
use Rattle.mk_plan.specs.Shapes.{IsClique}
use Rattle.mk_tree_engine.specs.Engines.{MarkedFlow, stale_number, MarksAway}

-- a belief makes at most one message for each separator
abbrev pub OnePerSeparator : Type 0
OnePerSeparator = (e : MarkedFlow) (c : ℕ) → AreLinked e.flow.shape.tree → IsClique e.flow.shape.tree c → stale_number e c ≤ length e.flow.shape.tree.cliques - 1

-- where all messages towards a clique are current and then one thing is placed in another clique, those that are stale are as many
-- as the separators between the two
abbrev pub StaleBetween : Type 0
StaleBetween = (old new : MarkedFlow) (b c : ℕ) → AreLinked old.flow.shape.tree → IsClique old.flow.shape.tree b → IsClique old.flow.shape.tree c
    → new.flow.shape ≡ old.flow.shape → stale_number old c ≡ 0 → MarksAway old new b
    → stale_number new c ≡ length (way (link_of old.flow.shape.tree) (length old.flow.shape.tree.cliques) b c)
