-- Marks of stale messages: of those upward, and of those downward, each for the cliques from 2 on.
use Rattle.std.specs.Prelude.{◌≡◌, ℕ, ◌+◌, ◌-◌, ◌<◌, List, length, Bool, true, false, not, ◌&&◌, ◌||◌, ◌==◌, nat_lt, if◌then◌else◌, slice_index_or, slice_set, Option, Some, None}
use Rattle.std.specs.Option.{ForSome}
use Rattle.mk_tree.specs.Given.{GivenTree, link_of, AreLinked}
use Rattle.mk_sums.specs.Trees.{sum_of}
use Rattle.mk_plan.specs.Shapes.{IsClique, are_linked, is_behind, next_on_way}
use Rattle.mk_propagate.specs.Flows.{FlowOf}
use Rattle.mk_tree_engine.specs.Engines.{MarkedFlow, leads_towards}

-- a flow with these marks
abbrev pub marked : FlowOf → List Bool → List Bool → MarkedFlow
marked flow up down = record { flow = flow; stale_up = up; stale_down = down }

-- the message from a to b is stale
abbrev pub marked_stale : List Bool → List Bool → ℕ → ℕ → Bool
marked_stale up down a b = if nat_lt b a then slice_index_or up (a - 2) true else slice_index_or down (b - 2) true

-- one mark each way for each clique after the first
pub record AreMarks (cliques : ℕ) (up down : List Bool) : Type 0 where
  pub one_less_up : length up + 1 ≡ cliques
  pub one_less_down : length down + 1 ≡ cliques

-- each message is stale
pub record AreAllStale (cliques : ℕ) (up down : List Bool) : Type 0 where
  pub marks : AreMarks cliques up down
  pub each : (a b : ℕ) → marked_stale up down a b ≡ true

-- a tree whose messages have these marks
pub record AreMarksOf (tree : GivenTree) (up down : List Bool) : Type 0 where
  pub linked : AreLinked tree
  pub marks : AreMarks (length tree.cliques) up down

-- no message that leads towards a clique is stale
pub record AreCurrentTowards (tree : GivenTree) (up down : List Bool) (c : ℕ) : Type 0 where
  pub clique_is : IsClique tree c
  pub current : (a b : ℕ) → are_linked tree a b ≡ true → leads_towards tree c a b ≡ true → marked_stale up down a b ≡ false

-- a tree whose messages have these marks, and the clique that is kept, where one is: no message towards it is stale
pub record IsMarked (tree : GivenTree) (up down : List Bool) (collected : Option ℕ) : Type 0 where
  pub marks_of : AreMarksOf tree up down
  pub current : ForSome collected (AreCurrentTowards tree up down)

-- the clique that is kept stays where something is placed in this same clique
abbrev pub kept_in : Option ℕ → ℕ → Option ℕ
kept_in None clique = None
kept_in (Some c) clique = if c == clique then Some c else None

-- of the first so many cliques from 2 on, each whose message to its link has a clique behind it is marked as well
pub record AreMarkedUp (tree : GivenTree) (clique passed : ℕ) (old new : List Bool) : Type 0 where
  pub long : length new ≡ length old
  pub each : (i : ℕ) → i < length old
      → slice_index_or new i true ≡ (slice_index_or old i true || (nat_lt i passed && is_behind tree (i + 2) (link_of tree (i + 2)) clique))

-- likewise each whose link's message to it has the clique behind it
pub record AreMarkedDown (tree : GivenTree) (clique passed : ℕ) (old new : List Bool) : Type 0 where
  pub long : length new ≡ length old
  pub each : (i : ℕ) → i < length old
      → slice_index_or new i true ≡ (slice_index_or old i true || (nat_lt i passed && is_behind tree (link_of tree (i + 2)) (i + 2) clique))

-- the marks of the places from one on, and before another, are set as well
pub record AreMarkedFrom (first end : ℕ) (old new : List Bool) : Type 0 where
  pub long : length new ≡ length old
  pub each : (i : ℕ) → i < length old
      → slice_index_or new i true ≡ (slice_index_or old i true || (nat_lt i end && not (nat_lt i first)))

-- the mark of the message from a to b is cleared
abbrev pub cleared_up : List Bool → ℕ → ℕ → List Bool
cleared_up up a b = if nat_lt b a then slice_set up (a - 2) false else up

abbrev pub cleared_down : List Bool → ℕ → ℕ → List Bool
cleared_down down a b = if nat_lt b a then down else slice_set down (b - 2) false

-- how many of the messages of the first so many cliques towards clique c are stale
abbrev pub stale_marks : GivenTree → List Bool → List Bool → ℕ → ℕ → ℕ
stale_marks tree up down c count = sum_of (λ k. not (k == c)) count (λ k. if marked_stale up down k (next_on_way tree k c) then 1 else 0)
