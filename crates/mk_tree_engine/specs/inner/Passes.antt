-- The two passes of a belief: the messages towards a clique that go to a link, and then those that come from one.
use Rattle.std.specs.Prelude.{◌≡◌, ℕ, ◌+◌, ◌≤◌, length, Bool, true, false, not, ◌&&◌, ◌||◌, ◌==◌, nat_lt, if◌then◌else◌}
use Rattle.mk_sums.specs.Trees.{sum_of}
use Rattle.mk_tree.specs.Given.{GivenTree}
use Rattle.mk_plan.specs.Shapes.{IsClique, are_linked, next_on_way}
use Rattle.mk_propagate.specs.Placings.{Placing}
use Rattle.mk_propagate.specs.Flows.{HasPlaced, IsRight, AreRightBut, KeepsTables, counted_on}
use Rattle.mk_tree_engine.specs.Engines.{MarkedFlow, is_stale, leads_towards}
use Rattle.mk_tree_engine.specs.inner.Marks.{AreMarksOf}

-- the way from a clique to another begins upward, to its link
abbrev pub goes_up : GivenTree → ℕ → ℕ → Bool
goes_up tree c k = not (k == c) && nat_lt (next_on_way tree k c) k

-- it begins downward
abbrev pub goes_down : GivenTree → ℕ → ℕ → Bool
goes_down tree c k = not (k == c) && nat_lt k (next_on_way tree k c)

-- the cliques that the first pass has passed, which begins at the last clique
abbrev pub passed_up : GivenTree → ℕ → ℕ → ℕ → Bool
passed_up tree c left k = nat_lt left k && goes_up tree c k

-- and those that the second has, which begins at the first
abbrev pub passed_down : GivenTree → ℕ → ℕ → ℕ → Bool
passed_down tree c passed k = goes_up tree c k || (nat_lt k (passed + 1) && goes_down tree c k)

-- a clique off the way from one to another: its message towards the other leads towards the one as well
abbrev pub is_off_way : GivenTree → ℕ → ℕ → ℕ → Bool
is_off_way tree from c k = not (k == c) && leads_towards tree from k (next_on_way tree k c)

-- how many cliques are on the way, with both ends
abbrev pub number_on_way : GivenTree → ℕ → ℕ → ℕ
number_on_way tree from c = sum_of (λ k. not (is_off_way tree from c k)) (length tree.cliques) (λ k. 1)

-- a number of 64 digits
abbrev pub IsCount : ℕ → Type 0
IsCount n = n ≤ 18446744073709551615

-- each message that is not stale is right
abbrev pub AreCurrent : (ℕ → ℕ → ℕ) → MarkedFlow → Placing → Type 0
AreCurrent plus e p = (a b : ℕ) → are_linked e.flow.shape.tree a b ≡ true → is_stale e a b ≡ false → IsRight plus e.flow p a b

-- how many messages of some cliques towards clique c are stale
abbrev pub stale_of : MarkedFlow → ℕ → (ℕ → Bool) → ℕ
stale_of e c done =
    sum_of done (length e.flow.shape.tree.cliques) (λ k. if is_stale e k (next_on_way e.flow.shape.tree k c) then 1 else 0)

-- the messages of some cliques towards clique c were made where they were stale
pub record AreCollected (plus : ℕ → ℕ → ℕ) (c : ℕ) (done : ℕ → Bool) (old new : MarkedFlow) : Type 0 where
  pub kept : KeepsTables plus old.flow new.flow
  pub marks_of : AreMarksOf new.flow.shape.tree new.stale_up new.stale_down
  pub marks : (a b : ℕ) → are_linked old.flow.shape.tree a b ≡ true
      → is_stale new a b ≡ (is_stale old a b && not (leads_towards old.flow.shape.tree c a b && done a))
  pub right : (p : Placing) → HasPlaced plus old.flow p → AreCurrent plus old p → AreCurrent plus new p
  pub counted : IsCount old.flow.computed → new.flow.computed ≡ counted_on old.flow.computed (stale_of old c done)

-- something is placed, and each message that is not stale is right
pub record CanCollect (plus : ℕ → ℕ → ℕ) (e : MarkedFlow) (c : ℕ) : Type 0 where
  pub placing : Placing
  pub has : HasPlaced plus e.flow placing
  pub current : AreCurrent plus e placing
  pub clique_is : IsClique e.flow.shape.tree c
  pub marks_of : AreMarksOf e.flow.shape.tree e.stale_up e.stale_down

-- the messages towards a clique that go to links are current, as they are since some state
pub record CanCollectDown (plus : ℕ → ℕ → ℕ) (e : MarkedFlow) (c : ℕ) : Type 0 where
  pub old : MarkedFlow
  pub could : CanCollect plus old c
  pub collected : AreCollected plus c (passed_up e.flow.shape.tree c 0) old e

-- the message from a to b was made where it was stale, from messages that are right
pub record IsMade (plus : ℕ → ℕ → ℕ) (a b : ℕ) (old new : MarkedFlow) : Type 0 where
  pub kept : KeepsTables plus old.flow new.flow
  pub marks_of : AreMarksOf new.flow.shape.tree new.stale_up new.stale_down
  pub marks : (i j : ℕ) → are_linked old.flow.shape.tree i j ≡ true → is_stale new i j ≡ (is_stale old i j && not ((i == a) && (j == b)))
  pub right : (p : Placing) → HasPlaced plus old.flow p → AreRightBut plus old.flow p a b → AreCurrent plus old p → AreCurrent plus new p
  pub counted : IsCount old.flow.computed → new.flow.computed ≡ counted_on old.flow.computed (if is_stale old a b then 1 else 0)
