-- Cliques that hold an event.
use Rattle.std.specs.Prelude.{◌≡◌, ℕ, ◌≤◌, List, length, true}
use Rattle.mk_net.specs.declared.words.Pair.{Pair}
use Rattle.mk_tree.specs.Given.{GivenTree, clique_at, holds_event}

-- clique k is one of the tree's, and holds each variable of an event
pub record IsHeldAt (t : GivenTree) (k : ℕ) (event : List Pair) : Type 0 where
  pub first : 1 ≤ k
  pub last : k ≤ length t.cliques
  pub held : holds_event event (clique_at t k) ≡ true
