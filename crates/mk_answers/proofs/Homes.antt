-- A clique that holds a question holds its condition, and each clique holds no pair at all.
use Rattle.std.proofs.Common.{◌≡◌, ℕ, ◌≤◌, List, [], ◌∷◌, length}
use Rattle.mk_net.specs.declared.words.Pair.{Pair}
use Rattle.mk_net.specs.Asked.{Asked}
use Rattle.mk_net.specs.Events.{pairs_asked}
use Rattle.mk_tree.specs.Given.{GivenTree}
use Rattle.mk_tree.specs.Held.{IsHeldAt}
use Rattle.mk_tree.proofs.Held.{held_front, nothing_is_held}

pub condition_is_held : (t : GivenTree) (at : ℕ) (asked : Asked) (event : List Pair)
    → event ≡ asked.condition → IsHeldAt t at (pairs_asked asked) → IsHeldAt t at event
condition_is_held t at asked event e h = rw e
    (held_front t at asked.condition (asked.target ∷ []) h)

pub question_is_held : (t : GivenTree) (at : ℕ) (asked : Asked) (event : List Pair)
    → event ≡ pairs_asked asked → IsHeldAt t at (pairs_asked asked) → IsHeldAt t at event
question_is_held t at asked event e h = rw e h

pub nothing_at_root : (t : GivenTree) (event : List Pair) → event ≡ [] → 1 ≤ length t.cliques
    → IsHeldAt t 1 event
nothing_at_root t event e some = rw e (nothing_is_held t some)
