-- Events: lists of pairs that a state can have.
use Rattle.std.specs.Prelude.{ℕ, List, Bool, true, ◌&&◌, not, ◌==◌}
use Rattle.std.specs.List.{list_all}
use Rattle.mk_net.specs.declared.words.Pair.{Pair}
use Rattle.mk_net.specs.Asked.{Asked}
use Rattle.mk_states.specs.InitialWeight.{value_at}

-- whether a state has the value of a pair
abbrev pub has : Pair → List ℕ → Bool
has p s = value_at s p.variable == p.value

-- whether it has the value of each
abbrev pub holds : List Pair → List ℕ → Bool
holds event s = list_all (λ p. has p s) event

-- the condition holds, and the target does
abbrev pub with_target : Asked → List ℕ → Bool
with_target asked s = holds asked.condition s && has asked.target s

-- the condition holds, and the target does not
abbrev pub without_target : Asked → List ℕ → Bool
without_target asked s = holds asked.condition s && not (has asked.target s)

-- the test that every state passes
abbrev pub always : List ℕ → Bool
always s = true
