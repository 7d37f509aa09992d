-- What is gathered of the pairs of a condition.
use Rattle.std.specs.Prelude.{◌≡◌, ℕ, ◌≤◌, [], ◌∷◌, List, length, if◌then◌else◌, Option, Some, IfNone}
use Rattle.mk_net.specs.declared.words.Pair.{Pair}
use Rattle.mk_net.specs.declared.words.PairText.{PairText}
use Rattle.mk_net.specs.Bounds.{max_condition}
use Rattle.mk_net.specs.Events.{speaks_of}
use Rattle.mk_net.specs.Network.{Variable}
use Rattle.mk_net.specs.Named.{variable_named}
use Rattle.mk_rules.specs.Refusals.{names_in, known_pairs, first_repeat}

-- some pairs, all of them where no variable is repeated; behind a variable that is known that is the first to be repeated where one
-- of these pairs speaks of it
pub record IsGathered (network : List Variable) (pairs : List PairText) (condition : List Pair) (repeated : Option (List ℕ)) : Type 0 where
  pub few : length condition ≤ max_condition
  pub whole : IfNone repeated (condition ≡ known_pairs network pairs)
  pub first : (name : List ℕ) (x : ℕ) (v : Variable) → variable_named network name ≡ Some (x, v)
      → first_repeat (name ∷ []) (names_in pairs) ≡ (if speaks_of condition x then Some name else repeated)
