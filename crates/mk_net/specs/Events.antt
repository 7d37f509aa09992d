-- Events and questions: lists of pairs that give no variable twice.
use Rattle.std.specs.Prelude.{◌≡◌, ℕ, ◌≤◌, ⊤, List, [], ◌∷◌, ◌++◌, length, Bool, false, ◌==◌}
use Rattle.std.specs.List.{list_any}
use Rattle.mk_net.specs.declared.words.Pair.{Pair}
use Rattle.mk_net.specs.Asked.{Asked}
use Rattle.mk_net.specs.Bounds.{max_pairs, max_condition}

-- a pair of the list gives the variable a value
abbrev pub speaks_of : List Pair → ℕ → Bool
speaks_of pairs variable = list_any (λ (p : Pair). variable == p.variable) pairs

-- no variable is given a value twice
abbrev pub AreApart : List Pair → Type 0
AreApart [] = ⊤
AreApart (p ∷ ps) = (speaks_of ps p.variable ≡ false) × AreApart ps

-- at most nine pairs, no variable twice
pub record IsEvent (pairs : List Pair) : Type 0 where
  pub few : length pairs ≤ max_pairs
  pub apart : AreApart pairs

-- a condition of at most eight pairs that does not speak of the target's variable
pub record IsQuestion (asked : Asked) : Type 0 where
  pub few : length asked.condition ≤ max_condition
  pub apart : AreApart asked.condition
  pub target_apart : speaks_of asked.condition asked.target.variable ≡ false

-- the pairs of a question: its condition's, and then its target
abbrev pub pairs_asked : Asked → List Pair
pairs_asked asked = asked.condition ++ asked.target ∷ []
