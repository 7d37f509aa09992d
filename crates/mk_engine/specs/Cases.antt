-- The cases of a question: its condition with each value of its variable.
use Rattle.std.specs.Prelude.{◌≡◌, ℕ, ◌+◌, ◌<◌, ◌≤◌, List, [], ◌∷◌, ◌++◌, length, slice_index, not}
use Rattle.std.specs.Prelude.{◌==◌}
use Rattle.std.specs.List.{filter}
use Rattle.mk_net.specs.declared.words.Pair.{Pair}
use Rattle.mk_net.specs.Asked.{Asked}
use Rattle.mk_net.specs.Bounds.{max_values, number_limit}
use Rattle.mk_net.specs.Network.{sizes}
use Rattle.mk_net.specs.Events.{pairs_asked}
use Rattle.mk_states.specs.States.{numbers_below, plus_over}
use Rattle.mk_states.specs.OfNetwork.{IsQuestionOf}
use Rattle.mk_tree.specs.Held.{IsHeldAt}
use Rattle.mk_engine.specs.Meaning.{Meaning, exact_belief, whole_sum, max_factors, max_grade}

-- its condition, and this value of its variable
abbrev pub pairs_with : Asked → ℕ → List Pair
pairs_with asked value = asked.condition ++ record { variable = asked.target.variable; value = value } ∷ []

-- the values of its variable, of which there are so many, but for the target's
abbrev pub other_values : Asked → ℕ → List ℕ
other_values asked values = filter (λ v. not (v == asked.target.value)) (numbers_below values)

-- the exact plus of the beliefs in the other values
abbrev pub exact_others : (ℕ → ℕ → ℕ) → Meaning → Asked → ℕ → ℕ
exact_others plus m asked values = plus_over plus 0 (λ v. exact_belief plus m (pairs_with asked v)) (other_values asked values)

-- the engine stands for a meaning of whose network this is a question, whose variable has so many
-- values, and in whose tree this clique holds it; and there are no more factors than an engine may
-- hold
pub record CanAskOthers {E : Type 0} (stands_for : E → Meaning
    → Type 0) (engine : E) (at : ℕ) (asked : Asked) (values : ℕ) : Type 0 where
  pub meaning : Meaning
  pub stands : stands_for engine meaning
  pub question : IsQuestionOf meaning.network asked
  pub sized : values ≡ slice_index (sizes meaning.network) asked.target.variable
  pub few : values ≤ max_values
  pub held : IsHeldAt meaning.tree at (pairs_asked asked)
  pub room : length meaning.factors ≤ max_factors

-- what is found encloses it, at a grade of one step more for each value than a belief's, and is exact in the small case
pub record IsOthersBelief {V : Type 0} (encloses : V → ℕ → Type 0) (has_grade : V → ℕ → Type 0) (is_exact : V → Type 0)
    (plus : ℕ → ℕ → ℕ) (m : Meaning) (asked : Asked) (values : ℕ) (belief : V) : Type 0 where
  pub value : encloses belief (exact_others plus m asked values)
  pub grade : has_grade belief (length m.factors + max_grade + max_values)
  pub exact : whole_sum m < number_limit → is_exact belief
