-- Pairs and questions, and how they are written.
use Rattle.std.specs.Prelude.{ℕ, ◌≤◌, List, [], ◌∷◌, length, codes, All}
use Rattle.mk_net.specs.Bounds.{max_condition}
use Rattle.mk_names.specs.Name.{IsName}
use Rattle.mk_net.specs.declared.words.PairText.{PairText}
use Rattle.mk_net.specs.declared.words.QuestionText.{QuestionText}
use Rattle.mk_text.specs.Joined.{◌&◌, items_text}

-- the words of a pair are names
pub record IsPairText (pair : PairText) : Type 0 where
  pub variable : IsName pair.variable
  pub value : IsName pair.value

abbrev pub pair_text : PairText → List ℕ
pair_text pair = pair.variable & codes "=" & pair.value

pub record IsCondition (pairs : List PairText) : Type 0 where
  pub few : length pairs ≤ max_condition
  pub each : All IsPairText pairs

-- a bar before the first pair, and a comma before each other
abbrev pub condition_text : List PairText → List ℕ
condition_text [] = []
condition_text (pair ∷ pairs) = codes " | " & pair_text pair & items_text (codes ", ") pair_text pairs

pub record IsQuestionText (question : QuestionText) : Type 0 where
  pub target : IsPairText question.target
  pub condition : IsCondition question.condition.items

abbrev pub question_text : QuestionText → List ℕ
question_text question = pair_text question.target & condition_text question.condition.items
