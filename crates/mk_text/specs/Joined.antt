-- Texts, one after another.
use Rattle.std.specs.Prelude.{ℕ, ◌≤◌, List, [], ◌∷◌, ◌++◌, length, All, Option, Some, None, codes}
use Rattle.mk_net.specs.Bounds.{max_values}

-- a text and then another, which groups to the right
infixr 65 ◌&◌
abbrev pub ◌&◌ : List ℕ → List ℕ → List ℕ
a & b = a ++ b

-- a text for each item, with a separator before each
abbrev pub items_text : {X : Type 0} → List ℕ → (X → List ℕ) → List X → List ℕ
items_text separator text [] = []
items_text separator text (x ∷ xs) = (separator & text x) & items_text separator text xs

-- a thing's text behind another text, or nothing
abbrev pub perhaps_text : {X : Type 0} → List ℕ → (X → List ℕ) → Option X → List ℕ
perhaps_text before text None = []
perhaps_text before text (Some x) = before & text x

-- things with a space between them
abbrev pub spaced : {X : Type 0} → (X → List ℕ) → List X → List ℕ
spaced text [] = []
spaced text (x ∷ xs) = text x & items_text (codes " ") text xs

-- as many things as a variable may have values
pub record AreSeveral {X : Type 0} (Fits : X → Type 0) (xs : List X) : Type 0 where
  pub two : 2 ≤ length xs
  pub few : length xs ≤ max_values
  pub each : All Fits xs
