-- Questions that are added to a market, and how they are written.
use Rattle.std.specs.Prelude.{ℕ, ◌≤◌, List, [], ◌∷◌, length, All, codes, decimal}
use Rattle.mk_net.specs.Bounds.{max_values, max_parents}
use Rattle.mk_names.specs.Name.{IsName}
use Rattle.mk_text.specs.Joined.{◌&◌, items_text}
use Rattle.mk_text.specs.Numbers.{IsShort}
use Rattle.mk_addition.specs.declared.add.AddText.{AddText}

-- rows of an added question, and names of its clique
abbrev pub max_rows : ℕ
max_rows = 64

abbrev pub max_clique_names : ℕ
max_clique_names = 13

-- things with a separator between them
abbrev pub joined : {X : Type 0} → List ℕ → (X → List ℕ) → List X → List ℕ
joined separator text [] = []
joined separator text (x ∷ xs) = text x & items_text separator text xs

abbrev pub names_text : List (List ℕ) → List ℕ
names_text = joined (codes ",") (λ name. name)

-- a bar before the parents, or nothing
abbrev pub parents_text : List (List ℕ) → List ℕ
parents_text [] = []
parents_text (name ∷ names) = codes " | " & names_text (name ∷ names)

abbrev pub row_text : List ℕ → List ℕ
row_text = joined (codes " ") decimal

abbrev pub rows_text : List (List ℕ) → List ℕ
rows_text = joined (codes ", ") row_text

-- where the question goes: its clique, and the number of the clique to which that is linked
abbrev pub place_text : AddText → List ℕ
place_text add = names_text add.clique.items & codes " to " & decimal add.link

-- its rows, and where it goes
abbrev pub shares_text : AddText → List ℕ
shares_text add = codes " : " & rows_text add.rows.items & codes " in " & place_text add

-- the words behind `add`
abbrev pub addition_text : AddText → List ℕ
addition_text add =
    add.variable & codes "=" & names_text add.values.items & parents_text add.parents.items
    & shares_text add

abbrev pub add_text : AddText → List ℕ
add_text add = codes "add " & addition_text add

-- from least to most things, each of which fits
pub record AreBetween {X : Type 0} (least most : ℕ) (Fits : X → Type 0) (xs : List X) : Type 0
  where
    pub enough : least ≤ length xs
    pub few : length xs ≤ most
    pub each : All Fits xs

-- what has a text: its words are names, there are as many of each as there may be, and its numbers
-- have at most nine digits
pub record IsAddText (add : AddText) : Type 0 where
  pub variable : IsName add.variable
  pub values : AreBetween 2 max_values IsName add.values.items
  pub parents : AreBetween 0 max_parents IsName add.parents.items
  pub rows : AreBetween 1 max_rows (AreBetween 1 max_values IsShort) add.rows.items
  pub clique : AreBetween 1 max_clique_names IsName add.clique.items
  pub link : IsShort add.link
