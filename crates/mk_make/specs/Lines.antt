-- Lines of words, and lists of items in brackets.
use Rattle.std.specs.Prelude.{ℕ, List, [], ◌∷◌, codes, if◌then◌else◌, ◌==◌}
use Rattle.std.specs.List.{range_with_len}
use Rattle.mk_text.specs.Joined.{◌&◌, items_text}

-- texts with a separator between each two
abbrev pub joined : List ℕ → List (List ℕ) → List ℕ
joined separator [] = []
joined separator (text ∷ texts) = text & items_text separator (λ (t : List ℕ). t) texts

-- words with a space between each two, and the LF that ends the line
abbrev pub line : List (List ℕ) → List ℕ
line words = joined (codes " ") words & codes "\n"

-- a text in quotes
abbrev pub quoted : List ℕ → List ℕ
quoted text = codes "\"" & text & codes "\""

-- items in brackets, with a comma and a space between each two
abbrev pub listed : List (List ℕ) → List ℕ
listed items = codes "[" & joined (codes ", ") items & codes "]"

-- the line that gives a key its value
abbrev pub key_line : List ℕ → List ℕ → List ℕ
key_line key value = line (key ∷ codes "=" ∷ value ∷ [])

-- the numbers from 1 to n
abbrev pub numbers_to : ℕ → List ℕ
numbers_to n = range_with_len 1 n

-- a comma and a space before each item but the first
abbrev pub comma_before : ℕ → List ℕ
comma_before number = if number == 1 then [] else codes ", "
