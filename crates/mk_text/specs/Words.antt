-- The words at the front of some bytes.
use Rattle.std.specs.Prelude.{◌≡◌, ℕ, List, [], ◌∷◌, ◌++◌, take, drop, Bool, true, not, Option, Some, None, if◌then◌else◌, ◌==◌}
use Rattle.std.specs.List.{prefix_len}
use Rattle.mk_names.specs.Name.{is_name_byte}

-- how many letters, digits and underscores stand at the front
unfoldable pub word_len : List ℕ → ℕ
word_len bytes = prefix_len is_name_byte bytes

-- the word at the front: all of them
unfoldable pub word : List ℕ → List ℕ
word bytes = take (word_len bytes) bytes

unfoldable pub behind_word : List ℕ → List ℕ
behind_word bytes = drop (word_len bytes) bytes

-- no word goes on here
abbrev pub ends_word : List ℕ → Bool
ends_word [] = true
ends_word (b ∷ bytes) = not (is_name_byte b)

abbrev pub EndsWord : List ℕ → Type 0
EndsWord bytes = ends_word bytes ≡ true

-- what follows a text at the front
unfoldable pub after : List ℕ → List ℕ → Option (List ℕ)
after [] bytes = Some bytes
after (b ∷ text) [] = None
after (b ∷ text) (c ∷ bytes) = if b == c then after text bytes else None

-- what is left of some bytes when a part at the front is read
unfoldable pub IsRestOf : List ℕ → List ℕ → Type 0
IsRestOf left bytes = (front : List ℕ) × (bytes ≡ front ++ left)
