-- The lines of a stream of bytes, as the product counts them.
use Rattle.std.specs.Prelude.{◌≡◌, ℕ, List, [], ◌∷◌, ◌++◌, length, map, Bool, true, false, ◌==◌, nat_lt, if◌then◌else◌, ◌⊎◌}
use Rattle.std.specs.List.{list_all}
use Rattle.mk_names.specs.declared.limits.TheConstants.{MAX_LINE_BYTES}

-- the greatest number of bytes before a line's LF, of lines of a stream, and of its bytes
abbrev pub max_line_bytes : ℕ
max_line_bytes = MAX_LINE_BYTES

abbrev pub max_stream_lines : ℕ
max_stream_lines = 1000000

abbrev pub max_stream_bytes : ℕ
max_stream_bytes = 1073741824

-- a line that is not too long, by its text, or one that is
pub data StreamLine : Type 0 where
  text : List ℕ → StreamLine
  long : StreamLine

-- a byte in front of the first part
abbrev pub onto_first : ℕ → List (List ℕ) → List (List ℕ)
onto_first b [] = (b ∷ []) ∷ []
onto_first b (part ∷ parts) = (b ∷ part) ∷ parts

-- the parts between LF bytes, with a last one that is not empty
abbrev pub parts : List ℕ → List (List ℕ)
parts [] = []
parts (b ∷ bytes) = if b == 10 then [] ∷ parts bytes else onto_first b (parts bytes)

-- a text without one CR at its end
abbrev pub without_last_cr : List ℕ → List ℕ
without_last_cr [] = []
without_last_cr (b ∷ []) = if b == 13 then [] else b ∷ []
without_last_cr (b ∷ c ∷ bytes) = b ∷ without_last_cr (c ∷ bytes)

-- the line of a part: the CR counts among its bytes
abbrev pub line_of : List ℕ → StreamLine
line_of part = if nat_lt max_line_bytes (length part) then long else text (without_last_cr part)

abbrev pub stream_lines : List ℕ → List StreamLine
stream_lines bytes = map line_of (parts bytes)

-- the last byte is an LF
pub record EndsInLf (bytes : List ℕ) : Type 0 where
  pub front : List ℕ
  pub ended : bytes ≡ front ++ 10 ∷ []

-- bytes that hold whole lines alone, each with its LF
abbrev pub AreWholeLines : List ℕ → Type 0
AreWholeLines bytes = (bytes ≡ []) ⊎ EndsInLf bytes

-- a line is not blank where it is a long one, or has a byte that is no space
abbrev pub is_not_blank : StreamLine → Bool
is_not_blank long = true
is_not_blank (text bytes) = if list_all (λ b. b == 32) bytes then false else true
