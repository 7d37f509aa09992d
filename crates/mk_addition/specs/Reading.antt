-- Reading an added question from the front of bytes: what is found, and the bytes that are left.
use Rattle.std.specs.Prelude.{ℕ, List, [], ◌∷◌, length, Bool, nat_le, is_some, codes}
use Rattle.std.specs.Prelude.{option_and_then}
use Rattle.arrayvec.specs.ArrayVec.{ArrayVec}
use Rattle.mk_text.specs.Words.{after}
use Rattle.mk_text.specs.Reading.{Read, both, behind, made, passed, either, given, never, items}
use Rattle.mk_text.specs.Reading.{read_name, read_short}
use Rattle.mk_addition.specs.declared.add.AddText.{AddText}

-- at most so many things more, each behind a separator, up to where a list stops
unfoldable pub more : {X : Type 0} → (List ℕ → Bool) → List ℕ → Read X → ℕ → List X → Read (List X)
more stops separator read count found = items stops separator read count found

-- a thing, and at most so many more
unfoldable pub read_list : {X : Type 0} → (List ℕ → Bool) → List ℕ → Read X → ℕ → Read (List X)
read_list stops separator read count bytes =
    option_and_then (λ first. more stops separator read count ((first.0) ∷ []) (first.1))
    (read bytes)

abbrev pub read_names : ℕ → Read (List (List ℕ))
read_names count = read_list never (codes ",") read_name count

unfoldable pub read_values : Read (List (List ℕ))
read_values = passed (λ values. nat_le 2 (length values)) (read_names 15)

unfoldable pub read_parents : Read (List (List ℕ))
read_parents = either (codes " | ") (read_names 7) (given [])

-- the names of the clique stand next
abbrev pub before_clique : List ℕ → Bool
before_clique bytes = is_some (after (codes " in ") bytes)

abbrev pub read_row : Read (List ℕ)
read_row = read_list before_clique (codes " ") read_short 15

abbrev pub read_rows : Read (List (List ℕ))
read_rows = read_list never (codes ", ") read_row 63

-- where the question goes: its clique, and the clique to which that is linked
unfoldable pub read_place : Read (List (List ℕ) × ℕ)
read_place = both (read_names 12) (behind (codes " to ") read_short)

-- its rows, and where it goes
unfoldable pub read_shares : Read (List (List ℕ) × (List (List ℕ) × ℕ))
read_shares = behind (codes " : ") (both read_rows (behind (codes " in ") read_place))

-- the parts of an added question, as they follow one another
abbrev pub Parts : Type 0
Parts = List ℕ × (List (List ℕ) × (List (List ℕ) × (List (List ℕ) × (List (List ℕ) × ℕ))))

abbrev pub held : {X : Type 0} → List X → ArrayVec X
held items = record { items = items }

abbrev pub add_of : Parts → AddText
add_of parts = record {
  variable = parts.0;
  values = held (parts.1.0);
  parents = held (parts.1.1.0);
  rows = held (parts.1.1.1.0);
  clique = held (parts.1.1.1.1.0);
  link = parts.1.1.1.1.1;
}

abbrev pub read_parts : Read Parts
read_parts =
    both read_name (behind (codes "=") (both read_values (both read_parents read_shares)))

-- what stands behind the word `add`
unfoldable pub read_addition : Read AddText
read_addition = made add_of read_parts

unfoldable pub read_add : Read AddText
read_add = behind (codes "add ") read_addition
