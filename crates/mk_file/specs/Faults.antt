-- The line of a refused market file.
use Rattle.std.specs.Prelude.{ℕ, ℤ, List, [], codes, decimal}
use Rattle.std.specs.Fmt.{signed_decimal}
use Rattle.mk_names.specs.Key.{key_text}
use Rattle.mk_names.specs.declared.key.Key.{Key}
use Rattle.mk_text.specs.Joined.{◌&◌}
use Rattle.mk_file.specs.declared.fault.FileFault.{FileFault}
use Rattle.mk_file.specs.declared.fault.FileFault.TheVariants.{TooLong, BadToml, Missing, WrongType, Count, BadName, Repeat, Parent, Rows, Width, Entry, Sum, Clique, Link, Cover, NotRunning, Cells, Memory}

-- a number behind a space
abbrev pub then_number : ℕ → List ℕ
then_number n = codes " " & decimal n

-- a number with its sign behind a space
abbrev pub then_signed : ℤ → List ℕ
then_signed n = codes " " & signed_decimal n

-- a key and its place
abbrev pub place_text : Key → ℕ → List ℕ
place_text key place = key_text key & then_number place

-- what is wrong with the file
abbrev pub cause_text : FileFault → List ℕ
cause_text TooLong = codes "long"
cause_text BadToml = codes "toml"
cause_text (Missing key place) = codes "missing " & place_text key place
cause_text (WrongType key place) = codes "type " & place_text key place
cause_text (Count key place n) = codes "count " & place_text key place & then_signed n
cause_text (BadName variable) = codes "name" & then_number variable
cause_text (Repeat variable) = codes "repeat" & then_number variable
cause_text (Parent variable) = codes "parent" & then_number variable
cause_text (Rows variable n) = codes "rows" & then_number variable & then_signed n
cause_text (Width variable row n) = codes "width" & then_number variable & then_number row & then_signed n
cause_text (Entry variable row column) = codes "entry" & then_number variable & then_number row & then_number column
cause_text (Sum variable row sum) = codes "sum" & then_number variable & then_number row & then_signed sum
cause_text (Clique clique) = codes "clique" & then_number clique
cause_text (Link clique) = codes "link" & then_number clique
cause_text (Cover variable) = codes "cover" & then_number variable
cause_text (NotRunning variable) = codes "running" & then_number variable
cause_text (Cells clique) = codes "cells" & then_number clique
cause_text Memory = []

abbrev pub fault_text : FileFault → List ℕ
fault_text fault = codes "refused market " & cause_text fault
