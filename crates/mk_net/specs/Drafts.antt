-- Variables as a market file gives them: texts by their bytes, lists by their items.
use Rattle.std.specs.Prelude.{ℕ, ℤ, List, map, String, Vec, string_bytes}
use Rattle.std.specs.declared.alloc.Global.{Global}
use Rattle.mk_net.specs.declared.draft.VariableDraft.{VariableDraft}
use Rattle.mk_net.specs.declared.draft.Draft.{Draft}

pub record DraftOfVariable : Type 0 where
  pub name : List ℕ
  pub values : List (List ℕ)
  pub parents : List (List ℕ)
  pub rows : List (List ℤ)

abbrev pub texts_of : Vec (String Global) Global → List (List ℕ)
texts_of v = map (λ s. string_bytes s) v.items

abbrev pub rows_of : Vec (Vec ℤ Global) Global → List (List ℤ)
rows_of v = map (λ row. row.items) v.items

abbrev pub draft_of_variable : VariableDraft → DraftOfVariable
draft_of_variable v = record { name = string_bytes v.name; values = texts_of v.values; parents = texts_of v.parents; rows = rows_of v.rows }

abbrev pub drafts_of : Draft → List DraftOfVariable
drafts_of draft = map draft_of_variable draft.variables.items
