-- The number of a name among the variables of a draft.
use Rattle.std.specs.Prelude.{◌≡◌, ℕ, List, Some, None, position, string_bytes, vec_len}
use Rattle.std.proofs.Common.{sym, ◌∙◌}
use Rattle.mk_names.specs.Texts.{same_text}
use Rattle.mk_net.specs.Drafts.{DraftOfVariable, drafts_of, draft_of_variable}
use Rattle.mk_net.specs.Checked.{number_of}
use Rattle.mk_net.specs.declared.draft.VariableDraft.{VariableDraft}
use Rattle.mk_net.specs.declared.draft.Draft.{Draft}
use Rattle.mk_net.proofs.Mapped.{place_of_map, place_found, place_missed}

-- the first variable that has the name is the one that was found
pub number_found : (draft : Draft) (name : List ℕ) (n : ℕ) →
    Some n ≡ position (λ (v : VariableDraft). same_text name (string_bytes v.name)) draft.variables.items → n ≡ number_of (drafts_of draft) name
number_found draft name n h =
    sym (place_of_map draft_of_variable (λ (v : DraftOfVariable). same_text name v.name) draft.variables.items
    ∙ place_found (λ (v : VariableDraft). same_text name (string_bytes v.name)) draft.variables.items n (sym h))

-- where none has it, the number is past the end
pub number_missed : (draft : Draft) (name : List ℕ) →
    None ≡ position (λ (v : VariableDraft). same_text name (string_bytes v.name)) draft.variables.items → vec_len draft.variables ≡ number_of (drafts_of draft) name
number_missed draft name h =
    draft.variables.ok.0 ∙ sym (place_of_map draft_of_variable (λ (v : DraftOfVariable). same_text name v.name) draft.variables.items
    ∙ place_missed (λ (v : VariableDraft). same_text name (string_bytes v.name)) draft.variables.items (sym h))
