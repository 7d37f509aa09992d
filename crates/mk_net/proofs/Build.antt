-- A network is built from a draft one variable after another, and a set of names one name after another.
use Rattle.std.specs.Prelude.{◌≡◌, ℕ, ◌+◌, ◌<◌, List, [], ◌∷◌, ◌++◌, map, length, take, true, false, None, string_bytes, nat_lt, get_or, String}
use Rattle.std.specs.List.{list_all, list_any, take-map}
use Rattle.std.specs.declared.alloc.Global.{Global}
use Rattle.std.proofs.Common.{sym, ap, ◌∙◌, arith}
use Rattle.std.proofs.lemmas.List.{get_or-map, length-map, take_more, map-append}
use Rattle.indexmap.specs.IndexMap.{insert_entry}
use Rattle.indexmap.specs.IndexSet.{insert_key}
use Rattle.mk_names.specs.Name.{is_name}
use Rattle.mk_names.specs.Texts.{same_text}
use Rattle.mk_net.specs.Network.{Variable}
use Rattle.mk_net.specs.Stored.{variable_of, variables_of}
use Rattle.mk_net.specs.Drafts.{DraftOfVariable, drafts_of, draft_of_variable}
use Rattle.mk_net.specs.Checked.{has_double, number_of, first_fault, entry_at, checked_variable}
use Rattle.mk_net.specs.declared.network.StoredVariable.{StoredVariable}
use Rattle.mk_net.specs.declared.draft.VariableDraft.{VariableDraft}
use Rattle.mk_net.specs.declared.draft.Draft.{Draft}
use Rattle.mk_net.proofs.Mapped.{any_of_map}
use Rattle.mk_net.specs.inner.Counted.{HasShares}
use Rattle.mk_net.proofs.Counting.{entries_here}
use Rattle.mk_net.proofs.Taken.{untaken, none_before, inserted_name, inserted_entry}
use Rattle.mk_net.proofs.Checked.{IsFaultless, faultless_at, entries_at, all_at, its_name_fresh}

-- a list of which one more item was read
one_more : {X Y : Type 0} (f : X → Y) (xs : List X) (i : ℕ) (x : X) → i < length xs → x ≡ get_or xs i x →
    map f (take (i + 1) xs) ≡ map f (take i xs) ++ f x ∷ []
one_more f xs i x inside is =
    ap (λ (ys : List _). map f ys) (take_more xs i x inside) ∙ map-append f (take i xs) (get_or xs i x ∷ [])
    ∙ ap (λ (y : _). map f (take i xs) ++ f y ∷ []) (sym is)

-- the texts of a list of names
pub text_is_name : (texts : List (String Global)) (i : ℕ) (t : String Global) → list_all is_name (map string_bytes texts) ≡ true →
    i < length texts → t ≡ get_or texts i t → is_name (string_bytes t) ≡ true
text_is_name texts i t h inside is =
    ap (λ (t : String Global). is_name (string_bytes t)) is
    ∙ ap (λ (bytes : List ℕ). is_name bytes) (sym (get_or-map string_bytes texts i t (string_bytes t) inside))
    ∙ all_at is_name (map string_bytes texts) i (string_bytes t) h (omega (arith, inside, length-map texts string_bytes))

pub next_name : (texts : List (String Global)) (i : ℕ) (t : String Global) (names : List (List ℕ)) (name : List ℕ) →
    has_double (map string_bytes texts) ≡ false → i < length texts → t ≡ get_or texts i t → names ≡ map string_bytes (take i texts) →
    name ≡ string_bytes t → insert_key same_text names name ≡ map string_bytes (take (i + 1) texts)
next_name texts i t names name apart inside is done named =
    let item : get_or (map string_bytes texts) i (string_bytes t) ≡ name =
    get_or-map string_bytes texts i t (string_bytes t) inside ∙ ap (λ (t : String Global). string_bytes t) (sym is) ∙ sym named in
    let fresh : list_any (same_text name) names ≡ false =
    ap (λ (ns : List (List ℕ)). list_any (same_text name) ns) (done ∙ sym (take-map string_bytes i texts))
    ∙ ap (λ (n : List ℕ). list_any (same_text n) (take i (map string_bytes texts))) (sym item)
    ∙ untaken (map string_bytes texts) i (string_bytes t) apart (omega (arith, inside, length-map texts string_bytes)) in
    inserted_name names name fresh
    ∙ ap (λ (ns : List (List ℕ)). ns ++ name ∷ []) done
    ∙ ap (λ (n : List ℕ). map string_bytes (take i texts) ++ n ∷ []) named
    ∙ sym (one_more string_bytes texts i t inside is)

module _ (draft : Draft) (faultless : first_fault draft.zeros (drafts_of draft) ≡ None) (i : ℕ) (v : VariableDraft)
    (inside : i < length draft.variables.items) (is : v ≡ get_or draft.variables.items i v) where
  -- the variable at a place has no fault
  pub its_faultless : IsFaultless (drafts_of draft) (1 + i) (draft_of_variable v)
  its_faultless =
      rw (is, sym (get_or-map draft_of_variable draft.variables.items i v (draft_of_variable v) inside))
      (faultless_at draft.zeros (drafts_of draft) faultless i (draft_of_variable v) (omega (arith, inside, length-map draft.variables.items draft_of_variable)))

  pub its_shares : HasShares v
  its_shares =
      entries_here draft.zeros (1 + i) v (ap (λ (u : DraftOfVariable). entry_at draft.zeros (1 + i) u)
      (ap (λ (u : VariableDraft). draft_of_variable u) is ∙ sym (get_or-map draft_of_variable draft.variables.items i v (draft_of_variable v) inside))
      ∙ (entries_at draft.zeros (drafts_of draft) faultless i (draft_of_variable v) (omega (arith, inside, length-map draft.variables.items draft_of_variable))))

  untaken_name : (es : List (List ℕ × StoredVariable)) →
      variables_of es ≡ map (checked_variable (drafts_of draft)) (map draft_of_variable (take i draft.variables.items)) →
      list_any (λ (e : List ℕ × StoredVariable). same_text (string_bytes v.name) (e.0)) es ≡ false
  untaken_name es done =
      let fresh : nat_lt (number_of (drafts_of draft) (string_bytes v.name)) i ≡ false =
      ap (λ (n : ℕ). nat_lt (number_of (drafts_of draft) (string_bytes v.name)) n) (omega arith)
      ∙ its_name_fresh (drafts_of draft) i (draft_of_variable v) its_faultless in
      sym (any_of_map variable_of (λ (u : Variable). same_text (string_bytes v.name) u.name) es)
      ∙ ap (λ (us : List Variable). list_any (λ (u : Variable). same_text (string_bytes v.name) u.name) us) done
      ∙ any_of_map (checked_variable (drafts_of draft)) (λ (u : Variable). same_text (string_bytes v.name) u.name) (map draft_of_variable (take i draft.variables.items))
      ∙ ap (λ (us : List DraftOfVariable). list_any (λ (u : DraftOfVariable). same_text (string_bytes v.name) u.name) us) (sym (take-map draft_of_variable i draft.variables.items))
      ∙ none_before (λ (u : DraftOfVariable). same_text (string_bytes v.name) u.name) (drafts_of draft) i fresh

  pub next_variable : (es : List (List ℕ × StoredVariable)) (name : List ℕ) (stored : StoredVariable) →
      variables_of es ≡ map (checked_variable (drafts_of draft)) (map draft_of_variable (take i draft.variables.items)) →
      name ≡ string_bytes v.name → variable_of (string_bytes v.name, stored) ≡ checked_variable (drafts_of draft) (draft_of_variable v) →
      variables_of (insert_entry same_text es name stored) ≡ map (checked_variable (drafts_of draft)) (map draft_of_variable (take (i + 1) draft.variables.items))
  next_variable es name stored done named kept =
      ap (λ (n : List ℕ). variables_of (insert_entry same_text es n stored)) named
      ∙ ap (λ (fs : List (List ℕ × StoredVariable)). variables_of fs) (inserted_entry es (string_bytes v.name) stored (untaken_name es done))
      ∙ map-append variable_of es ((string_bytes v.name, stored) ∷ [])
      ∙ ap (λ (us : List Variable). us ++ variable_of (string_bytes v.name, stored) ∷ []) done
      ∙ ap (λ (u : Variable). map (checked_variable (drafts_of draft)) (map draft_of_variable (take i draft.variables.items)) ++ u ∷ []) kept
      ∙ sym (map-append (checked_variable (drafts_of draft)) (map draft_of_variable (take i draft.variables.items)) (draft_of_variable v ∷ []))
      ∙ ap (λ (us : List DraftOfVariable). map (checked_variable (drafts_of draft)) us) (sym (one_more draft_of_variable draft.variables.items i v inside is))
