-- Copied variables are those of which they are copies, and one more name goes behind them.
use Rattle.std.specs.Prelude.{◌≡◌, ◌≢◌, ℕ, ◌+◌, ◌<◌, List, [], ◌∷◌, ◌++◌, map, take, length, All}
use Rattle.std.specs.Prelude.{Vec, vec_len, false, get_or}
use Rattle.std.specs.List.{AllZip, list_any}
use Rattle.std.specs.declared.alloc.Global.{Global}
use Rattle.std.proofs.Common.{refl, sym, ap, ap₂, ◌∙◌}
use Rattle.std.proofs.lemmas.List.{map-append, take_more}
use Rattle.std.proofs.lemmas.List.Elements.{All-push}
use Rattle.std.specs.List.{each_same}
use Rattle.indexmap.specs.IndexMap.{insert_entry}
use Rattle.indexmap.specs.IndexSet.{insert_key}
use Rattle.mk_names.specs.Name.{IsName}
use Rattle.mk_names.specs.Texts.{same_text}
use Rattle.mk_net.specs.Network.{Variable, names, AreDistinct}
use Rattle.mk_net.specs.Stored.{variable_of, variables_of}
use Rattle.mk_net.specs.declared.network.StoredVariable.{StoredVariable}
use Rattle.mk_net.proofs.Mapped.{any_of_map}
use Rattle.mk_net.proofs.Taken.{distinct_untaken, others_untaken, inserted_name, inserted_entry}

pub copied_rows : (rows copy : List (Vec ℕ Global)) →
    AllZip (λ (row other : Vec ℕ Global).
    AllZip (λ x y. y ≡ x) row.items other.items × (vec_len other ≡ vec_len row)) rows copy →
    map (λ (row : Vec ℕ Global). row.items) copy ≡ map (λ (row : Vec ℕ Global). row.items) rows
copied_rows [] [] h = refl
copied_rows [] (y ∷ ys) h = absurd h
copied_rows (x ∷ xs) [] h = absurd h
copied_rows (x ∷ xs) (y ∷ ys) h = ap₂ ◌∷◌ (each_same x.items y.items h.0.0) (copied_rows xs ys h.1)

-- the fields of a copied variable
pub same_fields : (v w : StoredVariable) → w.values.keys ≡ v.values.keys → w.parents.items
    ≡ v.parents.items →
    map (λ (row : Vec ℕ Global). row.items) w.rows.items
    ≡ map (λ (row : Vec ℕ Global). row.items) v.rows.items →
    variable_of ([], w) ≡ variable_of ([], v)
same_fields v w e f g = cc

abbrev renamed : List ℕ → Variable → Variable
renamed name v = record { name = name; values = v.values; parents = v.parents; rows = v.rows }

pub copied_variables : (es copy : List (List ℕ × StoredVariable)) →
    AllZip (λ (p q : List ℕ × StoredVariable). (q.0 ≡ p.0)
    × (variable_of ([], q.1) ≡ variable_of ([], p.1))) es copy →
    variables_of copy ≡ variables_of es
copied_variables [] [] h = refl
copied_variables [] (y ∷ ys) h = absurd h
copied_variables (x ∷ xs) [] h = absurd h
copied_variables (x ∷ xs) (y ∷ ys) h = ap₂ ◌∷◌ (ap₂ renamed h.0.0 h.0.1)
    (copied_variables xs ys h.1)

-- a variable of a new name goes behind those that are kept
pub inserted_variable : (es : List (List ℕ × StoredVariable)) (network : List Variable)
    (name : List ℕ)
    (stored : StoredVariable) (v : Variable) → variables_of es ≡ network
    → All (λ n. name ≢ n) (names network) →
    variable_of (name, stored) ≡ v → variables_of (insert_entry same_text es name stored) ≡ network
    ++ v ∷ []
inserted_variable es network name stored v view untaken is =
    let fresh : list_any (λ (e : List ℕ × StoredVariable). same_text name (e.0)) es ≡ false =
    sym (any_of_map variable_of (λ (u : Variable). same_text name u.name) es)
    ∙ ap (λ (us : List Variable). list_any (λ (u : Variable). same_text name u.name) us) view
    ∙ sym (any_of_map (λ (u : Variable). u.name) (same_text name) network)
    ∙ others_untaken name (names network) untaken in
    ap variables_of (inserted_entry es name stored fresh)
    ∙ map-append variable_of es ((name, stored) ∷ [])
    ∙ ap₂ (λ (us : List Variable) (u : Variable). us ++ u ∷ []) view is

-- one name more of a list of different ones
pub name_behind : (texts : List (List ℕ)) (i : ℕ) (t name : List ℕ) (keys : List (List ℕ))
    → AreDistinct texts →
    i < length texts → t ≡ get_or texts i t → name ≡ t → IsName name →
    (keys ≡ take i texts) × All IsName (take i texts) →
    (insert_key same_text keys name ≡ take (i + 1) texts) × All IsName (take (i + 1) texts)
name_behind texts i t name keys distinct within is same named done =
    let item : get_or texts i t ≡ name = sym is ∙ sym same in
    let longer : take i texts ++ name ∷ [] ≡ take (i + 1) texts =
    ap (λ n. take i texts ++ n ∷ []) (sym item) ∙ sym (take_more texts i t within) in
    let fresh : list_any (same_text name) keys ≡ false =
    ap (λ ns. list_any (same_text name) ns) done.0
    ∙ ap (λ n. list_any (same_text n) (take i texts)) (sym item)
    ∙ distinct_untaken texts i t distinct within in (
      inserted_name keys name fresh ∙ ap (λ ns. ns ++ name ∷ []) done.0 ∙ longer,
      rw (sym longer) (All-push IsName (take i texts) name done.1 named),
    )
