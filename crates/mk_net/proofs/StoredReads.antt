-- What the kept map of variables says of the network.
use Rattle.std.specs.Prelude.{◌≡◌, ℕ, ◌<◌, List, map, length, get_or, slice_get, slice_index, slice_index_or, vec_len, Vec, [], ◌∷◌, Option, Some, option_map, ◌≤◌}
use Rattle.std.specs.Map.{keys_of, values_of}
use Rattle.std.proofs.Common.{refl, sym, ap, ◌∙◌, arith}
use Rattle.std.proofs.lemmas.List.{get_or-map, length-map}
use Rattle.std.proofs.lemmas.Option.{get_or_from_slice_get, slice_get_within, slice_get-map}
use Rattle.std.specs.declared.alloc.Global.{Global}
use Rattle.mk_net.specs.Network.{Variable, IsNetwork, sizes}
use Rattle.mk_net.specs.Named.{variable_at, nobody}
use Rattle.mk_net.specs.Stored.{variable_of, variables_of}
use Rattle.mk_net.proofs.Networks.{size_at, row_at, few_values}
use Rattle.mk_net.specs.declared.network.StoredVariable.{StoredVariable}

-- the value beside a key
pub kept_value : (es : List (List ℕ × StoredVariable)) (k : ℕ) (name : List ℕ) (v : StoredVariable) →
    slice_get es k ≡ Some (name, v) → slice_get (values_of es) k ≡ Some v
kept_value es k name v is =
    slice_get-map (λ (e : List ℕ × StoredVariable). e.1) es k ∙ ap (λ (o : Option (List ℕ × StoredVariable)). option_map (λ (e : List ℕ × StoredVariable). e.1) o) is

module _ (es : List (List ℕ × StoredVariable)) (network : List Variable) (view : variables_of es ≡ network) where
  pub length_stored : length es ≡ length network
  length_stored = sym (length-map es variable_of) ∙ ap (λ (vs : List Variable). length vs) view

  -- the variable at a place is the one kept there
  pub stored_at : (k : ℕ) (v : StoredVariable) → slice_get (values_of es) k ≡ Some v →
      variable_at network k ≡ variable_of ((variable_at network k).name, v)
  stored_at k v is =
      let d : List ℕ × StoredVariable = ([], v) in
      let inside : k < length es = omega (arith, slice_get_within (values_of es) k v is, length-map es (λ (e : List ℕ × StoredVariable). e.1)) in
      let kept : (get_or es k d).1 ≡ v = sym (get_or-map (λ (e : List ℕ × StoredVariable). e.1) es k d v inside) ∙ get_or_from_slice_get (values_of es) k v v is in
      let at : variable_at network k ≡ variable_of ((get_or es k d).0, v) =
      ap (λ (vs : List Variable). variable_at vs k) (sym view) ∙ get_or-map variable_of es k d nobody inside ∙ ap (λ (w : StoredVariable). variable_of ((get_or es k d).0, w)) kept in
      at ∙ ap (λ (n : List ℕ). variable_of (n, v)) (sym (ap (λ (u : Variable). u.name) at))

  pub values_stored : (k : ℕ) (v : StoredVariable) → slice_get (values_of es) k ≡ Some v → (variable_at network k).values ≡ v.values.keys
  values_stored k v is = ap (λ (u : Variable). u.values) (stored_at k v is)

  pub parents_stored : (k : ℕ) (v : StoredVariable) → slice_get (values_of es) k ≡ Some v → (variable_at network k).parents ≡ v.parents.items
  parents_stored k v is = ap (λ (u : Variable). u.parents) (stored_at k v is)

  pub rows_stored : (k : ℕ) (v : StoredVariable) → slice_get (values_of es) k ≡ Some v →
      (variable_at network k).rows ≡ map (λ (row : Vec ℕ Global). row.items) v.rows.items
  rows_stored k v is = ap (λ (u : Variable). u.rows) (stored_at k v is)

  pub size_stored : (k : ℕ) (v : StoredVariable) → k < length network → slice_get (values_of es) k ≡ Some v →
      slice_index (sizes network) k ≡ length v.values.keys
  size_stored k v h is = size_at network k h ∙ ap (λ (xs : List (List ℕ)). length xs) (values_stored k v is)

  pub few_stored : (k : ℕ) (v : StoredVariable) → IsNetwork network → slice_get (values_of es) k ≡ Some v → length v.values.keys ≤ 16
  few_stored k v net is =
      let inside : k < length network = omega (arith, slice_get_within (values_of es) k v is, length-map es (λ (e : List ℕ × StoredVariable). e.1), length_stored) in
      omega (arith, few_values network k net inside, size_stored k v inside is)

  pub row_stored : (k row : ℕ) (v : StoredVariable) (r : Vec ℕ Global) → slice_get (values_of es) k ≡ Some v →
      row < length (variable_at network k).rows → r ≡ get_or v.rows.items row r → slice_index_or (variable_at network k).rows row [] ≡ r.items
  row_stored k row v r is within is_r =
      let inside : row < length v.rows.items = omega (arith, within, ap (λ (xs : List (List ℕ)). length xs) (rows_stored k v is), length-map v.rows.items (λ (row : Vec ℕ Global). row.items)) in
      ap (λ (xs : List (List ℕ)). slice_index_or xs row []) (rows_stored k v is) ∙ get_or-map (λ (row : Vec ℕ Global). row.items) v.rows.items row r [] inside ∙ ap (λ (u : Vec ℕ Global). u.items) (sym is_r)

  pub row_length : (k row : ℕ) (v : StoredVariable) (r : Vec ℕ Global) → IsNetwork network → k < length network →
      slice_get (values_of es) k ≡ Some v → row < length (variable_at network k).rows → r ≡ get_or v.rows.items row r →
      vec_len r ≡ slice_index (sizes network) k
  row_length k row v r net h is within is_r =
      r.ok.0 ∙ sym (ap (λ (xs : List ℕ). length xs) (row_stored k row v r is within is_r)) ∙ (row_at network k row net h within).one_each

  -- the names are the keys
  pub names_stored : map (λ (v : Variable). v.name) network ≡ keys_of es
  names_stored = ap (λ (vs : List Variable). map (λ (v : Variable). v.name) vs) (sym view) ∙ all es
    where
      all : (es : List (List ℕ × StoredVariable)) → map (λ (v : Variable). v.name) (variables_of es) ≡ keys_of es
      all [] = refl
      all (e ∷ es) = ap (λ (rest : List (List ℕ)). e.0 ∷ rest) (all es)

  pub name_stored : (k : ℕ) → k < length network → (variable_at network k).name ≡ get_or (keys_of es) k []
  name_stored k h =
      sym (get_or-map (λ (v : Variable). v.name) network k nobody [] h) ∙ ap (λ (ns : List (List ℕ)). get_or ns k []) names_stored
