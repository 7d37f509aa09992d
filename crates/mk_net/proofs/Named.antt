-- The pair that two words name, from the first places of the words.
use Rattle.std.specs.Prelude.{◌≡◌, ℕ, ◌+◌, ◌<◌, ◌≤◌, List, [], ◌∷◌, Bool, true, false, cond, length, get_or, Option, Some, None, option_map, option_and_then, position, find, slice_get, ltb, slice_index, slice_index_or}
use Rattle.std.specs.List.{enumerate_from, position_or_len}
use Rattle.std.specs.Map.{keys_of, values_of}
use Rattle.std.proofs.lemmas.List.FromFn.{get_or-enumerate_from, length-enumerate_from}
use Rattle.std.proofs.lemmas.List.Folds.{find_at}
use Rattle.std.proofs.Common.{refl, sym, ap, ◌∙◌, zero-add}
use Rattle.std.proofs.lemmas.Bool.{ltb-true, ltb-false}
use Rattle.std.proofs.lemmas.Option.{slice_get_past, slice_get-get_or}
use Rattle.std.proofs.lemmas.List.Quantifiers.{position-Some}
use Rattle.mk_net.specs.Network.{Variable, sizes}
use Rattle.mk_names.specs.Texts.{same_text}
use Rattle.mk_net.specs.Named.{nobody, variable_at, value_named, pair_named}
use Rattle.mk_net.specs.Stored.{variables_of}
use Rattle.mk_net.specs.declared.network.StoredVariable.{StoredVariable}
use Rattle.mk_net.specs.declared.words.Pair.{Pair}
use Rattle.mk_net.specs.declared.words.PairText.{PairText}
use Rattle.mk_net.proofs.StoredReads.{names_stored, values_stored}
use Rattle.mk_net.proofs.Mapped.{position_of_map}
use Rattle.mk_net.proofs.Networks.{size_at}
use Rattle.mk_names.proofs.SameText.{equal_of_same_text}

places : (p : Variable → Bool) (xs : List Variable) (j : ℕ) →
    position_or_len (λ (n : ℕ × Variable). p (n.1)) (enumerate_from j xs) ≡ position_or_len p xs
places p [] j = refl
places p (x ∷ xs) j = rw (places p xs (j + 1)) refl

at_place_by : (xs : List Variable) (i : ℕ) (b : Bool) → ltb i (length xs) ≡ b → slice_get (enumerate_from 0 xs) i ≡
    option_map (λ (k : ℕ). let r : ℕ × Variable = (k, get_or xs k nobody) in r) (cond b (Some i) None)
at_place_by xs i true h =
    let within : i < length xs = ltb-true i (length xs) h in
    let inside : i < length (enumerate_from 0 xs) = rw (length-enumerate_from 0 xs) within in
    slice_get-get_or (enumerate_from 0 xs) i (0, nobody) inside ∙
    ap (λ (r : ℕ × Variable). Some r) (get_or-enumerate_from 0 xs i (0, nobody) within ∙
    ap (λ (k : ℕ). let r : ℕ × Variable = (k, get_or xs i nobody) in r) (zero-add i))
at_place_by xs i false h =
    let past : length xs ≤ i = ltb-false i (length xs) h in
    slice_get_past (enumerate_from 0 xs) i (rw (length-enumerate_from 0 xs) past)

at_place : (xs : List Variable) (i : ℕ) → slice_get (enumerate_from 0 xs) i ≡
    option_map (λ (k : ℕ). let r : ℕ × Variable = (k, get_or xs k nobody) in r) (cond (ltb i (length xs)) (Some i) None)
at_place xs i = at_place_by xs i (ltb i (length xs)) refl

-- the first passing element with its number
numbered : (p : Variable → Bool) (xs : List Variable) →
    find (λ (n : ℕ × Variable). p (n.1)) (enumerate_from 0 xs) ≡
    option_map (λ (k : ℕ). let r : ℕ × Variable = (k, get_or xs k nobody) in r) (position p xs)
numbered p xs = find_at (λ (n : ℕ × Variable). p (n.1)) (enumerate_from 0 xs) ∙
    ap (λ (i : ℕ). slice_get (enumerate_from 0 xs) i) (places p xs 0) ∙ at_place xs (position_or_len p xs)

and_then_map : (value : List ℕ) (network : List Variable) (o : Option ℕ) →
    option_and_then (value_named value) (option_map (λ (k : ℕ). let r : ℕ × Variable = (k, get_or network k nobody) in r) o) ≡
    option_and_then (λ (k : ℕ). value_named value (let r : ℕ × Variable = (k, variable_at network k) in r)) o
and_then_map value network None = refl
and_then_map value network (Some k) = refl

pub pair_of_places : (network : List Variable) (p : PairText) →
    pair_named network p ≡ option_and_then (λ (k : ℕ). value_named p.value (let r : ℕ × Variable = (k, variable_at network k) in r))
    (position (λ (v : Variable). same_text p.variable v.name) network)
pair_of_places network p =
    ap (λ (o : Option (ℕ × Variable)). option_and_then (value_named p.value) o) (numbered (λ (v : Variable). same_text p.variable v.name) network)
    ∙ and_then_map p.value network (position (λ (v : Variable). same_text p.variable v.name) network)

module _ (es : List (List ℕ × StoredVariable)) (network : List Variable) (view : variables_of es ≡ network) where
  -- the place of a name
  pub position_stored : (name : List ℕ) (o : Option ℕ) → o ≡ position (same_text name) (keys_of es) →
      position (λ (v : Variable). same_text name v.name) network ≡ o
  position_stored name o place =
      sym (position_of_map (λ (v : Variable). v.name) (same_text name) network) ∙ ap (λ (ns : List (List ℕ)). position (same_text name) ns) (names_stored es network view) ∙ sym place

  stored_pair : (p : PairText) (o : Option ℕ) → o ≡ position (same_text p.variable) (keys_of es) →
      pair_named network p ≡ option_and_then (λ (k : ℕ). value_named p.value (let r : ℕ × Variable = (k, variable_at network k) in r)) o
  stored_pair p o place =
      pair_of_places network p ∙
      ap (λ (o : Option ℕ). option_and_then (λ (k : ℕ). value_named p.value (let r : ℕ × Variable = (k, variable_at network k) in r)) o) (position_stored p.variable o place)

  pub unknown_variable : (p : PairText) → None ≡ position (same_text p.variable) (keys_of es) → pair_named network p ≡ None
  unknown_variable p place = stored_pair p None place

  pub known_variable : (p : PairText) (k : ℕ) (v : StoredVariable) (o : Option ℕ) → Some k ≡ position (same_text p.variable) (keys_of es) →
      slice_get (values_of es) k ≡ Some v → o ≡ position (same_text p.value) v.values.keys →
      pair_named network p ≡ option_map (λ (x : ℕ). let r : Pair = record { variable = k; value = x } in r) o
  known_variable p k v o place is values =
      stored_pair p (Some k) place ∙
      ap (λ (names : List (List ℕ)). option_map (λ (x : ℕ). let r : Pair = record { variable = k; value = x } in r) (position (same_text p.value) names)) (values_stored es network view k v is) ∙
      ap (λ (o : Option ℕ). option_map (λ (x : ℕ). let r : Pair = record { variable = k; value = x } in r) o) (sym values)

value_place : (pair : Pair) (k : ℕ) (o : Option ℕ) → Some pair ≡ option_map (λ (x : ℕ). let r : Pair = record { variable = k; value = x } in r) o →
    (k ≡ pair.variable) × (o ≡ Some pair.value)
value_place pair k None h = cc
value_place pair k (Some x) h =
    let e : pair ≡ record { variable = k; value = x } = cc in
    (sym (ap (λ (r : Pair). r.variable) e), ap (λ (r : Pair). Some r.value) (sym e))

places_of : (network : List Variable) (words : PairText) (pair : Pair) (o : Option ℕ) →
    Some pair ≡ option_and_then (λ (k : ℕ). value_named words.value (let r : ℕ × Variable = (k, variable_at network k) in r)) o →
    (o ≡ Some pair.variable) × (position (same_text words.value) (variable_at network pair.variable).values ≡ Some pair.value)
places_of network words pair None h = cc
places_of network words pair (Some k) h =
    let place : (k ≡ pair.variable) × (position (same_text words.value) (variable_at network k).values ≡ Some pair.value) =
    value_place pair k (position (same_text words.value) (variable_at network k).values) h in
    (ap (λ (k : ℕ). Some k) (place.0), rw (place.0) at (place.1))

-- the first places of the words
pub pair_places : (network : List Variable) (words : PairText) (pair : Pair) → Some pair ≡ pair_named network words →
    (position (λ (v : Variable). same_text words.variable v.name) network ≡ Some pair.variable) ×
    (position (same_text words.value) (variable_at network pair.variable).values ≡ Some pair.value)
pair_places network words pair h =
    places_of network words pair (position (λ (v : Variable). same_text words.variable v.name) network) (h ∙ pair_of_places network words)

pub pair_variable_in_range : (network : List Variable) (words : PairText) (pair : Pair) → Some pair ≡ pair_named network words →
    pair.variable < length network
pair_variable_in_range network words pair h =
    (position-Some (λ (v : Variable). same_text words.variable v.name) network pair.variable nobody (pair_places network words pair h).0).0

pub pair_value_in_range : (network : List Variable) (words : PairText) (pair : Pair) → Some pair ≡ pair_named network words →
    pair.value < slice_index (sizes network) pair.variable
pair_value_in_range network words pair h = rw (size_at network pair.variable (pair_variable_in_range network words pair h))
    ((position-Some (same_text words.value) (variable_at network pair.variable).values pair.value [] (pair_places network words pair h).1).0)

-- the pair has these names
pub pair_variable_name : (network : List Variable) (words : PairText) (pair : Pair) → Some pair ≡ pair_named network words →
    (variable_at network pair.variable).name ≡ words.variable
pair_variable_name network words pair h =
    sym (equal_of_same_text words.variable (variable_at network pair.variable).name
    (position-Some (λ (v : Variable). same_text words.variable v.name) network pair.variable nobody (pair_places network words pair h).0).1)

pub pair_value_name : (network : List Variable) (words : PairText) (pair : Pair) → Some pair ≡ pair_named network words →
    slice_index_or (variable_at network pair.variable).values pair.value [] ≡ words.value
pair_value_name network words pair h =
    sym (equal_of_same_text words.value (slice_index_or (variable_at network pair.variable).values pair.value [])
    (position-Some (same_text words.value) (variable_at network pair.variable).values pair.value [] (pair_places network words pair h).1).1)
