-- A name that a network knows, its number, and the variable of both.
use Rattle.std.proofs.Common.{◌≡◌, ℕ, ◌+◌, ◌<◌, ◌≤◌, Bool, true, false, cond, ltb, List, [], ◌∷◌, length, Option, Some, None, option_map, refl, sym, ap, ◌∙◌, zero-add}
use Rattle.std.specs.Prelude.{position, slice_get}
use Rattle.std.specs.List.{enumerate_from, position_or_len}
use Rattle.std.proofs.lemmas.Bool.{ltb-true, ltb-false}
use Rattle.std.proofs.lemmas.List.Folds.{find_at}
use Rattle.std.proofs.lemmas.List.FromFn.{get_or-enumerate_from, length-enumerate_from}
use Rattle.std.proofs.lemmas.List.Quantifiers.{position-Some}
use Rattle.std.proofs.lemmas.Option.{slice_get_past, slice_get-get_or}
use Rattle.mk_net.specs.Network.{Variable}
use Rattle.mk_net.specs.Named.{nobody, variable_at, variable_named}
use Rattle.mk_names.specs.Texts.{same_text}
use Rattle.mk_names.proofs.SameText.{equal_of_same_text}

-- a number with its variable
abbrev pub numbered_at : List Variable → ℕ → ℕ × Variable
numbered_at network k = (k, variable_at network k)

-- variables that are numbered pass a test where they pass it without their numbers
same_places : (test : Variable → Bool) (network : List Variable) (n : ℕ) → position_or_len (λ (numbered : ℕ × Variable). test (numbered.1)) (enumerate_from n network) ≡ position_or_len test network
same_places test [] n = refl
same_places test (v ∷ vs) n = rw (same_places test vs (n + 1)) refl

at_place : (network : List Variable) (k : ℕ) (b : Bool) → ltb k (length network) ≡ b → slice_get (enumerate_from 0 network) k ≡ option_map (numbered_at network) (cond b (Some k) None)
at_place network k true e =
    let inside : k < length network = ltb-true k (length network) e in
    let numbered_inside : k < length (enumerate_from 0 network) = rw (length-enumerate_from 0 network) inside in
    slice_get-get_or (enumerate_from 0 network) k (0, nobody) numbered_inside
    ∙ ap (λ (r : ℕ × Variable). Some r) (get_or-enumerate_from 0 network k (0, nobody) inside ∙ ap (λ (i : ℕ). let r : ℕ × Variable = (i, variable_at network k) in r) (zero-add k))
at_place network k false e =
    let past : length network ≤ k = ltb-false k (length network) e in
    slice_get_past (enumerate_from 0 network) k (rw (length-enumerate_from 0 network) past)

-- the variable of a name, from the place of the name
pub variable_of_place : (network : List Variable) (name : List ℕ) (place : Option ℕ) → place ≡ position (λ (v : Variable). same_text name v.name) network
    → variable_named network name ≡ option_map (numbered_at network) place
variable_of_place network name place e =
    find_at (λ (numbered : ℕ × Variable). same_text name (numbered.1).name) (enumerate_from 0 network)
    ∙ ap (λ (k : ℕ). slice_get (enumerate_from 0 network) k) (same_places named network 0)
    ∙ at_place network (position_or_len named network) (ltb (position_or_len named network) (length network)) refl
    ∙ ap (option_map (numbered_at network)) (sym e)
  where
    named : Variable → Bool
    named v = same_text name v.name

-- a number of a name, as the network knows it
abbrev pub IsNumberOf : List Variable → List ℕ → ℕ → Type 0
IsNumberOf network name k = (v : Variable) × (variable_named network name ≡ Some (k, v))

place_of : (network : List Variable) (k : ℕ) (v : Variable) (o : Option ℕ) → option_map (numbered_at network) o ≡ Some (k, v) → (o ≡ Some k) × (v ≡ variable_at network k)
place_of network k v None h = cc
place_of network k v (Some i) h =
    let same : ◌≡◌ {A = ℕ × Variable} (numbered_at network i) (k, v) = cc in
    let place : i ≡ k = ap (λ (r : ℕ × Variable). r.0) same in
    (ap (λ (n : ℕ). Some n) place, sym (ap (λ (r : ℕ × Variable). r.1) same) ∙ ap (variable_at network) place)

module _ (network : List Variable) (name : List ℕ) (k : ℕ) (v : Variable) (known : variable_named network name ≡ Some (k, v)) where
  place : (position (λ (x : Variable). same_text name x.name) network ≡ Some k) × (v ≡ variable_at network k)
  place = place_of network k v _ (sym (variable_of_place network name _ refl) ∙ known)

  pub variable_of_number : v ≡ variable_at network k
  variable_of_number = place.1

  pub name_of_number : (variable_at network k).name ≡ name
  name_of_number = sym (equal_of_same_text name (variable_at network k).name (position-Some (λ (x : Variable). same_text name x.name) network k nobody place.0).1)
