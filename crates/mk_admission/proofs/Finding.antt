-- The first item that passes a test, from its place, and the first name that stands a second time.
use Rattle.std.proofs.Common.{◌≡◌, ℕ, ◌+◌, ◌<◌, ◌≤◌, Bool, true, false, cond, ◌||◌}
use Rattle.std.proofs.Common.{List, [], ◌∷◌, ◌++◌, length, take, drop, get_or, slice_index_or}
use Rattle.std.proofs.Common.{Option, Some, None, refl, sym, ap, ◌∙◌, arith}
use Rattle.std.specs.Prelude.{find, position, slice_get}
use Rattle.std.specs.List.{list_any, enumerate_from, position_or_len}
use Rattle.std.proofs.lemmas.List.{at_drop_more, at_drop_all, take_more}
use Rattle.std.proofs.lemmas.List.Folds.{find_at, list_any-append}
use Rattle.std.proofs.lemmas.List.FromFn.{get_or-enumerate_from, length-enumerate_from}
use Rattle.std.proofs.lemmas.Option.{slice_get_past, slice_get-get_or}
use Rattle.mk_names.specs.Texts.{same_text}
use Rattle.mk_net.proofs.Mapped.{place_found, place_missed}
use Rattle.mk_rules.specs.Refusals.{first_repeat}

module _ {X : Type 0} (test : X → Bool) where
  pub found : (xs : List X) (place : ℕ) (x : X) → place < length xs
      → Some place ≡ position test xs → x ≡ slice_index_or xs place x → find test xs ≡ Some x
  found xs place x within e read =
      find_at test xs ∙ ap (slice_get xs) (place_found test xs place (sym e))
      ∙ slice_get-get_or xs place x within ∙ ap (λ y. Some y) (sym read)

  pub missed : (xs : List X) → None ≡ position test xs → find test xs ≡ None
  missed xs e =
      find_at test xs ∙ ap (slice_get xs) (place_missed test xs (sym e))
      ∙ slice_get_past xs (length xs) (omega arith)

  abbrev numbered_test : ℕ × X → Bool
  numbered_test numbered = test (numbered.1)

  same_place : (xs : List X) (n : ℕ)
      → position_or_len numbered_test (enumerate_from n xs) ≡ position_or_len test xs
  same_place [] n = refl
  same_place (x ∷ xs) n = rw (same_place xs (n + 1)) refl

  -- the same where the items are counted from a number on
  pub counted_found : (xs : List X) (n place : ℕ) (x : X) → place < length xs
      → Some place ≡ position test xs → x ≡ slice_index_or xs place x
      → find numbered_test (enumerate_from n xs) ≡ Some (n + place, x)
  counted_found xs n place x within e read =
      let inside : place < length (enumerate_from n xs) = rw (length-enumerate_from n xs) within in
      find_at numbered_test (enumerate_from n xs)
      ∙ ap (slice_get (enumerate_from n xs)) (same_place xs n ∙ place_found test xs place (sym e))
      ∙ slice_get-get_or (enumerate_from n xs) place (0, x) inside
      ∙ ap (λ (r : ℕ × X). Some r)
      (get_or-enumerate_from n xs place (0, x) within
      ∙ ap (λ y. let r : ℕ × X = (n + place, y) in r) (sym read))

  pub counted_missed : (xs : List X) (n : ℕ) → None ≡ position test xs
      → find numbered_test (enumerate_from n xs) ≡ None
  counted_missed xs n e =
      find_at numbered_test (enumerate_from n xs)
      ∙ ap (slice_get (enumerate_from n xs)) (same_place xs n ∙ place_missed test xs (sym e))
      ∙ slice_get_past (enumerate_from n xs) (length xs)
      (omega (arith, length-enumerate_from n xs))

-- names that are the same in another order are repeated alike
alike : (xs ys : List (List ℕ))
    → ((name : List ℕ) → list_any (same_text name) xs ≡ list_any (same_text name) ys)
    → (names : List (List ℕ)) → first_repeat xs names ≡ first_repeat ys names
alike xs ys same [] = refl
alike xs ys same (name ∷ names) =
    ap (λ (b : Bool). cond b (Some name) (first_repeat (name ∷ xs) names)) (same name)
    ∙ ap (λ (rest : Option (List ℕ)). cond (list_any (same_text name) ys) (Some name) rest)
    (alike (name ∷ xs) (name ∷ ys)
    (λ other. ap (λ (b : Bool). same_text other name || b) (same other)) names)

at_the_end : (names : List (List ℕ)) (name other : List ℕ)
    → list_any (same_text other) (name ∷ names) ≡ list_any (same_text other) (names ++ name ∷ [])
at_the_end names name other =
    at (same_text other name) (list_any (same_text other) names)
    ∙ sym (list_any-append (same_text other) names (name ∷ []))
  where
    at : (a b : Bool) → (a || b) ≡ (b || (a || false))
    at true true = refl
    at true false = refl
    at false true = refl
    at false false = refl

-- the first repeat of names of which those before a place repeat none
abbrev pub RepeatsFrom : List (List ℕ) → ℕ → Type 0
RepeatsFrom names k =
    first_repeat (take k names) (drop k names) ≡ first_repeat [] names

module _ (names : List (List ℕ)) (k : ℕ) (d : List ℕ) (within : k < length names)
    (so_far : RepeatsFrom names k) where
  abbrev name : List ℕ
  name = get_or names k d

  here : first_repeat [] names
      ≡ cond (list_any (same_text name) (take k names)) (Some name)
      (first_repeat (name ∷ take k names) (drop (k + 1) names))
  here = sym so_far ∙ at_drop_more (first_repeat (take k names)) names k d within

  pub repeats_next : list_any (same_text name) (take k names) ≡ false → RepeatsFrom names (k + 1)
  repeats_next h =
      ap (λ xs. first_repeat xs (drop (k + 1) names)) (take_more names k d within)
      ∙ sym (alike (name ∷ take k names) (take k names ++ name ∷ [])
      (at_the_end (take k names) name) (drop (k + 1) names))
      ∙ sym (here ∙ ap (λ (b : Bool). cond b (Some name)
      (first_repeat (name ∷ take k names) (drop (k + 1) names))) h)

  pub repeats_here : list_any (same_text name) (take k names) ≡ true
      → first_repeat [] names ≡ Some name
  repeats_here h =
      here ∙ ap (λ (b : Bool). cond b (Some name)
      (first_repeat (name ∷ take k names) (drop (k + 1) names))) h

pub repeats_none : (names : List (List ℕ)) (k : ℕ) → length names ≤ k → RepeatsFrom names k
    → first_repeat [] names ≡ None
repeats_none names k h so_far =
    sym so_far ∙ at_drop_all (first_repeat (take k names)) names k h
