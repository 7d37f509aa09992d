-- A distribution that meets no refusal can be asked about.
use Rattle.std.proofs.Common.{◌≡◌, ℕ, ◌+◌, ◌<◌, ◌≤◌, not, slice_index, arith, Bool, true, false, cond, ◌||◌, List, [], ◌∷◌, length, Option, Some, None, option_map, is_none, refl, sym, ap, ◌∙◌, subst, zero-add}
use Rattle.std.specs.Prelude.{◌==◌, find}
use Rattle.std.specs.List.{enumerate_from, position_or_len, slice_get, cons_option}
use Rattle.std.proofs.lemmas.Bool.{eqb-true}
use Rattle.std.proofs.lemmas.List.FromFn.{get_or-enumerate_from, length-enumerate_from}
use Rattle.std.proofs.lemmas.List.Folds.{find_at}
use Rattle.std.proofs.lemmas.List.{get_or-map}
use Rattle.std.proofs.lemmas.Option.{slice_get_within, get_or_from_slice_get}
use Rattle.mk_net.specs.declared.words.Pair.{Pair}
use Rattle.mk_net.specs.declared.words.PairText.{PairText}
use Rattle.mk_net.specs.declared.words.QuestionText.{QuestionText}
use Rattle.mk_net.specs.Events.{speaks_of, AreApart}
use Rattle.mk_net.specs.Network.{Variable, sizes}
use Rattle.mk_net.specs.Named.{nobody, pair_named, variable_named, variable_at}
use Rattle.mk_names.specs.Texts.{same_text}
use Rattle.mk_names.proofs.SameText.{equal_of_same_text}
use Rattle.mk_net.proofs.Named.{pair_variable_name}
use Rattle.mk_exact.specs.History.{Entry}
use Rattle.mk_exact.specs.Proper.{IsProper}
use Rattle.mk_states.proofs.Sums.{each_weaker}
use Rattle.mk_states.specs.Events.{holds}
use Rattle.mk_exact.specs.Weight.{possible_states}
use Rattle.mk_spread.specs.Told.{CanBeTold}
use Rattle.mk_spread.specs.Spreads.{SpreadAsked}
use Rattle.mk_spread.specs.Markets.{IsSpreadInOrder, CanBeSpread, SuitValues, value_cannot_come}
use Rattle.mk_rules.specs.Refusals.{spread_named, names_in, known_pairs, no_variable, twice, resolved, numbers, ranges, impossible_together, sure_value, impossible_share, missing_share}
use Rattle.mk_rules.proofs.Unrefused.{not_faulted, not_mapped}
use Rattle.mk_rules.proofs.Coming.{some_where, two_values, suit_from}
use Rattle.mk_rules.proofs.Apart.{condition_apart, target_apart}
use Rattle.mk_rules.proofs.Spreads.{spread_parts, spread_is, numbers_in_range}

-- a distribution whose variable is known is one of the network
pub spread_exists : (network : List Variable) (v : List ℕ) (pairs : List PairText) → no_variable network v ≡ None → (spread : SpreadAsked) × (spread_named network v pairs ≡ Some spread)
spread_exists network v pairs h = at (variable_named network v) (not_faulted _ _ h)
  where
    spread_of : ℕ × Variable → SpreadAsked
    spread_of numbered = record { variable = numbered.0; condition = known_pairs network pairs }

    at : (o : Option (ℕ × Variable)) → is_none o ≡ false → (spread : SpreadAsked) × (option_map spread_of o ≡ Some spread)
    at None e = absurd (cc)
    at (Some numbered) e = (spread_of numbered, refl)

-- what is found passes the test
found_passes : {X : Type 0} (test : X → Bool) (xs : List X) (x : X) → find test xs ≡ Some x → test x ≡ true
found_passes test [] x h = cc
found_passes test (y ∷ ys) x h = at (test y) refl (found_passes test ys x) h
  where
    at : (b : Bool) → test y ≡ b → (find test ys ≡ Some x → test x ≡ true) → cond b (Some y) (find test ys) ≡ Some x → test x ≡ true
    at true e later h = let same : y ≡ x = cc in subst (λ z. test z ≡ true) same e
    at false e later h = later h

-- a variable that is known, by its number
module _ (network : List Variable) (v : List ℕ) (k : ℕ) (x : Variable) (h : variable_named network v ≡ Some (k, x)) where
  named : ℕ × Variable → Bool
  named n = same_text v (n.1).name

  numbered : List (ℕ × Variable)
  numbered = enumerate_from 0 network

  place : ℕ
  place = position_or_len named numbered

  there : slice_get numbered place ≡ Some (k, x)
  unfolding named numbered place
  there = sym (find_at named numbered) ∙ h

  within : place < length network
  unfolding numbered
  within = subst (λ n. place < n) (length-enumerate_from 0 network) (slice_get_within numbered place (k, x) there)

  same : ◌≡◌ {A = ℕ × Variable} (k, x) (0 + place, variable_at network place)
  unfolding numbered
  same = sym (get_or_from_slice_get numbered place (k, x) (0, nobody) there) ∙ get_or-enumerate_from 0 network place (0, nobody) within

  its_place : k ≡ place
  its_place = ap (λ (n : ℕ × Variable). n.0) same ∙ zero-add place

  is_there : x ≡ variable_at network k
  is_there = ap (λ (n : ℕ × Variable). n.1) same ∙ ap (variable_at network) (sym its_place)

  -- it has its name, and its number of values
  pub variable_name : v ≡ (variable_at network k).name
  unfolding named numbered
  variable_name = equal_of_same_text v x.name (found_passes named numbered (k, x) h) ∙ ap (λ (y : Variable). y.name) is_there

  pub variable_size : length x.values ≡ slice_index (sizes network) k
  variable_size = ap (λ (y : Variable). length y.values) is_there
      ∙ sym (get_or-map (λ (w : Variable). length w.values) network k nobody 0 (omega (arith, within, its_place)))

-- words of a pair that gives a variable a value
Speaker : List Variable → ℕ → Type 0
Speaker network k = (p : PairText) × (y : Pair) × (pair_named network p ≡ Some y) × (k ≡ y.variable)

speaker : (network : List Variable) (ps : List PairText) (k : ℕ) → speaks_of (known_pairs network ps) k ≡ true → Speaker network k
unfolding Speaker
speaker network [] k h = cc
speaker network (p ∷ ps) k h = at (pair_named network p) refl (speaker network ps k) h
  where
    of_pair : (y : Pair) → pair_named network p ≡ Some y → (b : Bool) → (k == y.variable) ≡ b → (speaks_of (known_pairs network ps) k ≡ true → Speaker network k)
        → (b || speaks_of (known_pairs network ps) k) ≡ true → Speaker network k
    of_pair y e true f later h = (p, y, e, eqb-true k y.variable f)
    of_pair y e false f later h = later h

    at : (o : Option Pair) → pair_named network p ≡ o → (speaks_of (known_pairs network ps) k ≡ true → Speaker network k)
        → speaks_of (cons_option o (known_pairs network ps)) k ≡ true → Speaker network k
    at None e later h = later h
    at (Some y) e later h = of_pair y e (k == y.variable) refl later h

-- as many shares as values
pub as_many_shares : (network : List Variable) (v : List ℕ) (pairs : List PairText) (spread : SpreadAsked) (to : List ℕ) → spread_named network v pairs ≡ Some spread
    → numbers network v to ≡ None → length to ≡ slice_index (sizes network) spread.variable
as_many_shares network v pairs spread to named h =
    let parts = spread_parts network v pairs spread named in
    let same : length to ≡ length (parts.0).values = same_count (length to) (length (parts.0).values) (rw parts.1 at (not_faulted _ _ h)) in
    same ∙ variable_size network v spread.variable parts.0 parts.1
  where
    same_count : (a b : ℕ) → not (a == b) ≡ false → a ≡ b
    same_count a b h = at (a == b) (eqb-true a b) h
      where
        at : (c : Bool) → (c ≡ true → a ≡ b) → not c ≡ false → a ≡ b
        at true same h = same refl
        at false same h = cc

-- a question with the condition of a distribution
abbrev question_of : PairText → List PairText → QuestionText
question_of target pairs = record { target = target; condition = record { items = pairs } }

-- where no variable occurs twice, the condition does not speak of the distribution's own
variable_apart : (network : List Variable) (v : List ℕ) (pairs : List PairText) (k : ℕ) (x : Variable) → variable_named network v ≡ Some (k, x)
    → twice (v ∷ names_in pairs) ≡ None → speaks_of (known_pairs network pairs) k ≡ false
unfolding Speaker
variable_apart network v pairs k x h once = at (speaks_of (known_pairs network pairs) k) refl
  where
    silent : Speaker network k → speaks_of (known_pairs network pairs) k ≡ false
    silent (p, y, named, same) =
        let text : v ≡ p.variable = variable_name network v k x h ∙ ap (λ (n : ℕ). (variable_at network n).name) same ∙ pair_variable_name network p y (sym named) in
        subst (λ (n : ℕ). speaks_of (known_pairs network pairs) n ≡ false) (sym same)
        (target_apart network (question_of p pairs) y named (subst (λ (name : List ℕ). twice (name ∷ names_in pairs) ≡ None) text once))

    at : (b : Bool) → speaks_of (known_pairs network pairs) k ≡ b → speaks_of (known_pairs network pairs) k ≡ false
    at true e = silent (speaker network pairs k e)
    at false e = e

-- what meets no refusal is in order
pub spread_in_order : (network : List Variable) (H : List Entry) (v : List ℕ) (pairs : List PairText) (spread : SpreadAsked) → spread_named network v pairs ≡ Some spread
    → twice (v ∷ names_in pairs) ≡ None → resolved network H v ≡ None → IsSpreadInOrder network H spread
spread_in_order network H v pairs spread named once unsettled = record {
  in_range = spread_is network v pairs spread named;
  apart = subst AreApart (sym parts.2) (condition_apart network (question_of (record { variable = v; value = [] }) pairs) once);
  variable_apart = subst (λ (ps : List Pair). speaks_of ps spread.variable ≡ false) (sym parts.2) (variable_apart network v pairs spread.variable parts.0 parts.1 once);
  unresolved = rw parts.1 at (not_faulted _ _ unsettled);
}
  where
    parts : (x : Variable) × (variable_named network v ≡ Some (spread.variable, x)) × (spread.condition ≡ known_pairs network pairs)
    parts = spread_parts network v pairs spread named

-- and can be asked about
pub can_be_spread : (network : List Variable) (H : List Entry) (v : List ℕ) (pairs : List PairText) (spread : SpreadAsked) → IsProper network H → spread_named network v pairs ≡ Some spread
    → twice (v ∷ names_in pairs) ≡ None → resolved network H v ≡ None → impossible_together network H pairs ≡ None → sure_value network H v pairs ≡ None → CanBeSpread network H spread
can_be_spread network H v pairs spread proper named once unsettled together several = record {
  in_order = spread_in_order network H v pairs spread named once unsettled;
  two_left = two_values network H v pairs spread proper (spread_is network v pairs spread named).variable named (spread_parts network v pairs spread named).2 together several;
}

-- and one whose condition can come can be told
pub can_be_told : (network : List Variable) (H : List Entry) (v : List ℕ) (pairs : List PairText)
    (spread : SpreadAsked) → IsProper network H → spread_named network v pairs ≡ Some spread →
    twice (v ∷ names_in pairs) ≡ None → resolved network H v ≡ None →
    impossible_together network H pairs ≡ None → CanBeTold network H spread
can_be_told network H v pairs spread proper named once unsettled together = record {
  in_order = spread_in_order network H v pairs spread named once unsettled;
  some_state = subst (λ (ps : List Pair). 1 ≤ length (possible_states network H (holds ps)))
      (sym (spread_parts network v pairs spread named).2)
      (some_where network H proper pairs together);
}

-- its shares suit its values
pub shares_suit : (network : List Variable) (H : List Entry) (v : List ℕ) (pairs : List PairText) (spread : SpreadAsked) (least : ℕ) (to : List ℕ) → spread_named network v pairs ≡ Some spread
    → numbers network v to ≡ None → ranges least 999999 to ≡ None → impossible_share network H v pairs to ≡ None → missing_share network H v pairs to ≡ None → SuitValues network H spread to
shares_suit network H v pairs spread least to named one_each in_range impossible missing =
    suit_from (value_cannot_come network H spread) 0 (slice_index (sizes network) spread.variable) to (as_many_shares network v pairs spread to named one_each)
    (each_weaker (λ X. (least ≤ X) × (X ≤ 999999)) (λ X. X ≤ 999999) (λ X inside. inside.1) to (numbers_in_range least 999999 to in_range))
    (not_mapped _ _ (rw named at impossible)) (not_faulted _ _ (rw named at missing))
