-- Events that a clique holds: the home of an event holds it, and a clique that holds an event holds
-- what speaks of no other variable.
use Rattle.std.proofs.Common.{◌≡◌, ℕ, ◌+◌, ◌-◌, ◌<◌, ◌≤◌, Bool, true, false, cond, not, ◌⊎◌, inl}
use Rattle.std.proofs.Common.{inr, List, [], ◌∷◌, ◌++◌, length, get_or, slice_index_or, take, drop}
use Rattle.std.proofs.Common.{Option, Some, None, is_some, option_map, position, refl, sym, ap, ◌∙◌}
use Rattle.std.proofs.Common.{arith}
use Rattle.std.specs.List.{position_or_len, list_any, list_all}
use Rattle.std.proofs.lemmas.Bool.{both_ways, cond-true, lt-ltb, or_cases, and_parts}
use Rattle.std.proofs.Math.Bool.{and-true}
use Rattle.std.proofs.lemmas.List.{take-append-drop}
use Rattle.std.proofs.lemmas.List.Quantifiers.{position-Some}
use Rattle.mk_net.specs.declared.words.Pair.{Pair}
use Rattle.mk_sets.specs.Sets.{VarSet, is_member, no_variables}
use Rattle.mk_net.specs.Named.{variable_at}
use Rattle.mk_net.specs.Network.{Variable}
use Rattle.mk_states.proofs.Sums.{list_all-append}
use Rattle.mk_tree.specs.Given.{GivenTree, clique_at, home, holds_event}
use Rattle.mk_tree.specs.Tests.{holds_family, is_covered}
use Rattle.mk_tree.specs.Held.{IsHeldAt}

at_place : (t : GivenTree) (i : ℕ) → clique_at t (i + 1) ≡ get_or t.cliques i no_variables
at_place t i = let e : i + 1 - 1 ≡ i = omega arith in ap
    (λ n. slice_index_or t.cliques n no_variables) e

-- the home of an event holds it
pub home_is_held : (t : GivenTree) (k : ℕ) (event : List Pair) → home t event ≡ Some k
    → IsHeldAt t k event
home_is_held t k event h = at (position (holds_event event) t.cliques) refl h
  where
    at : (o : Option ℕ) → position (holds_event event) t.cliques ≡ o
        → option_map (λ (n : ℕ). n + 1) o ≡ Some k → IsHeldAt t k event
    at None e f = absurd (cc)
    at (Some i) e f =
        let g : i + 1 ≡ k = cc in
        let p = position-Some (holds_event event) t.cliques i no_variables e in record {
          first = omega arith;
          last = omega (arith, p.0);
          held = ap (λ n. holds_event event (clique_at t n)) (sym g) ∙ ap (holds_event event)
              (at_place t i) ∙ p.1;
        }

-- a clique that holds an event holds another where each set of variables does
pub held_weaker : (t : GivenTree) (k : ℕ) (event other : List Pair) → ((set : VarSet)
    → holds_event event set ≡ true → holds_event other set ≡ true)
    → IsHeldAt t k event → IsHeldAt t k other
held_weaker t k event other weaker h = record
    { first = h.first; last = h.last; held = weaker (clique_at t k) h.held }

-- as the front of that event
pub held_front : (t : GivenTree) (k : ℕ) (front rest : List Pair) → IsHeldAt t k (front ++ rest)
    → IsHeldAt t k front
held_front t k front rest = held_weaker t k (front ++ rest) front weaker
  where
    weaker : (set : VarSet) → holds_event (front ++ rest) set ≡ true → holds_event front set ≡ true
    weaker set h =
        (and_parts (holds_event front set) (holds_event rest set)
        (sym (list_all-append (λ (p : Pair). is_member set p.variable) front rest) ∙ h)).0

-- or some first pairs
pub held_take : (t : GivenTree) (k n : ℕ) (event front : List Pair) → front ≡ take n event
    → IsHeldAt t k event → IsHeldAt t k front
held_take t k n event front e h =
    rw e (held_front t k (take n event) (drop n event) (rw (take-append-drop n event) h))

-- or no pairs, which the first clique holds
pub nothing_is_held : (t : GivenTree) → 1 ≤ length t.cliques → IsHeldAt t 1 []
nothing_is_held t some = record { first = omega arith; last = some; held = refl }

-- where an item passes a test, one passes a weaker test
weaker_passes : {X : Type 0} (p q : X → Bool) (xs : List X) → ((x : X) → q x ≡ true → p x ≡ true)
    → list_any q xs ≡ true → position_or_len p xs < length xs
weaker_passes p q [] h e = absurd (both_ways false refl e)
weaker_passes p q (x ∷ xs) h e = at (p x) refl (or_cases (q x) (list_any q xs) e)
    (weaker_passes p q xs h)
  where
    at : (b : Bool) → p x ≡ b → ((q x ≡ true) ⊎ (list_any q xs ≡ true)) → (list_any q xs ≡ true
        → position_or_len p xs < length xs) → position_or_len p (x ∷ xs) < length (x ∷ xs)
    at true t _ ih =
        let z : position_or_len p (x ∷ xs) ≡ 0 = ap {B = ℕ}
        (λ b. cond (not b) (1 + position_or_len p xs) 0) t in
        omega (arith, z)
    at false t (inl s) ih = absurd (both_ways (p x) t (h x s))
    at false t (inr s) ih =
        let z : position_or_len p (x ∷ xs) ≡ 1 + position_or_len p xs = ap {B = ℕ}
        (λ b. cond (not b) (1 + position_or_len p xs) 0) t in
        let l = ih s in
        omega (arith, z, l)

-- a pair of a covered variable has a home
pub pair_has_home : (network : List Variable) (t : GivenTree) (pair : Pair)
    → is_covered network t.cliques pair.variable ≡ true → is_some (home t (pair ∷ [])) ≡ true
pair_has_home network t pair covered =
    let l = weaker_passes (holds_event (pair ∷ [])) (holds_family network pair.variable) t.cliques
    fits covered in
    ap (λ (o : Option ℕ). is_some (option_map (λ (k : ℕ). k + 1) o))
    (cond-true _ (Some (position_or_len (holds_event (pair ∷ [])) t.cliques)) None
    (lt-ltb (position_or_len (holds_event (pair ∷ [])) t.cliques) (length t.cliques) l))
  where
    fits : (set : VarSet) → holds_family network pair.variable set ≡ true
        → holds_event (pair ∷ []) set ≡ true
    fits set h = and-true (is_member set pair.variable) ∙
        (and_parts (is_member set pair.variable) (list_all (is_member set)
        (variable_at network pair.variable).parents) h).0
