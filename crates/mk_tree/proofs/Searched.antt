-- A search of the cliques that begins where an event may first be held.
use Rattle.std.proofs.Common.{◌≡◌, ℕ, zero, suc, ◌+◌, ◌-◌, ◌<◌, ◌≤◌, Bool, true, false, cond, not}
use Rattle.std.proofs.Common.{List, [], ◌∷◌, length, get_or, drop, fold, max, position, Some}
use Rattle.std.proofs.Common.{Option, option_map, refl, sym, ap, arith}
use Rattle.std.proofs.Common.{◌⊎◌, inl, inr}
use Rattle.std.specs.List.{position_or_len}
use Rattle.std.proofs.Math.Nat.{max-le}
use Rattle.std.proofs.lemmas.Bool.{and_parts, both_ways, cases_lt, lt-ltb, le-ltb}
use Rattle.std.proofs.lemmas.List.{get_or_past, length-drop}
use Rattle.std.proofs.lemmas.List.Sums.{prefix_len-le-length}
use Rattle.mk_net.specs.declared.words.Pair.{Pair}
use Rattle.mk_sets.specs.Sets.{VarSet, is_member}
use Rattle.mk_net.specs.Bounds.{max_variables}
use Rattle.mk_tree.specs.Given.{holds_event}
use Rattle.mk_tree.specs.inner.Starts.{AreStarts, event_start}

-- a first place behind n others is the first one behind them
first_behind : {X : Type 0} (p : X → Bool) (n : ℕ) (xs : List X) → n ≤ position_or_len p xs
    → position_or_len p xs ≡ n + position_or_len p (drop n xs)
first_behind p zero xs late = omega arith
first_behind p (suc n) [] late = absurd (omega (arith, late))
first_behind p (suc n) (x ∷ xs) late = at (p x) late (first_behind p n xs)
  where
    at : (b : Bool) → suc n ≤ cond (not b) (1 + position_or_len p xs) 0
        → (n ≤ position_or_len p xs → position_or_len p xs ≡ n + position_or_len p (drop n xs))
        → cond (not b) (1 + position_or_len p xs) 0 ≡ suc n + position_or_len p (drop n xs)
    at true f ih = absurd (omega (arith, f))
    at false f ih = let e = ih (omega (arith, f)) in omega (arith, e)

-- so a search may begin there
found_behind : {X : Type 0} (p : X → Bool) (n : ℕ) (xs : List X) → n ≤ position_or_len p xs
    → option_map (λ (k : ℕ). n + k) (position p (drop n xs)) ≡ position p xs
found_behind p n xs late = at (cases_lt (position_or_len p xs) (length xs))
  where
    first : position_or_len p xs ≡ n + position_or_len p (drop n xs)
    first = first_behind p n xs late

    rest : length (drop n xs) ≡ length xs - n
    rest = length-drop n xs

    at : ((position_or_len p xs < length xs) ⊎ (length xs ≤ position_or_len p xs))
        → option_map (λ (k : ℕ). n + k) (position p (drop n xs)) ≡ position p xs
    at (inl within) =
        let here = lt-ltb (position_or_len p xs) (length xs) within in
        let there = lt-ltb (position_or_len p (drop n xs)) (length (drop n xs))
        (omega (arith, within, first, rest)) in
        rw (here, there) (ap (λ (k : ℕ). Some k) (sym first))
    at (inr past) =
        let here = le-ltb (position_or_len p xs) (length xs) past in
        let there = le-ltb (position_or_len p (drop n xs)) (length (drop n xs))
        (omega (arith, past, first, rest)) in
        rw (here, there) refl

-- what passes a weaker test comes no later
weaker_first : {X : Type 0} (p q : X → Bool) (xs : List X) → ((x : X) → q x ≡ true → p x ≡ true)
    → position_or_len p xs ≤ position_or_len q xs
weaker_first p q [] weaker = omega arith
weaker_first p q (x ∷ xs) weaker = at (p x) (q x) refl refl (weaker_first p q xs weaker)
  where
    at : (b c : Bool) → p x ≡ b → q x ≡ c → position_or_len p xs ≤ position_or_len q xs
        → cond (not b) (1 + position_or_len p xs) 0 ≤ cond (not c) (1 + position_or_len q xs) 0
    at true c e f ih = omega arith
    at false true e f ih = absurd (both_ways (p x) e (weaker x f))
    at false false e f ih = omega (arith, ih)

-- no clique before a variable's start holds an event that names it
own_start : (cliques : List VarSet) (starts : List ℕ) (x : ℕ) (event : List Pair)
    → AreStarts cliques starts
    → ((set : VarSet) → holds_event event set ≡ true → is_member set x ≡ true)
    → get_or starts x 0 ≤ position_or_len (holds_event event) cliques
own_start cliques starts x event are named = at (cases_lt x max_variables)
  where
    at : ((x < max_variables) ⊎ (max_variables ≤ x))
        → get_or starts x 0 ≤ position_or_len (holds_event event) cliques
    at (inl small) =
        let first = are.first x small in
        let weaker = weaker_first (λ (set : VarSet). is_member set x) (holds_event event) cliques
        named in
        omega (arith, first, weaker)
    at (inr large) =
        let count = are.one_each in
        let none = get_or_past starts x 0 (omega (arith, count, large)) in
        omega (arith, none)

-- nor any before the greatest start
greatest_start : (cliques : List VarSet) (starts : List ℕ) (event pairs : List Pair) (n : ℕ)
    → AreStarts cliques starts
    → ((set : VarSet) → holds_event event set ≡ true → holds_event pairs set ≡ true)
    → n ≤ position_or_len (holds_event event) cliques
    → fold (λ (m : ℕ) (p : Pair). max m (get_or starts p.variable 0)) n pairs
    ≤ position_or_len (holds_event event) cliques
greatest_start cliques starts event [] n are named early = early
greatest_start cliques starts event (p ∷ pairs) n are named early =
    greatest_start cliques starts event pairs (max n (get_or starts p.variable 0)) are
    (λ set held. (and_parts (is_member set p.variable) (holds_event pairs set)
    (named set held)).1)
    (max-le early (own_start cliques starts p.variable event are (λ set held.
    (and_parts (is_member set p.variable) (holds_event pairs set) (named set held)).0)))

-- so none before an event's start does
pub start_is_early : (cliques : List VarSet) (starts : List ℕ) (event : List Pair)
    → AreStarts cliques starts
    → event_start starts event ≤ position_or_len (holds_event event) cliques
start_is_early cliques starts event are =
    greatest_start cliques starts event event 0 are (λ set held. held) (omega arith)

-- and the start is no further than the end of the cliques
pub start_within : (cliques : List VarSet) (starts : List ℕ) (event : List Pair)
    → AreStarts cliques starts → event_start starts event ≤ length cliques
start_within cliques starts event are =
    let early = start_is_early cliques starts event are in
    let within = prefix_len-le-length (λ (set : VarSet). not (holds_event event set)) cliques in
    omega (arith, early, within)

-- a search for an event that begins at its start
pub found_from_start : (cliques rest : List VarSet) (starts : List ℕ) (event : List Pair)
    (start : ℕ) (found : Option ℕ) → AreStarts cliques starts → start ≡ event_start starts event
    → rest ≡ drop start cliques → found ≡ position (holds_event event) rest
    → option_map (λ (k : ℕ). start + k) found ≡ position (holds_event event) cliques
found_from_start cliques rest starts event start found are at behind first =
    rw (first, behind, at) (found_behind (holds_event event) (event_start starts event) cliques
    (start_is_early cliques starts event are))
