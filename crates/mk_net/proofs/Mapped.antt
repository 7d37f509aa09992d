-- Tests of each, of any and of the first item of a list, where the items are read by a function.
use Rattle.std.specs.Prelude.{◌≡◌, ℕ, ◌+◌, ◌≤◌, List, [], ◌∷◌, map, length, Bool, true, false, ◌&&◌, ◌||◌, cond, not, nat_lt, Some, None, position}
use Rattle.std.specs.List.{list_all, list_any, position_or_len}
use Rattle.std.proofs.lemmas.List.{length-map}
use Rattle.std.proofs.Common.{refl, ap, arith}

pub any_of_map : {X Y : Type 0} (f : X → Y) (p : Y → Bool) (xs : List X) → list_any p (map f xs) ≡ list_any (λ (x : X). p (f x)) xs
any_of_map f p [] = refl
any_of_map f p (x ∷ xs) = ap (λ (b : Bool). p (f x) || b) (any_of_map f p xs)

pub all_of_map : {X Y : Type 0} (f : X → Y) (p : Y → Bool) (xs : List X) → list_all p (map f xs) ≡ list_all (λ (x : X). p (f x)) xs
all_of_map f p [] = refl
all_of_map f p (x ∷ xs) = ap (λ (b : Bool). p (f x) && b) (all_of_map f p xs)

pub place_of_map : {X Y : Type 0} (f : X → Y) (p : Y → Bool) (xs : List X) →
    position_or_len p (map f xs) ≡ position_or_len (λ (x : X). p (f x)) xs
place_of_map f p [] = refl
place_of_map f p (x ∷ xs) = rw (place_of_map f p xs) refl

pub position_of_map : {X Y : Type 0} (f : X → Y) (p : Y → Bool) (xs : List X) → position p (map f xs) ≡ position (λ (x : X). p (f x)) xs
position_of_map f p xs = rw (place_of_map f p xs, length-map xs f) refl

found_by : (length place n : ℕ) (b : Bool) → cond b (Some place) None ≡ Some n → place ≡ n
found_by length place n true h = cc
found_by length place n false h = cc

missed_by : (place : ℕ) (b : Bool) → cond b (Some place) None ≡ None → b ≡ false
missed_by place true h = cc
missed_by place false h = refl

place_within : {X : Type 0} (p : X → Bool) (xs : List X) → position_or_len p xs ≤ length xs
place_within p [] = omega arith
place_within p (x ∷ xs) = choose (p x) (place_within p xs)
  where
    choose : (b : Bool) → position_or_len p xs ≤ length xs → cond (not b) (1 + position_or_len p xs) 0 ≤ length (x ∷ xs)
    choose true h = omega arith
    choose false h = omega arith

-- the first place, where it was found and where it was not
pub place_found : {X : Type 0} (p : X → Bool) (xs : List X) (n : ℕ) → position p xs ≡ Some n → position_or_len p xs ≡ n
place_found p xs n h = found_by (length xs) (position_or_len p xs) n (nat_lt (position_or_len p xs) (length xs)) h

pub place_missed : {X : Type 0} (p : X → Bool) (xs : List X) → position p xs ≡ None → position_or_len p xs ≡ length xs
place_missed p xs h =
    let past : nat_lt (position_or_len p xs) (length xs) ≡ false = missed_by (position_or_len p xs) (nat_lt (position_or_len p xs) (length xs)) h in
    let within = place_within p xs in
    grind (arith, past)
