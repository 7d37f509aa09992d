-- In a proper history each question that can be asked has a price, two sides and right limits, and each user a least gain.
use Rattle.std.proofs.Common.{◌≡◌, ℕ, ◌<◌, ◌≤◌, min, Bool, true, false, cond, ◌&&◌, List, [], ◌∷◌, length, filter, sum_by, All, Option, Some, None, IfSome, refl, subst, inl, inr, arith, le_refl}
use Rattle.std.specs.Bool.{⊤}
use Rattle.std.specs.List.{AllByRecursion}
use Rattle.std.proofs.Math.Nat.{one-le-mul, one-le-pow}
use Rattle.std.proofs.lemmas.Bool.{cases_lt, and_from, and_parts}
use Rattle.std.proofs.lemmas.List.Sums.{sum_by-cons}
use Rattle.std.proofs.lemmas.List.Elements.{All-filter, recursion_from_All}
use Rattle.mk_net.specs.Network.{Variable, IsNetwork}
use Rattle.mk_net.specs.Asked.{Asked}
use Rattle.mk_states.specs.InitialWeight.{all_states}
use Rattle.mk_states.specs.Events.{holds, with_target, without_target, always}
use Rattle.mk_states.specs.Ratios.{unit}
use Rattle.mk_exact.specs.History.{Entry, withdrawn}
use Rattle.mk_exact.specs.Weight.{weight, total, is_possible, possible_states, IsSmall}
use Rattle.mk_exact.specs.Factors.{gain, trade_count, factor, factor_with, least_by, lesser, least_gain, IsAtLeastOne}
use Rattle.mk_exact.specs.Prices.{price_where, exact_price, CoversPrice}
use Rattle.mk_exact.specs.Limits.{Side, AreRight}
use Rattle.mk_exact.specs.Sound.{IsSound}
use Rattle.mk_exact.specs.Proper.{IsProper}
use Rattle.mk_exact.specs.Sides.{IsSide, AreRightLimits}
use Rattle.mk_exact.specs.Existing.{IsPositivePrice, IsPortion, IsSafeFactor, CanBeAsked, CanMove, HasPrice, HasLeast, IsOpenSide, HasSides}
use Rattle.mk_states.proofs.Sums.{each_kept, kept_each, each_weaker}
use Rattle.mk_exact.proofs.Positive.{weights_positive}
use Rattle.mk_exact.proofs.Totals.{total_condition}
use Rattle.mk_exact.proofs.ExistNumbers.{covers_in, price_is_covered}
use Rattle.mk_exact.proofs.ExistLimits.{right_in, limits_exist}

-- ---- lists

-- what passes a test passes a weaker one
more_kept : {X : Type 0} (p q : X → Bool) → ((x : X) → p x ≡ true → q x ≡ true) → (xs : List X) → length (filter p xs) ≤ length (filter q xs)
more_kept p q weaker [] = le_refl 0
more_kept p q weaker (x ∷ xs) = at (p x) (q x) (weaker x) (more_kept p q weaker xs)
  where
    at : (a b : Bool) → (a ≡ true → b ≡ true) → length (filter p xs) ≤ length (filter q xs) → length (cond a (x ∷ filter p xs) (filter p xs)) ≤ length (cond b (x ∷ filter q xs) (filter q xs))
    at true true h rest = omega arith
    at true false h rest = absurd (let e = h refl in cc)
    at false true h rest = omega arith
    at false false h rest = rest

at_least_length : {X : Type 0} (f : X → ℕ) (xs : List X) → AllByRecursion (λ x. 1 ≤ f x) xs → length xs ≤ sum_by f xs
at_least_length f [] h = omega arith
at_least_length f (x ∷ xs) h = omega (arith, h.0, at_least_length f xs h.1, sum_by-cons f x xs)

-- what holds of two numbers holds of the lesser
of_lesser : (P : ℕ → Type 0) (a b : ℕ) → P a → P b → P (min a b)
of_lesser P a b p q = elim (cases_lt a b) [ inl h ↦ subst P (first h) p | inr h ↦ subst P (second h) q ]
  where
    first : a < b → a ≡ min a b
    first h = omega arith

    second : b ≤ a → b ≡ min a b
    second h = omega arith

pub of_least : {X : Type 0} (f : X → ℕ) (P : ℕ → Type 0) (xs : List X) → AllByRecursion (λ x. P (f x)) xs → IfSome (least_by f xs) P
of_least f P [] h = tt
of_least {X} f P (x ∷ xs) h = at (least_by f xs) (of_least f P xs h.1)
  where
    at : (o : Option ℕ) → IfSome o P → IfSome (lesser (Some (f x)) o) P
    at None k = h.0
    at (Some m) k = of_lesser P (f x) m h.0 k

-- a list with an element has a least value, and what holds of each value holds of it
pub least_exists : {X : Type 0} (f : X → ℕ) (P : ℕ → Type 0) (xs : List X) → 1 ≤ length xs → AllByRecursion (λ x. P (f x)) xs → (m : ℕ) × (least_by f xs ≡ Some m) × P m
least_exists f P [] some h = absurd (omega arith)
least_exists {X} f P (x ∷ xs) some h = at (least_by f xs) (of_least f P xs h.1)
  where
    at : (o : Option ℕ) → IfSome o P → (m : ℕ) × (lesser (Some (f x)) o ≡ Some m) × P m
    at None k = (f x, refl, h.0)
    at (Some m) k = (min (f x) m, refl, of_lesser P (f x) m h.0 k)

-- ---- a market's possible states

pub safe_factor : (H : List Entry) (u g : ℕ) → IsAtLeastOne (factor_with H u g) → IsSafeFactor (factor_with H u g)
safe_factor H u g h = record { divides = one-le-mul (one-le-pow (withdrawn H u) 2 (omega arith)) (one-le-pow (trade_count H u) unit (omega arith)); at_least_one = h }

module _ (network : List Variable) (H : List Entry) where
  -- what holds of each possible state holds of each that passes a test
  each_passing : (P : List ℕ → Type 0) (test : List ℕ → Bool) → All P (possible_states network H always) → All P (possible_states network H test)
  each_passing P test h = kept_each (λ s. is_possible H s && test s) P (all_states network)
      (each_weaker (λ s. (is_possible H s && true) ≡ true → P s) (λ s. (is_possible H s && test s) ≡ true → P s)
      (λ s k e. k (and_from (is_possible H s) true (and_parts (is_possible H s) (test s) e).0 refl)) (all_states network)
      (each_kept (λ s. is_possible H s && true) P (all_states network) h))

  pub passing_stay : (p q : List ℕ → Bool) → ((s : List ℕ) → p s ≡ true → q s ≡ true) → 1 ≤ length (possible_states network H p) → 1 ≤ length (possible_states network H q)
  passing_stay p q weaker h =
      let more = more_kept (λ s. is_possible H s && p s) (λ s. is_possible H s && q s) both (all_states network) in
      omega arith
    where
      both : (s : List ℕ) → (is_possible H s && p s) ≡ true → (is_possible H s && q s) ≡ true
      both s e = and_from (is_possible H s) (q s) (and_parts (is_possible H s) (p s) e).0 (weaker s (and_parts (is_possible H s) (p s) e).1)

  pub total_positive : IsNetwork network → IsProper network H → (test : List ℕ → Bool) → 1 ≤ length (possible_states network H test) → 1 ≤ total network H test
  total_positive net proper test h =
      let sum = at_least_length (weight network H) (possible_states network H test)
      (recursion_from_All (λ s. 1 ≤ weight network H s) (possible_states network H test)
      (All-filter (λ s. is_possible H s && test s) (λ s. 1 ≤ weight network H s) (all_states network) (weights_positive network H net proper))) in
      omega arith

  -- the least gain over the states that pass a test
  pub least_where : (u : ℕ) (test : List ℕ → Bool) → 1 ≤ length (possible_states network H test)
      → (g : ℕ) × (least_gain network H u test ≡ Some g)
      × (IsSound network H → IsSafeFactor (factor_with H u g))
  least_where u test h = least_exists (gain H u) SafeOnceSound (possible_states network H test) h
      (each_weaker AtLeastOneOnceSound (λ s. SafeOnceSound (gain H u s))
      (λ s one sound. safe_factor H u (gain H u s) (one sound)) (possible_states network H test)
      (recursion_from_All AtLeastOneOnceSound (possible_states network H test)
      (each_passing AtLeastOneOnceSound test (λ k d inside sound. sound.solvent u k d inside))))
    where
      SafeOnceSound : ℕ → Type 0
      SafeOnceSound g = IsSound network H → IsSafeFactor (factor_with H u g)

      AtLeastOneOnceSound : List ℕ → Type 0
      AtLeastOneOnceSound s = IsSound network H → IsAtLeastOne (factor H u s)

  side_where : (u : ℕ) (asked : Asked) (test : List ℕ → Bool) → IsPositivePrice (price_where network H asked.condition test)
      → (g : ℕ) × (least_gain network H u test ≡ Some g)
      × (IsSound network H → IsSafeFactor (factor_with H u g))
      → (side : Side) × IsSide network H u asked test side × IsOpenSide (IsSound network H) side
  side_where u asked test price least = (side, is_side, record { price = price; least = least.2 })
    where
      side : Side
      side = record { price = price_where network H asked.condition test; least = factor_with H u (least.0) }

      is_side : IsSide network H u asked test side
      is_side = rw (least.1) refl

module _ (network : List Variable) (H : List Entry) (net : IsNetwork network) (proper : IsProper network H) where
  pub some_possible : 1 ≤ length (possible_states network H always)
  some_possible = proper.some_left

  pub least_exists_for : (u : ℕ) → HasLeast network H u
  least_exists_for u = at (least_where network H u always some_possible)
    where
      at : (g : ℕ) × (least_gain network H u always ≡ Some g)
          × (IsSound network H → IsSafeFactor (factor_with H u g)) → HasLeast network H u
      at l = record { least = l.0; is_least = l.1; safe = l.2 }

  module _ (asked : Asked) (open_for : CanBeAsked network H asked) where
    price_is : IsPortion (exact_price network H asked)
    price_is = record { divides = total_positive network H net proper (holds asked.condition) open_for.some_state; at_most_one = omega (arith, total_condition network H asked) }

    pub price_exists_for : (near : ℕ) → 2 ≤ near → HasPrice network H near asked
    price_exists_for near wide = at
        (price_is_covered near (exact_price network H asked) wide
        price_is.divides price_is.at_most_one)
      where
        at : (low : ℕ) × (high : ℕ) × CoversPrice ⊤ near (exact_price network H asked) low high
            → HasPrice network H near asked
        at c = record {
          exact = price_is;
          low = c.0;
          high = c.1;
          covers = covers_in (IsSmall network H) near (exact_price network H asked) (c.0) (c.1) (c.2);
        }

  module _ (asked : Asked) (moves : CanMove network H asked) where
    hit_price : IsPositivePrice (price_where network H asked.condition (with_target asked))
    hit_price = record { positive = total_positive network H net proper (with_target asked) moves.some_hit; at_most_one = omega (arith, total_condition network H asked) }

    miss_price : IsPositivePrice (price_where network H asked.condition (without_target asked))
    miss_price = record { positive = total_positive network H net proper (without_target asked) moves.some_miss; at_most_one = omega (arith, total_condition network H asked) }

    pub sides_exist_for : (u : ℕ) → HasSides network H u asked
    sides_exist_for u = at
        (side_where network H u asked (with_target asked) hit_price
        (least_where network H u (with_target asked) moves.some_hit))
        (side_where network H u asked (without_target asked) miss_price
        (least_where network H u (without_target asked) moves.some_miss))
      where
        OpenSide : (List ℕ → Bool) → Type 0
        OpenSide test = (side : Side) × IsSide network H u asked test side
            × IsOpenSide (IsSound network H) side

        at : OpenSide (with_target asked) → OpenSide (without_target asked)
            → HasSides network H u asked
        at h m = record { hit = h.0; miss = m.0; sides = record { hit_side = h.1; miss_side = m.1 }; hit_open = h.2; miss_open = m.2 }

    pub right_limits_exist_for : (u : ℕ)
        → (limits : Option (ℕ × ℕ)) × AreRightLimits network H u asked limits
    right_limits_exist_for u = at (sides_exist_for u)
      where
        of : (found : HasSides network H u asked) → (limits : Option (ℕ × ℕ)) × AreRight ⊤ found.hit found.miss limits → (limits : Option (ℕ × ℕ)) × AreRightLimits network H u asked limits
        of found l = (l.0, record { hit = found.hit; miss = found.miss; sides = found.sides; right = right_in (IsSmall network H) found.hit found.miss (l.0) (l.1) })

        at : HasSides network H u asked → (limits : Option (ℕ × ℕ)) × AreRightLimits network H u asked limits
        at found = of found (limits_exist found.hit found.miss found.hit_open.price found.miss_open.price)

pub price_exists : (network : List Variable) (H : List Entry) (near : ℕ) (asked : Asked) → 2 ≤ near
    → IsNetwork network → IsProper network H
    → CanBeAsked network H asked → HasPrice network H near asked
price_exists network H near asked wide net proper open_for =
    price_exists_for network H net proper asked open_for near wide

pub least_gain_exists : (network : List Variable) (H : List Entry) (u : ℕ) → IsNetwork network
    → IsProper network H → HasLeast network H u
least_gain_exists network H u net proper = least_exists_for network H net proper u

pub sides_exist : (network : List Variable) (H : List Entry) (u : ℕ) (asked : Asked)
    → IsNetwork network → IsProper network H
    → CanMove network H asked → HasSides network H u asked
sides_exist network H u asked net proper open_for =
    sides_exist_for network H net proper asked open_for u

pub right_limits_exist : (network : List Variable) (H : List Entry) (u : ℕ) (asked : Asked)
    → IsNetwork network → IsProper network H
    → CanMove network H asked → (limits : Option (ℕ × ℕ)) × AreRightLimits network H u asked limits
right_limits_exist network H u asked net proper open_for =
    right_limits_exist_for network H net proper asked open_for u
