-- A possible state where some pairs hold: each variable takes its pair's value, else its resolved value, else its first.
use Rattle.std.proofs.Common.{◌≡◌, ℕ, ◌<◌, ◌≤◌, Bool, true, false, cond, ◌&&◌, ◌||◌, eqb, List, [], ◌∷◌, map, filter, length, slice_index, refl, sym, ◌∙◌, subst, arith, eq-eqb}
use Rattle.std.specs.List.{range_with_len, list_any, AllByRecursion}
use Rattle.std.proofs.lemmas.Bool.{eqb-true, and_from, le-leb}
use Rattle.std.proofs.lemmas.List.FromFn.{get_or-map-range_with_len, length-map-range_with_len}
use Rattle.mk_net.specs.declared.words.Pair.{Pair}
use Rattle.mk_net.specs.Network.{Variable, sizes, IsNetwork}
use Rattle.mk_net.specs.Named.{nobody}
use Rattle.mk_net.specs.Zeros.{HasNoZeros}
use Rattle.mk_net.specs.Events.{speaks_of, AreApart}
use Rattle.mk_net.proofs.Events.{same_place, neither}
use Rattle.mk_states.specs.States.{states, IsState}
use Rattle.mk_states.specs.InitialWeight.{can_come, initial_weight, value_at}
use Rattle.mk_states.specs.Events.{has, holds}
use Rattle.mk_exact.specs.History.{Entry, resolutions}
use Rattle.mk_exact.specs.Weight.{is_possible, possible_states}
use Rattle.mk_states.specs.OfNetwork.{IsPairOf}
use Rattle.mk_exact.specs.Proper.{IsProper}
use Rattle.mk_exact.specs.Laws.{AgreesWith}
use Rattle.mk_states.proofs.Sums.{each_both, each_weaker}
use Rattle.mk_states.proofs.Listed.{as_many}
use Rattle.mk_exact.proofs.Comes.{is_listed}
use Rattle.mk_states.proofs.Shares.{size_at, weight_without_zeros}

-- the value that the first pair of a variable gives it, or another value where no pair does
abbrev value_in : List Pair → ℕ → ℕ → ℕ
value_in [] other v = other
value_in (p ∷ ps) other v = cond (eqb v p.variable) p.value (value_in ps other v)

abbrev chosen : List Pair → List Pair → ℕ → ℕ
chosen pairs resolved v = value_in pairs (value_in resolved 0 v) v

value_in_below : (network : List Variable) (v other : ℕ) (ps : List Pair) → AllByRecursion (IsPairOf network) ps → other < slice_index (sizes network) v
    → value_in ps other v < slice_index (sizes network) v
value_in_below network v other [] fits below = below
value_in_below network v other (p ∷ ps) fits below = at (eqb v p.variable) refl (value_in_below network v other ps fits.1 below)
  where
    at : (b : Bool) → eqb v p.variable ≡ b → value_in ps other v < slice_index (sizes network) v → cond b p.value (value_in ps other v) < slice_index (sizes network) v
    at true e rest = subst (λ (w : ℕ). p.value < slice_index (sizes network) w) (sym (eqb-true v p.variable e)) (fits.0).value
    at false e rest = rest

-- pairs that are apart each give their variable its value
others : (ps : List Pair) (x : ℕ) → speaks_of ps x ≡ false → AllByRecursion (λ (q : Pair). eqb q.variable x ≡ false) ps
others [] x none = tt
others (q ∷ ps) x none =
    let parts = neither (eqb x q.variable) (speaks_of ps x) none in
    (same_place x q.variable parts.0, others ps x parts.1)

held : (ps : List Pair) (other : ℕ → ℕ) → AreApart ps → AllByRecursion (λ (p : Pair). value_in ps (other p.variable) p.variable ≡ p.value) ps
held [] other apart = tt
held (p ∷ ps) other apart = (
  rw (eq-eqb p.variable p.variable refl) refl,
  each_weaker (λ (q : Pair). (eqb q.variable p.variable ≡ false) × (value_in ps (other q.variable) q.variable ≡ q.value))
      (λ (q : Pair). cond (eqb q.variable p.variable) p.value (value_in ps (other q.variable) q.variable) ≡ q.value)
      (λ q h. rw h.0 h.1) ps (each_both (λ (q : Pair). eqb q.variable p.variable ≡ false) (λ (q : Pair). value_in ps (other q.variable) q.variable ≡ q.value) ps (others ps p.variable apart.0) (held ps other apart.1)),
)

-- pairs that agree with another do not take its variable's value away
agreed : (r : Pair) (other : ℕ) (ps : List Pair) → AllByRecursion (λ p. AgreesWith p r) ps → other ≡ r.value → value_in ps other r.variable ≡ r.value
agreed r other [] agree same = same
agreed r other (p ∷ ps) agree same = at (eqb r.variable p.variable) refl (agreed r other ps agree.1 same)
  where
    at : (b : Bool) → eqb r.variable p.variable ≡ b → value_in ps other r.variable ≡ r.value → cond b p.value (value_in ps other r.variable) ≡ r.value
    at true e rest = sym (agree.0 (eqb-true r.variable p.variable e))
    at false e rest = rest

turned : {X Y : Type 0} (R : X → Y → Type 0) (xs : List X) (ys : List Y) → AllByRecursion (λ x. AllByRecursion (R x) ys) xs → AllByRecursion (λ y. AllByRecursion (λ x. R x y) xs) ys
turned R xs [] h = tt
turned R xs (y ∷ ys) h = (
  each_weaker (λ x. AllByRecursion (R x) (y ∷ ys)) (λ x. R x y) (λ x k. k.0) xs h,
  turned R xs ys (each_weaker (λ x. AllByRecursion (R x) (y ∷ ys)) (λ x. AllByRecursion (R x) ys) (λ x k. k.1) xs h),
)

all_hold : (ps : List Pair) (s : List ℕ) → AllByRecursion (λ (p : Pair). value_at s p.variable ≡ p.value) ps → holds ps s ≡ true
all_hold [] s h = refl
all_hold (p ∷ ps) s h = and_from (has p s) (holds ps s) (eq-eqb (value_at s p.variable) p.value h.0) (all_hold ps s h.1)

kept_twice : {X : Type 0} (p q : X → Bool) (xs : List X) → list_any (λ x. p x && q x) xs ≡ true → 1 ≤ length (filter q (filter p xs))
kept_twice p q [] h = absurd (cc)
kept_twice p q (x ∷ xs) h = at (p x) (q x) refl h (kept_twice p q xs)
  where
    at : (b c : Bool) → q x ≡ c → (b && c) || list_any (λ x. p x && q x) xs ≡ true → (list_any (λ x. p x && q x) xs ≡ true → 1 ≤ length (filter q (filter p xs)))
        → 1 ≤ length (filter q (cond b (x ∷ filter p xs) (filter p xs)))
    at true true e h rest = rw e (omega arith)
    at true false e h rest = rw e (rest h)
    at false c e h rest = rest h

module _ (network : List Variable) (H : List Entry) (pairs : List Pair) (net : IsNetwork network) (none : HasNoZeros network) (proper : IsProper network H) (fits : AllByRecursion (IsPairOf network) pairs) where
  s : List ℕ
  s = map (chosen pairs (resolutions H)) (range_with_len 0 (length network))

  value_is : (v : ℕ) → v < length network → value_at s v ≡ chosen pairs (resolutions H) v
  unfolding s
  value_is v within = get_or-map-range_with_len (chosen pairs (resolutions H)) 0 (length network) v v 0 within (omega arith)

  is_state : IsState (sizes network) s
  unfolding s
  is_state = record { one_each = length-map-range_with_len (chosen pairs (resolutions H)) 0 (length network) ∙ sym (as_many network); in_range = at }
    where
      at : (k : ℕ) → k < length (sizes network) → value_at s k < slice_index (sizes network) k
      at k h = rw (value_is k within) (value_in_below network k _ pairs fits (value_in_below network k 0 (resolutions H) proper.resolutions_fit (omega (arith, size_at network net k within, (net.each k nobody within).two_values))))
        where
          within : k < length network
          within = omega (arith, as_many network)

  with_values : (ps : List Pair) → AllByRecursion (IsPairOf network) ps → AllByRecursion (λ (p : Pair). chosen pairs (resolutions H) p.variable ≡ p.value) ps → holds ps s ≡ true
  with_values ps in_range values = all_hold ps s
      (each_weaker (λ (p : Pair). IsPairOf network p × (chosen pairs (resolutions H) p.variable ≡ p.value)) (λ (p : Pair). value_at s p.variable ≡ p.value) (λ p h. value_is p.variable (h.0).variable ∙ h.1) ps
      (each_both (IsPairOf network) (λ (p : Pair). chosen pairs (resolutions H) p.variable ≡ p.value) ps in_range values))

  pub state_remains : AreApart pairs → AllByRecursion (λ p. AllByRecursion (AgreesWith p) (resolutions H)) pairs → 1 ≤ length (possible_states network H (holds pairs))
  state_remains apart agree = kept_twice (can_come network) (λ t. is_possible H t && holds pairs t) (states (sizes network))
      (is_listed (sizes network) s (λ t. can_come network t && (is_possible H t && holds pairs t)) is_state
      (and_from (can_come network s) (is_possible H s && holds pairs s) (le-leb 1 (initial_weight network s) (weight_without_zeros network net s is_state none))
      (and_from (is_possible H s) (holds pairs s)
      (with_values (resolutions H) proper.resolutions_fit resolved)
      (with_values pairs fits (held pairs (value_in (resolutions H) 0) apart)))))
    where
      resolved : AllByRecursion (λ (r : Pair). chosen pairs (resolutions H) r.variable ≡ r.value) (resolutions H)
      resolved = each_weaker (λ (r : Pair). AllByRecursion (λ p. AgreesWith p r) pairs × (value_in (resolutions H) 0 r.variable ≡ r.value)) (λ (r : Pair). chosen pairs (resolutions H) r.variable ≡ r.value)
          (λ r h. agreed r (value_in (resolutions H) 0 r.variable) pairs h.0 h.1) (resolutions H)
          (each_both (λ (r : Pair). AllByRecursion (λ p. AgreesWith p r) pairs) (λ (r : Pair). value_in (resolutions H) 0 r.variable ≡ r.value) (resolutions H)
          (turned AgreesWith pairs (resolutions H) agree) (held (resolutions H) (λ v. 0) proper.resolved_once))
