-- Pairs are sure exactly where none of them can fail.
use Rattle.std.proofs.Common.{◌≡◌, ℕ, zero, suc, ◌<◌, ◌≤◌, Bool, true, false, ◌&&◌, not, List, []}
use Rattle.std.proofs.Common.{◌∷◌, length, get_or, ◌⊎◌, inl, inr, refl, arith}
use Rattle.std.specs.List.{AllByRecursion}
use Rattle.std.proofs.lemmas.Bool.{cases_lt}
use Rattle.mk_net.specs.declared.words.Pair.{Pair}
use Rattle.mk_net.specs.Network.{Variable}
use Rattle.mk_states.specs.Events.{has, holds, always}
use Rattle.mk_exact.specs.History.{Entry}
use Rattle.mk_exact.specs.Weight.{total}
use Rattle.mk_beliefs.proofs.Weighed.{cases_are_all}
use Rattle.mk_best.proofs.Sums.{total_narrow}

swapped : (a b : Bool) → (a && b) ≡ true → (b && a) ≡ true
swapped true true e = refl
swapped true false e = e
swapped false true e = e
swapped false false e = e

second : (a b : Bool) → (a && b) ≡ true → b ≡ true
second true b e = e
second false b e = absurd (cc)

first : (a b : Bool) → (a && b) ≡ true → a ≡ true
first true b e = refl
first false b e = e

-- a state with each pair has any of them
has_each : (pairs : List Pair) (d : Pair) (i : ℕ) → i < length pairs → (s : List ℕ)
    → holds pairs s ≡ true → has (get_or pairs i d) s ≡ true
has_each [] d i l s e = absurd (omega arith)
has_each (p ∷ ps) d zero l s e = first (has p s) (holds ps s) e
has_each (p ∷ ps) d (suc i) l s e = has_each ps d i (omega arith) s
    (second (has p s) (holds ps s) e)

module _ (network : List Variable) (H : List Entry) where
  -- what the states without a pair weigh
  abbrev pub fails : Pair → ℕ
  fails p = total network H (λ s. not (has p s))

  pub all_sure : (pairs : List Pair) → AllByRecursion (λ p. fails p ≡ 0) pairs
      → total network H (holds pairs) ≡ total network H always
  all_sure [] h = refl
  all_sure (p ∷ ps) h =
      let before = all_sure ps h.1 in
      let cases = cases_are_all network H (record { target = p; condition = ps }) in
      let misses = total_narrow network H (λ s. not (has p s)) (λ s. holds ps s && not (has p s))
      (λ s e. second (holds ps s) (not (has p s)) e) in
      let hits = total_narrow network H (holds (p ∷ ps)) (λ s. holds ps s && has p s)
      (λ s e. swapped (holds ps s) (has p s) e) in
      let most = total_narrow network H always (holds (p ∷ ps)) (λ s e. refl) in
      let none = h.0 in
      omega (arith, before, cases, misses, hits, most, none)

  pub one_fails : (pairs : List Pair) (d : Pair) (i : ℕ) → i < length pairs
      → 1 ≤ fails (get_or pairs i d) → total network H (holds pairs) < total network H always
  one_fails pairs d i l some =
      let p = get_or pairs i d in
      let cases = cases_are_all network H (record { target = p; condition = [] }) in
      let hits = total_narrow network H (λ s. has p s) (holds pairs)
      (λ s e. has_each pairs d i l s e) in
      omega (arith, cases, hits, some)

pub some_of : (n : ℕ) (b : Bool) → (n ≡ 0 → b ≡ false) → b ≡ true → 1 ≤ n
some_of zero b none e = absurd (let f = none refl in cc)
some_of (suc n) b none e = omega arith

pub less_unless : (v w : ℕ) (b : Bool) → v ≤ w → (v ≡ w → b ≡ true) → b ≡ false → v < w
less_unless v w b at_most same e = at (cases_lt v w)
  where
    at : (v < w) ⊎ (w ≤ v) → v < w
    at (inl l) = l
    at (inr l) = absurd (let f = same (omega (arith, at_most, l)) in cc)
