-- Sums over the states that pass a test, and over those that pass a narrower one.
use Rattle.std.proofs.Common.{◌≡◌, ℕ, ◌≤◌, Bool, true, false, cond, ◌&&◌, List, [], ◌∷◌}
use Rattle.std.proofs.Common.{filter, sum_by, refl, arith}
use Rattle.std.proofs.lemmas.List.Sums.{sum_by-cons}
use Rattle.mk_net.specs.Network.{Variable}
use Rattle.mk_exact.specs.History.{Entry}
use Rattle.mk_states.specs.InitialWeight.{all_states}
use Rattle.mk_exact.specs.Weight.{weight, total, is_possible}

narrow : {X : Type 0} (f : X → ℕ) (p q : X → Bool) → ((x : X) → q x ≡ true → p x ≡ true)
    → (xs : List X) → sum_by f (filter q xs) ≤ sum_by f (filter p xs)
narrow f p q h [] = omega arith
narrow {X} f p q h (x ∷ xs) = at (p x) (q x) (h x) (narrow f p q h xs)
  where
    at : (a b : Bool) → (b ≡ true → a ≡ true) → sum_by f (filter q xs) ≤ sum_by f (filter p xs)
        → sum_by f (cond b (x ∷ filter q xs) (filter q xs)) ≤ sum_by f
        (cond a (x ∷ filter p xs) (filter p xs))
    at true true k l = let a = sum_by-cons f x (filter q xs) in let b = sum_by-cons f x
        (filter p xs) in omega (arith, a, b, l)
    at true false k l = let b = sum_by-cons f x (filter p xs) in omega (arith, b, l)
    at false true k l = absurd (let e = k refl in cc)
    at false false k l = l

and_both : (a b c : Bool) → (b ≡ true → c ≡ true) → (a && b) ≡ true → (a && c) ≡ true
and_both true b c h e = h e
and_both false b c h e = e

-- the states that pass a narrower test weigh no more
pub total_narrow : (network : List Variable) (H : List Entry) (test other : List ℕ → Bool)
    → ((s : List ℕ) → other s ≡ true → test s ≡ true) → total network H other ≤ total network H test
total_narrow network H test other h =
    narrow (weight network H) (λ s. is_possible H s && test s) (λ s. is_possible H s && other s)
    (λ s e. and_both (is_possible H s) (other s) (test s) (h s) e) (all_states network)
