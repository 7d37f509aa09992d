-- What is known of a whole distribution that is asked about in words, and of one that meets none of its refusals.
use Rattle.std.proofs.Common.{◌≡◌, ℕ, ◌+◌, ◌<◌, ◌≤◌, Bool, true, false, not, ◌&&◌, leb, cond, List, [], ◌∷◌, length, sum, Option, Some, None, refl, sym, ap, ◌∙◌, subst, arith}
use Rattle.std.specs.Prelude.{◌==◌, option_map, option_and_then, find}
use Rattle.std.specs.List.{AllByRecursion, enumerate_from, cons_option}
use Rattle.std.proofs.lemmas.Bool.{eqb-true, leb-true, and_parts}
use Rattle.mk_net.specs.declared.words.Pair.{Pair}
use Rattle.mk_net.specs.declared.words.PairText.{PairText}
use Rattle.mk_net.specs.Bounds.{million}
use Rattle.mk_net.specs.Network.{Variable}
use Rattle.mk_net.specs.Named.{pair_named, variable_named}
use Rattle.mk_net.proofs.Named.{pair_variable_in_range, pair_value_in_range}
use Rattle.mk_exact.specs.History.{Entry}
use Rattle.mk_exact.specs.Market.{Market}
use Rattle.mk_states.specs.OfNetwork.{IsPairOf}
use Rattle.mk_states.proofs.Sums.{each_weaker}
use Rattle.mk_spread.specs.Spreads.{SpreadAsked, IsSpreadOf}
use Rattle.mk_rules.specs.Refusals.{spread_named, known_pairs, variables_in, is_wide, wide, wide_spread, ranges, sums}
use Rattle.mk_rules.proofs.Unrefused.{not_faulted, not_mapped}

-- what is found among variables that are counted from n on is counted below their end
found_below : (test : ℕ × Variable → Bool) (n : ℕ) (vs : List Variable) (k : ℕ) (v : Variable) → find test (enumerate_from n vs) ≡ Some (k, v) → k < n + length vs
found_below test n [] k v h = cc
found_below test n (x ∷ vs) k v h = at (test (n, x)) (found_below test (n + 1) vs k v) h
  where
    at : (b : Bool) → (find test (enumerate_from (n + 1) vs) ≡ Some (k, v) → k < n + 1 + length vs)
        → cond b (Some (n, x)) (find test (enumerate_from (n + 1) vs)) ≡ Some (k, v) → k < n + length (x ∷ vs)
    at true later h = let same : n ≡ k = ap (λ (o : Option (ℕ × Variable)). elim o [ None ↦ n | Some t ↦ t.0 ]) h in omega arith
    at false later h = let inside = later h in omega arith

-- the pairs that are known are the network's
known_fit : (network : List Variable) (ps : List PairText) → AllByRecursion (IsPairOf network) (known_pairs network ps)
known_fit network [] = tt
known_fit network (p ∷ ps) = at (pair_named network p) refl (known_fit network ps)
  where
    at : (o : Option Pair) → pair_named network p ≡ o → AllByRecursion (IsPairOf network) (known_pairs network ps) → AllByRecursion (IsPairOf network) (cons_option o (known_pairs network ps))
    at None e h = h
    at (Some pair) e h = (record { variable = pair_variable_in_range network p pair (sym e); value = pair_value_in_range network p pair (sym e) }, h)

-- the variable and the condition of a distribution in words
pub spread_parts : (network : List Variable) (v : List ℕ) (pairs : List PairText) (spread : SpreadAsked) → spread_named network v pairs ≡ Some spread
    → (x : Variable) × (variable_named network v ≡ Some (spread.variable, x)) × (spread.condition ≡ known_pairs network pairs)
spread_parts network v pairs spread h = at (variable_named network v) refl h
  where
    at : (o : Option (ℕ × Variable)) → variable_named network v ≡ o
        → option_map (λ (numbered : ℕ × Variable). record { variable = numbered.0; condition = known_pairs network pairs }) o ≡ Some spread
        → (x : Variable) × (variable_named network v ≡ Some (spread.variable, x)) × (spread.condition ≡ known_pairs network pairs)
    at None e h = cc
    at (Some numbered) e h =
        let same : record { variable = numbered.0; condition = known_pairs network pairs } ≡ spread = cc in
        (numbered.1, e ∙ ap (λ (s : SpreadAsked). Some (s.variable, numbered.1)) same, ap (λ (s : SpreadAsked). s.condition) (sym same))

-- they are the network's
pub spread_is : (network : List Variable) (v : List ℕ) (pairs : List PairText) (spread : SpreadAsked) → spread_named network v pairs ≡ Some spread → IsSpreadOf network spread
spread_is network v pairs spread h =
    let parts = spread_parts network v pairs spread h in
    let inside : spread.variable < 0 + length network = found_below _ 0 network spread.variable parts.0 parts.1 in
    record { variable = omega arith; condition = subst (AllByRecursion (IsPairOf network)) (sym parts.2) (known_fit network pairs) }

-- a distribution that is not wide
pub spread_not_wide : (market : Market) (H : List Entry) (v : List ℕ) (pairs : List PairText) (spread : SpreadAsked) → spread_named market.network v pairs ≡ Some spread
    → wide_spread market H v pairs ≡ None → is_wide market.cliques (spread.variable ∷ variables_in spread.condition) ≡ false
spread_not_wide market H v pairs spread named h = not_faulted _ _
    (subst (λ (o : Option SpreadAsked). option_and_then (λ (s : SpreadAsked). wide market.cliques (s.variable ∷ variables_in s.condition)) o ≡ None) named h)

-- where none passes a test, each fails it
pub none_found : {X : Type 0} (test : X → Bool) (xs : List X) → find test xs ≡ None → AllByRecursion (λ x. test x ≡ false) xs
none_found test [] h = tt
none_found test (x ∷ xs) h = at (test x) refl (none_found test xs) h
  where
    at : (b : Bool) → test x ≡ b → (find test xs ≡ None → AllByRecursion (λ x. test x ≡ false) xs) → cond b (Some x) (find test xs) ≡ None → AllByRecursion (λ x. test x ≡ false) (x ∷ xs)
    at true e later h = cc
    at false e later h = (e, later h)

-- numbers that are in range
pub numbers_in_range : (least most : ℕ) (numbers : List ℕ) → ranges least most numbers ≡ None → AllByRecursion (λ n. (least ≤ n) × (n ≤ most)) numbers
numbers_in_range least most numbers h =
    each_weaker (λ n. not (leb least n && leb n most) ≡ false) (λ n. (least ≤ n) × (n ≤ most)) between numbers (none_found _ numbers (not_mapped _ _ h))
  where
    within : (b : Bool) → not b ≡ false → b ≡ true
    within true h = refl
    within false h = cc

    between : (n : ℕ) → not (leb least n && leb n most) ≡ false → (least ≤ n) × (n ≤ most)
    between n e = let parts = and_parts (leb least n) (leb n most) (within (leb least n && leb n most) e) in (leb-true least n parts.0, leb-true n most parts.1)

-- numbers that make a million
pub sum_is_million : (to : List ℕ) → sums to ≡ None → sum to ≡ million
sum_is_million to h = at (sum to == million) (eqb-true (sum to) million) (not_faulted _ _ h)
  where
    at : (b : Bool) → (b ≡ true → sum to ≡ million) → not b ≡ false → sum to ≡ million
    at true same h = same refl
    at false same h = cc
