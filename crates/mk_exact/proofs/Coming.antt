-- What can come in a history, read off its possible states, off a user's least gain, off its weight, and off the sides of a question.
use Rattle.std.proofs.Common.{◌≡◌, ℕ, ◌+◌, ◌≤◌, Bool, true, false, cond, not, ◌&&◌, ◌⊎◌, inl, inr, eqb, List, [], ◌∷◌, length, sum_by, Option, Some, None, refl, sym, ap, ap₂, ◌∙◌, arith, ne_eqb}
use Rattle.std.proofs.Math.Path.{fun_ext}
use Rattle.std.proofs.lemmas.Bool.{cases_lt, and_parts, eqb-true}
use Rattle.std.proofs.lemmas.List.Sums.{length-filter}
use Rattle.mk_net.specs.Network.{Variable, IsNetwork}
use Rattle.mk_net.specs.Asked.{Asked}
use Rattle.mk_states.specs.InitialWeight.{all_states}
use Rattle.mk_states.specs.Events.{holds, has, with_target, without_target}
use Rattle.mk_exact.specs.History.{Entry}
use Rattle.mk_exact.specs.Weight.{weight, total, is_possible, possible_states, cannot_come}
use Rattle.mk_exact.specs.Factors.{gain, lesser, least_by, least_gain}
use Rattle.mk_exact.specs.Proper.{IsProper}
use Rattle.mk_states.proofs.Sums.{sum_by-plus}
use Rattle.mk_exact.proofs.ExistMarkets.{passing_stay, total_positive}

none_long : {X : Type 0} (xs : List X) → eqb (length xs) 0 ≡ true → xs ≡ []
none_long [] e = refl
none_long (x ∷ xs) e = absurd (let no = eqb-true (length (x ∷ xs)) 0 e in omega arith)

some_long : {X : Type 0} (xs : List X) → eqb (length xs) 0 ≡ false → 1 ≤ length xs
some_long [] e = absurd (cc)
some_long (x ∷ xs) e = omega arith

least_none : {X : Type 0} (f : X → ℕ) (xs : List X) → least_by f xs ≡ None → xs ≡ []
least_none f [] e = refl
least_none {X} f (x ∷ xs) e = absurd (some (least_by f xs) e)
  where
    some : (o : Option ℕ) → lesser (Some (f x)) o ≡ None → ⊥
    some None e = cc
    some (Some n) e = cc

module _ (network : List Variable) (H : List Entry) (test : List ℕ → Bool) where
  -- what can come has a possible state
  pub state_of : cannot_come network H test ≡ false → 1 ≤ length (possible_states network H test)
  state_of e = some_long (possible_states network H test) e

  pub comes_in : 1 ≤ length (possible_states network H test) → cannot_come network H test ≡ false
  comes_in h = ne_eqb (length (possible_states network H test)) 0 (λ e. omega arith)

  -- what cannot come has none
  pub no_state_of : cannot_come network H test ≡ true → possible_states network H test ≡ []
  no_state_of e = none_long (possible_states network H test) e

  pub comes_never : possible_states network H test ≡ [] → cannot_come network H test ≡ true
  comes_never e = rw e refl

  -- and no least gain
  pub no_least_of : (u : ℕ) → cannot_come network H test ≡ true → least_gain network H u test ≡ None
  no_least_of u e = ap (least_by (gain H u)) (no_state_of e)

  pub never_by_least : (u : ℕ) → least_gain network H u test ≡ None → cannot_come network H test ≡ true
  never_by_least u e = comes_never (least_none (gain H u) (possible_states network H test) e)

  -- and no weight
  pub no_weight_of : cannot_come network H test ≡ true → total network H test ≡ 0
  no_weight_of e = ap (sum_by (weight network H)) (no_state_of e)

  pub never_by_weight : IsNetwork network → IsProper network H → total network H test ≡ 0 → cannot_come network H test ≡ true
  never_by_weight net proper e = at (cannot_come network H test) refl
    where
      at : (b : Bool) → cannot_come network H test ≡ b → cannot_come network H test ≡ true
      at true is = is
      at false is = absurd (let h = total_positive network H net proper test (state_of is) in omega arith)

  pub weight_of : IsNetwork network → IsProper network H → cannot_come network H test ≡ false → 1 ≤ total network H test
  weight_of net proper e = total_positive network H net proper test (state_of e)

-- a question's condition can come exactly where one of its sides can
module _ (network : List Variable) (H : List Entry) (asked : Asked) where
  pub condition_of_hit : 1 ≤ length (possible_states network H (with_target asked)) → 1 ≤ length (possible_states network H (holds asked.condition))
  condition_of_hit = passing_stay network H (with_target asked) (holds asked.condition) (λ s e. (and_parts (holds asked.condition s) (has asked.target s) e).0)

  pub condition_of_miss : 1 ≤ length (possible_states network H (without_target asked)) → 1 ≤ length (possible_states network H (holds asked.condition))
  condition_of_miss = passing_stay network H (without_target asked) (holds asked.condition) (λ s e. (and_parts (holds asked.condition s) (not (has asked.target s)) e).0)

  pub side_of_condition : 1 ≤ length (possible_states network H (holds asked.condition))
      → (1 ≤ length (possible_states network H (with_target asked))) ⊎ (1 ≤ length (possible_states network H (without_target asked)))
  side_of_condition h = elim (cases_lt (length (possible_states network H (with_target asked))) 1)
      [ inr hit ↦ inl hit | inl none ↦ inr (omega (arith, as_many)) ]
    where
      by_parts : (p h t : Bool) → cond (p && h) 1 0 ≡ cond (p && (h && t)) 1 0 + cond (p && (h && not t)) 1 0
      by_parts false h t = refl
      by_parts true false t = refl
      by_parts true true false = refl
      by_parts true true true = refl

      counted : (test : List ℕ → Bool) → length (possible_states network H test) ≡ sum_by (λ s. cond (is_possible H s && test s) 1 0) (all_states network)
      counted test = length-filter (λ s. is_possible H s && test s) (all_states network)

      as_many : length (possible_states network H (holds asked.condition)) ≡ length (possible_states network H (with_target asked)) + length (possible_states network H (without_target asked))
      as_many = counted (holds asked.condition)
          ∙ ap (λ (f : List ℕ → ℕ). sum_by f (all_states network)) (fun_ext (λ s. by_parts (is_possible H s) (holds asked.condition s) (has asked.target s)))
          ∙ sum_by-plus (λ s. cond (is_possible H s && with_target asked s) 1 0) (λ s. cond (is_possible H s && without_target asked s) 1 0) (all_states network)
          ∙ ap₂ ◌+◌ (sym (counted (with_target asked))) (sym (counted (without_target asked)))
