-- The state that resolutions leave.
use Rattle.std.proofs.Common.{◌≡◌, ◌≢◌, ℕ, ◌<◌, ◌≤◌, Bool, true, false, ◌&&◌, ◌||◌}
use Rattle.std.proofs.Common.{cond, eqb, List, [], ◌∷◌, map, length, refl, sym, ap}
use Rattle.std.proofs.Common.{◌∙◌, subst, arith, eq-eqb}
use Rattle.std.specs.List.{AllByRecursion}
use Rattle.std.proofs.lemmas.Bool.{and_parts, eqb-true}
use Rattle.std.proofs.lemmas.List.{ext_get_or}
use Rattle.std.proofs.lemmas.List.Elements.{recursion_from_All}
use Rattle.std.proofs.lemmas.List.FromFn.{length-map-range_with_len, get_or-map-range_with_len}
use Rattle.mk_net.specs.declared.words.Pair.{Pair}
use Rattle.mk_net.specs.Events.{speaks_of}
use Rattle.mk_net.specs.Network.{Variable, IsNetwork, sizes}
use Rattle.mk_states.specs.States.{IsState, numbers_below}
use Rattle.mk_states.specs.InitialWeight.{all_states, initial_weight, value_at}
use Rattle.mk_states.specs.Events.{always, has, holds}
use Rattle.mk_states.proofs.Listed.{all_can, as_many}
use Rattle.mk_states.proofs.Sums.{each_weaker, kept_each}
use Rattle.mk_exact.specs.History.{Entry}
use Rattle.mk_exact.specs.Proper.{IsProper}
use Rattle.mk_exact.specs.Weight.{is_possible, possible_states}
use Rattle.mk_exact.specs.Existing.{HasOutcome}
use Rattle.mk_exact.proofs.ExistOutcome.{outcome_exists}
use Rattle.mk_replay.specs.ByRule.{AreResolved}
use Rattle.mk_replay.specs.inner.Dues.{value_given}

-- ---- a state that has the pairs has the values that they give

value_held : (ps : List Pair) (s : List ℕ) (v : ℕ) → holds ps s ≡ true → speaks_of ps v ≡ true
    → value_at s v ≡ value_given ps v
value_held [] s v h spoken = absurd (cc)
value_held (p ∷ ps) s v h spoken =
    let parts = and_parts (has p s) (holds ps s) h in
    at (eqb p.variable v) refl (parts.0) (value_held ps s v (parts.1))
  where
    behind : (b : Bool) → eqb v p.variable ≡ b → p.variable ≢ v
        → (b || speaks_of ps v) ≡ true → speaks_of ps v ≡ true
    behind true e other k = absurd (other (sym (eqb-true v p.variable e)))
    behind false e other k = k

    at : (b : Bool) → eqb p.variable v ≡ b → has p s ≡ true
        → (speaks_of ps v ≡ true → value_at s v ≡ value_given ps v)
        → value_at s v ≡ cond b p.value (value_given ps v)
    at true e here rest = ap (value_at s) (sym (eqb-true p.variable v e))
        ∙ eqb-true (value_at s p.variable) p.value here
    at false e here rest = rest
        (behind (eqb v p.variable) refl (λ same. let i = eq-eqb p.variable v same in cc) spoken)

state_given : (ps : List Pair) (n : ℕ) (s : List ℕ) → length s ≡ n → holds ps s ≡ true
    → ((v : ℕ) → v < n → speaks_of ps v ≡ true) → s ≡ map (value_given ps) (numbers_below n)
state_given ps n s long h spoken =
    ext_get_or 0 s (map (value_given ps) (numbers_below n))
    (long ∙ sym (length-map-range_with_len (value_given ps) 0 n))
    (λ v within. value_held ps s v h (spoken v (omega arith))
    ∙ sym (get_or-map-range_with_len (value_given ps) 0 n v v 0 (omega arith) (omega arith)))

module _ (network : List Variable) (H : List Entry) (known : List Pair) (variables : ℕ)
    (net : IsNetwork network) (proper : IsProper network H)
    (are : AreResolved network H known variables) where
  abbrev Here : List ℕ → Type 0
  Here s = IsState (sizes network) s × (is_possible H s ≡ true)

  possible_are : AllByRecursion Here (possible_states network H always)
  possible_are = recursion_from_All Here (possible_states network H always)
      (kept_each (λ s. is_possible H s && true) Here (all_states network)
      (each_weaker (λ s. IsState (sizes network) s × (1 ≤ initial_weight network s))
      (λ s. (is_possible H s && true) ≡ true → Here s)
      (λ s good e. (good.0, (and_parts (is_possible H s) true e).0)) (all_states network)
      (all_can network)))

  is_outcome : HasOutcome network H
  is_outcome = outcome_exists network H net proper
      (λ v within. subst (λ (ps : List Pair). speaks_of ps v ≡ true) (sym are.resolved)
      (are.all v (omega (arith, within, are.one_each))))

  here : Here is_outcome.state
  here = (rw is_outcome.one_state at possible_are).0

  same : is_outcome.state ≡ map (value_given known) (numbers_below variables)
  same = state_given known variables is_outcome.state
      ((here.0).one_each ∙ as_many network ∙ are.one_each)
      (subst (λ (ps : List Pair). holds ps is_outcome.state ≡ true) are.resolved (here.1)) are.all

  -- where values were given to as many variables as there are, they are its state
  module _ (s : List ℕ) (given : ℕ) (all : given ≡ variables)
      (are_given : s ≡ map (value_given known) (numbers_below given)) where
    its_state : is_outcome.state ≡ s
    its_state =
        same ∙ sym (are_given ∙ ap (λ (n : ℕ). map (value_given known) (numbers_below n)) all)

    pub outcome_one : possible_states network H always ≡ s ∷ []
    outcome_one = is_outcome.one_state ∙ ap (λ t. t ∷ []) its_state

    pub outcome_state : IsState (sizes network) s
    outcome_state = subst (IsState (sizes network)) its_state (here.0)
