-- The first pair with which, beside those before it, no possible state is left: in numbers and in words.
use Rattle.std.proofs.Common.{◌≡◌, ℕ, ◌+◌, Bool, true, false, cond, List, [], ◌∷◌, ◌++◌, Option, Some, None, is_none, slice_index_or, refl, sym, ap, subst, ◌∙◌, add-one, append_assoc}
use Rattle.std.specs.Prelude.{option_map}
use Rattle.std.specs.List.{cons_option}
use Rattle.std.proofs.lemmas.Bool.{and_from, and_parts}
use Rattle.std.proofs.lemmas.List.Elements.{filter_map-append}
use Rattle.mk_net.specs.declared.words.Pair.{Pair}
use Rattle.mk_net.specs.declared.words.PairText.{PairText}
use Rattle.mk_net.specs.Asked.{Asked}
use Rattle.mk_net.specs.Named.{pair_named}
use Rattle.mk_net.specs.Network.{Variable}
use Rattle.mk_states.specs.Events.{has, holds, with_target}
use Rattle.mk_exact.specs.History.{Entry}
use Rattle.mk_exact.specs.Proper.{IsProper}
use Rattle.mk_exact.specs.Weight.{cannot_come}
use Rattle.mk_exact.proofs.Coming.{state_of, comes_in}
use Rattle.mk_exact.proofs.ExistMarkets.{passing_stay}
use Rattle.mk_reply.specs.declared.refusal.Refusal.{Refusal}
use Rattle.mk_reply.specs.declared.refusal.Refusal.TheVariants.{Impossible}
use Rattle.mk_rules.specs.Refusals.{known_pairs, unknown, impossible_after, impossible_together}
use Rattle.mk_rules.proofs.Coming.{some_where}
use Rattle.mk_answers.specs.Results.{first_impossible}
use Rattle.mk_record.proofs.Refusing.{AllKnown, all_known_of}

-- what holds all of some pairs holds those in front
front_holds : (xs ys : List Pair) (s : List ℕ) → holds (xs ++ ys) s ≡ true → holds xs s ≡ true
front_holds [] ys s e = refl
front_holds (x ∷ xs) ys s e =
    let parts = and_parts (has x s) (holds (xs ++ ys) s) e in
    and_from (has x s) (holds xs s) parts.0 (front_holds xs ys s parts.1)

-- the refusal of a pair in words, by its place
abbrev pub refused_at : List PairText → PairText → Option ℕ → Option Refusal
refused_at words d found = option_map (λ (k : ℕ). Impossible (slice_index_or words k d)) found

-- a place behind one pair more
one_more : (p : PairText) (ps : List PairText) (d : PairText) (found : Option ℕ) → refused_at (p ∷ ps) d (option_map (λ k. k + 1) found) ≡ refused_at ps d found
one_more p ps d None = refl
one_more p ps d (Some k) = ap (λ n. Some (Impossible (slice_index_or (p ∷ ps) n d))) (add-one k)

module _ (network : List Variable) (H : List Entry) where
  same_place : (words : List PairText) (before : List Pair) (d : PairText) → AllKnown network words
      → refused_at words d (first_impossible network H before (known_pairs network words)) ≡ impossible_after network H before words
  same_place [] before d known = refl
  same_place (p ∷ ps) before d known = at (pair_named network p) known.0 (λ held. same_place ps held d known.1)
    where
      by : (b : Bool) (found : Option ℕ) (later : Option Refusal) → refused_at ps d found ≡ later
          → refused_at (p ∷ ps) d (cond b (Some 0) (option_map (λ k. k + 1) found)) ≡ cond b (Some (Impossible p)) later
      by true found later e = refl
      by false found later e = one_more p ps d found ∙ e

      at : (o : Option Pair) → is_none o ≡ false
          → ((held : List Pair) → refused_at ps d (first_impossible network H held (known_pairs network ps)) ≡ impossible_after network H held ps)
          → refused_at (p ∷ ps) d (first_impossible network H before (cons_option o (known_pairs network ps)))
          ≡ cond (cannot_come network H (holds (before ++ cons_option o []))) (Some (Impossible p)) (impossible_after network H (before ++ cons_option o []) ps)
      at None e later = cc
      at (Some x) e later =
          by (cannot_come network H (holds (before ++ x ∷ []))) (first_impossible network H (before ++ x ∷ []) (known_pairs network ps))
          (impossible_after network H (before ++ x ∷ []) ps) (later (before ++ x ∷ []))

  -- it is the same pair in both
  pub together_is : (words : List PairText) (pairs : List Pair) (d : PairText) → unknown network words ≡ None → pairs ≡ known_pairs network words
      → refused_at words d (first_impossible network H [] pairs) ≡ impossible_together network H words
  together_is words pairs d known e =
      ap (λ (ps : List Pair). refused_at words d (first_impossible network H [] ps)) e ∙ same_place words [] d (all_known_of network words known)

  front_comes : (xs ys : List Pair) → cannot_come network H (holds (xs ++ ys)) ≡ false → cannot_come network H (holds xs) ≡ false
  front_comes xs ys e = comes_in network H (holds xs) (passing_stay network H (holds (xs ++ ys)) (holds xs) (front_holds xs ys) (state_of network H (holds (xs ++ ys)) e))

  none_after : (words : List PairText) (before : List Pair) → cannot_come network H (holds (before ++ known_pairs network words)) ≡ false → impossible_after network H before words ≡ None
  none_after [] before e = refl
  none_after (p ∷ ps) before e = at _ (front_comes longer (known_pairs network ps) comes) (none_after ps longer comes)
    where
      longer : List Pair
      longer = before ++ known_pairs network (p ∷ [])

      comes : cannot_come network H (holds (longer ++ known_pairs network ps)) ≡ false
      comes = subst (λ (qs : List Pair). cannot_come network H (holds qs) ≡ false)
          (ap (λ (qs : List Pair). before ++ qs) (filter_map-append (pair_named network) (p ∷ []) ps) ∙ sym (append_assoc before (known_pairs network (p ∷ [])) (known_pairs network ps))) e

      at : (b : Bool) → b ≡ false → impossible_after network H longer ps ≡ None → cond b (Some (Impossible p)) (impossible_after network H longer ps) ≡ None
      at true e h = cc
      at false e h = h

  -- where all the pairs can come none is found
  pub none_together : (words : List PairText) (pairs : List Pair) → pairs ≡ known_pairs network words → cannot_come network H (holds pairs) ≡ false
      → impossible_together network H words ≡ None
  none_together words pairs same e = none_after words [] (subst (λ (ps : List Pair). cannot_come network H (holds ps) ≡ false) same e)

  -- where they cannot one is
  pub found_together : IsProper network H → (words : List PairText) (pairs : List Pair) → unknown network words ≡ None → pairs ≡ known_pairs network words
      → cannot_come network H (holds pairs) ≡ true → first_impossible network H [] pairs ≡ None → ⊥
  found_together proper words pairs known same e none =
      let d : PairText = record { variable = []; value = [] } in
      let free : impossible_together network H words ≡ None = sym (together_is words pairs d known same) ∙ ap (refused_at words d) none in
      let comes = comes_in network H (holds (known_pairs network words)) (some_where network H proper words free) in
      let never = subst (λ (ps : List Pair). cannot_come network H (holds ps) ≡ true) same e in
      cc

  -- where the target of a question can come beside its condition the condition can
  pub condition_comes : (asked : Asked) → cannot_come network H (with_target asked) ≡ false → cannot_come network H (holds asked.condition) ≡ false
  condition_comes asked e =
      comes_in network H (holds asked.condition) (passing_stay network H (with_target asked) (holds asked.condition)
      (λ s both. (and_parts (holds asked.condition s) (has asked.target s) both).0) (state_of network H (with_target asked) e))
