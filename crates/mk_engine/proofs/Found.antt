-- What is found after some of the values, and what a call for one value more asks.
use Rattle.std.proofs.Common.{◌≡◌, ℕ, inl, inr, suc, zero, ◌+◌, ◌-◌, ◌^◌, ◌<◌, ◌≤◌, true, cond, not, eqb, List, []}
use Rattle.std.proofs.Common.{◌∷◌, ◌++◌, length, filter, slice_index, sym, ap, subst, ◌∙◌, arith}
use Rattle.std.proofs.Common.{append-nil, add-one, eq-eqb, ne_eqb}
use Rattle.std.proofs.Math.Nat.{lt_of_le_of_lt}
use Rattle.std.proofs.lemmas.Bool.{cases_order}
use Rattle.std.specs.List.{range_with_len}
use Rattle.std.proofs.lemmas.List.Elements.{filter-append, All-from_recursion}
use Rattle.mk_net.specs.declared.words.Pair.{Pair}
use Rattle.mk_net.specs.Asked.{Asked}
use Rattle.mk_net.specs.Bounds.{number_limit}
use Rattle.mk_net.specs.Events.{pairs_asked}
use Rattle.mk_sets.specs.Sets.{VarSet, is_member}
use Rattle.mk_net.specs.Network.{Variable, sizes}
use Rattle.mk_states.specs.Lawful.{Lawful}
use Rattle.mk_states.specs.States.{numbers_below, plus_over}
use Rattle.mk_states.specs.OfNetwork.{IsPairOf, IsQuestionOf}
use Rattle.mk_states.proofs.Sums.{plus_over-append, list_all-append, each-append}
use Rattle.mk_sums.proofs.States.{is_plus}
use Rattle.mk_tree.specs.Given.{GivenTree, holds_event}
use Rattle.mk_tree.specs.Held.{IsHeldAt}
use Rattle.mk_tree.proofs.Held.{held_weaker}
use Rattle.mk_engine.specs.Meaning.{Meaning, exact_belief, whole_sum, max_grade, ArePairsOf}
use Rattle.mk_engine.specs.Beliefs.{IsBelief}
use Rattle.mk_engine.specs.Cases.{pairs_with, other_values, exact_others}
use Rattle.mk_engine.proofs.Cases.{others_at_most}

-- a clique that holds a question holds each case of it, since the variables are the same
pub case_is_held : (t : GivenTree) (at : ℕ) (asked : Asked) (v : ℕ) (event : List Pair)
    → event ≡ pairs_with asked v → IsHeldAt t at (pairs_asked asked) → IsHeldAt t at event
case_is_held t at asked v event e h = rw e
    (held_weaker t at (pairs_asked asked) (pairs_with asked v) same h)
  where
    same : (set : VarSet) → holds_event (pairs_asked asked) set ≡ true
        → holds_event (pairs_with asked v) set ≡ true
    same set k =
        list_all-append (λ (p : Pair). is_member set p.variable) asked.condition (record { variable = asked.target.variable; value = v } ∷ [])
        ∙ sym (list_all-append (λ (p : Pair). is_member set p.variable) asked.condition
        (asked.target ∷ [])) ∙ k

-- and each pair is one of the network's
pub pairs_fit : (network : List Variable) (asked : Asked) (v : ℕ) → IsQuestionOf network asked → v < slice_index (sizes network) asked.target.variable
    → ArePairsOf network (pairs_with asked v)
pairs_fit network asked v fits l =
    All-from_recursion (IsPairOf network) (pairs_with asked v)
    (each-append (IsPairOf network) asked.condition (record { variable = asked.target.variable; value = v } ∷ []) fits.condition
    (record { variable = fits.target.variable; value = l }, tt))

numbers_more : (a n j : ℕ) → a + n ≡ j → range_with_len a (suc n) ≡ range_with_len a n ++ j ∷ []
numbers_more a zero j e = let f : a ≡ j = omega arith in ap (λ x. x ∷ []) f
numbers_more a (suc n) j e = ap (λ xs. a ∷ xs) (numbers_more (a + 1) n j (omega arith))

others_more : (asked : Asked) (v : ℕ) → other_values asked (v + 1) ≡ other_values asked v ++ cond (not (eqb v asked.target.value)) (v ∷ []) []
others_more asked v =
    ap (λ n. other_values asked n) (add-one v)
    ∙ ap (filter (λ w. not (eqb w asked.target.value))) (numbers_more 0 v v (omega arith))
    ∙ filter-append (λ w. not (eqb w asked.target.value)) (numbers_below v) (v ∷ [])

module _ (plus : ℕ → ℕ → ℕ) (law : Lawful plus) (m : Meaning) (asked : Asked) (v : ℕ) where
  one_taken : (v ≡ asked.target.value → ⊥) → exact_others plus m asked (v + 1) ≡ plus (exact_others plus m asked v) (exact_belief plus m (pairs_with asked v))
  one_taken d =
      ap (plus_over plus 0 (λ w. exact_belief plus m (pairs_with asked w))) (others_more asked v ∙ ap (λ b. other_values asked v ++ cond (not b) (v ∷ []) []) (ne_eqb v asked.target.value d))
      ∙ plus_over-append plus 0 (is_plus plus law) (λ w. exact_belief plus m (pairs_with asked w)) (other_values asked v) (v ∷ [])
      ∙ ap (plus (exact_others plus m asked v)) (law.commutes _ 0 ∙ law.neutral _)

  one_skipped : v ≡ asked.target.value → exact_others plus m asked (v + 1) ≡ exact_others plus m asked v
  one_skipped e =
      ap (plus_over plus 0 (λ w. exact_belief plus m (pairs_with asked w)))
      (others_more asked v ∙ ap (λ b. other_values asked v ++ cond (not b) (v ∷ []) []) (eq-eqb v asked.target.value e) ∙ append-nil (other_values asked v))

-- what is found of the values below one encloses the plus of their beliefs, at a grade of one step
-- for each but the target beside that of a belief
pub record IsFound {V : Type 0} (encloses : V → ℕ → Type 0) (has_grade : V → ℕ → Type 0) (is_exact : V → Type 0)
    (plus : ℕ → ℕ → ℕ) (m : Meaning) (most : ℕ) (asked : Asked) (v : ℕ) (others : V) : Type 0 where
  pub value : encloses others (exact_others plus m asked v)
  pub grade : has_grade others (length m.factors + max_grade + v)
  pub graded : (steps : ℕ) → (asked.target.value < v → v ≤ steps + 1)
      → (v ≤ asked.target.value → v ≤ steps) → has_grade others (most + steps)
  pub exact : whole_sum m < number_limit → is_exact others

module _ {V : Type 0} (encloses : V → ℕ → Type 0) (has_grade : V → ℕ → Type 0) (is_exact : V → Type 0) (plus : ℕ → ℕ → ℕ)
    (grade_more : (x : V) (g h : ℕ) → has_grade x g → g ≤ h → has_grade x h)
    (m : Meaning) (most : ℕ) (asked : Asked) where
  module _ (law : Lawful plus) (v : ℕ) (others : V)
      (found : IsFound encloses has_grade is_exact plus m most asked v others) where
    pub found_same : v ≡ asked.target.value
        → IsFound encloses has_grade is_exact plus m most asked (v + 1) others
    found_same e = record {
      value = subst (encloses others) (sym (one_skipped plus law m asked v e)) found.value;
      grade = grade_more others (length m.factors + max_grade + v) (length m.factors + max_grade + (v + 1)) found.grade (omega arith);
      graded = λ steps behind before.
          let few : v ≤ steps = omega (arith, behind (omega (arith, e))) in
          found.graded steps (λ _. omega (arith, few)) (λ _. few);
      exact = found.exact;
    }

    module _ (event : List Pair) (belief more : V) (its_pairs : event ≡ pairs_with asked v) (one : IsBelief encloses has_grade is_exact plus m event belief)
        (one_graded : has_grade belief most)
        (value_of : (x y : ℕ) → encloses others x → encloses belief y → encloses more (plus x y))
        (grade_of : (g : ℕ) → has_grade others g → has_grade belief g → has_grade more (g + 1))
        (exact_of : (x y : ℕ) → encloses others x → encloses belief y → is_exact others → is_exact belief → plus x y < 2 ^ 63 → is_exact more) where
      its_value : encloses belief (exact_belief plus m (pairs_with asked v))
      its_value = subst (λ (e : List Pair). encloses belief (exact_belief plus m e)) its_pairs one.value

      one_more : (g : ℕ) → has_grade others (g + v) → has_grade belief g
          → has_grade more (g + (v + 1))
      one_more g so_far of_one =
          grade_more more (g + v + 1) (g + (v + 1))
          (grade_of (g + v) so_far (grade_more belief g (g + v) of_one (omega arith))) (omega arith)

      step_more : (steps : ℕ) → 1 ≤ steps → has_grade others (most + (steps - 1))
          → has_grade more (most + steps)
      step_more steps some so_far =
          grade_more more (most + (steps - 1) + 1) (most + steps)
          (grade_of (most + (steps - 1)) so_far
          (grade_more belief most (most + (steps - 1)) one_graded (omega arith)))
          (omega (arith, some))

      few_behind : (steps : ℕ) → asked.target.value < v → v + 1 ≤ steps + 1 → v ≤ steps - 1 + 1
      few_behind steps l few = omega (arith, l, few)

      few_before : (steps : ℕ) → v + 1 ≤ asked.target.value → v + 1 ≤ steps → v ≤ steps - 1
      few_before steps l few = omega (arith, few)

      pub found_more : (v ≡ asked.target.value → ⊥)
          → IsFound encloses has_grade is_exact plus m most asked (v + 1) more
      found_more d = record {
        value = subst (encloses more) (sym (one_taken plus law m asked v d)) (value_of _ _ found.value its_value);
        grade = one_more (length m.factors + max_grade) found.grade one.grade;
        graded = λ steps behind before.
            step_more steps (before_steps steps behind before) (found.graded (steps - 1)
            (λ l. few_behind steps l (behind (omega (arith, l))))
            (λ l. few_before steps (not_last l) (before (not_last l))));
        exact = λ small. exact_of _ _ found.value its_value (found.exact small) (one.exact small) (within small);
      }
        where
          not_last : v ≤ asked.target.value → v + 1 ≤ asked.target.value
          not_last l = omega (arith, l, d)

          before_steps : (steps : ℕ) → (asked.target.value < v + 1 → v + 1 ≤ steps + 1)
              → (v + 1 ≤ asked.target.value → v + 1 ≤ steps) → 1 ≤ steps
          before_steps steps behind before = elim (cases_order asked.target.value v) [
            | inl e ↦ absurd (d (sym e))
            | inr (inl l) ↦ omega (arith, l, behind (omega (arith, l)))
            | inr (inr l) ↦ omega (arith, before (not_last (omega (arith, l))))
          ]

          within : whole_sum m < number_limit → plus (exact_others plus m asked v) (exact_belief plus m (pairs_with asked v)) < 2 ^ 63
          within small =
              let most = others_at_most plus law m asked (v + 1) in
              subst (λ n. n < 2 ^ 63) (one_taken plus law m asked v d) (lt_of_le_of_lt most small)
