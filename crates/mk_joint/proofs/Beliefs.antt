-- The total of the cells where an event holds is the exact belief.
use Rattle.std.proofs.Common.{◌≡◌, ℕ, ◌+◌, ◌*◌, ◌^◌, ◌<◌, ◌≤◌, Bool, true, false, cond, ◌&&◌, List, [], ◌∷◌, map, length, filter, refl, sym, ap, subst, ◌∙◌, arith}
use Rattle.std.proofs.Math.Path.{fun_ext}
use Rattle.std.proofs.Math.Nat.{le_of_mul-le-mul_right, one-le-pow}
use Rattle.std.proofs.lemmas.List.Elements.{All-contains}
use Rattle.mk_net.specs.declared.words.Pair.{Pair}
use Rattle.mk_net.specs.Bounds.{max_clique_cells, number_limit}
use Rattle.mk_net.specs.Network.{sizes}
use Rattle.mk_states.specs.States.{states, plus_over, product_by, numbers_below}
use Rattle.mk_states.specs.InitialWeight.{value_at}
use Rattle.mk_states.specs.Events.{holds}
use Rattle.mk_states.specs.Lawful.{Lawful}
use Rattle.mk_states.proofs.Sums.{plus_over-filter, plus_over-map}
use Rattle.mk_cell.specs.Cell.{StandsAt, IsOwnAt}
use Rattle.mk_cell.specs.inner.Laws.{stands_with_more}
use Rattle.mk_sums.specs.Sums.{plus_below}
use Rattle.mk_sums.specs.There.{holds_there}
use Rattle.mk_sums.proofs.Bounds.{sum_grows}
use Rattle.mk_sums.proofs.States.{is_plus, plus_below_numbers}
use Rattle.mk_sums.proofs.Grades.{sums_lawful}
use Rattle.mk_scope.specs.Scopes.{ScopeOf, HasEvent, cells_in, has_variable}
use Rattle.mk_scope.specs.Cells.{values_at, cells_where}
use Rattle.mk_table.specs.Tables.{TableOf, HasNumbers, is_untouched}
use Rattle.mk_table.proofs.Owned.{own_more}
use Rattle.mk_table.proofs.RatiosKept.{untouched_by}
use Rattle.mk_engine.specs.Meaning.{Meaning, factor_there, exact_belief, whole_sum, max_grade}
use Rattle.mk_engine.specs.Beliefs.{IsBelief}
use Rattle.mk_engine.specs.Apart.{IsApart, without_ratios}
use Rattle.mk_engine.proofs.Apart.{apart_at_most}
use Rattle.mk_joint.specs.inner.Joints.{whole_scope, joint_there, IsJoint}
use Rattle.mk_joint.proofs.Cells.{states_are_cells}
use Rattle.mk_joint.proofs.Factors.{product_there, joint_at_most, whole_is}

both_tests : (known event : Bool) (v : ℕ) → cond (known && event) v 0 ≡ cond event (cond known v 0) 0
both_tests true true v = refl
both_tests true false v = refl
both_tests false true v = refl
both_tests false false v = refl

module _ (plus : ℕ → ℕ → ℕ) (law : Lawful plus) (m : Meaning) (event : List Pair) where
  -- what a state, or its cell, adds to the belief
  abbrev added : (ℕ → ℕ) → ℕ
  added a = cond (holds_there event a) (joint_there m a) 0

  state_adds : (s : List ℕ) → cond (holds m.known s && holds event s) (product_by (λ (f : (ℕ → ℕ) → ℕ). f (value_at s)) (map (factor_there m.network) m.factors)) 0 ≡ added (value_at s)
  state_adds s =
      both_tests (holds m.known s) (holds event s) _
      ∙ ap (λ n. cond (holds event s) (cond (holds m.known s) n 0) 0) (plus_over-map ◌*◌ 1 (λ (f : (ℕ → ℕ) → ℕ). f (value_at s)) (factor_there m.network) m.factors)

  in_states : exact_belief plus m event ≡ plus_over plus 0 (λ s. added (value_at s)) (states (sizes m.network))
  in_states =
      plus_over-filter plus 0 (is_plus plus law) (λ s. product_by (λ (f : (ℕ → ℕ) → ℕ). f (value_at s)) (map (factor_there m.network) m.factors))
      (λ s. holds m.known s && holds event s) (states (sizes m.network))
      ∙ ap (λ (g : List ℕ → ℕ). plus_over plus 0 g (states (sizes m.network))) (fun_ext state_adds)

  in_cells : exact_belief plus m event ≡ plus_over plus 0 (λ c. joint_there m (values_at (whole_scope m.network) c)) (cells_where (whole_scope m.network) event)
  in_cells =
      in_states
      ∙ states_are_cells m.network plus law added
      ∙ plus_below_numbers plus law (λ c. added (values_at (whole_scope m.network) c)) (cells_in (whole_scope m.network))
      ∙ sym (plus_over-filter plus 0 (is_plus plus law) (λ c. joint_there m (values_at (whole_scope m.network) c)) (λ c. holds_there event (values_at (whole_scope m.network) c)) (numbers_below (cells_in (whole_scope m.network))))

  pub belief_is : (scope : ScopeOf) → scope ≡ whole_scope m.network → plus_over plus 0 (λ c. joint_there m (values_at scope c)) (cells_where scope event) ≡ exact_belief plus m event
  belief_is scope e = subst (λ (s : ScopeOf). plus_over plus 0 (λ c. joint_there m (values_at s c)) (cells_where s event) ≡ exact_belief plus m event) (sym e) (sym in_cells)

-- a plus is at most the sum
plus_at_most : (plus : ℕ → ℕ → ℕ) → Lawful plus → (f : ℕ → ℕ) (xs : List ℕ) → plus_over plus 0 f xs ≤ plus_over ◌+◌ 0 f xs
plus_at_most plus law f [] = omega arith
plus_at_most plus law f (x ∷ xs) = let p = plus_at_most plus law f xs in let q = law.bounded (f x) (plus_over plus 0 f xs) in omega (arith, p, q)

-- the cells where an event holds add up to at most the whole sum
module _ (m : Meaning) (event : List Pair) where
  added_at_most : (b : Bool) (a : ℕ → ℕ) → cond b (joint_there m a) 0 ≤ product_there m a
  added_at_most true a = joint_at_most m a
  added_at_most false a = omega arith

  whole_at_most : plus_over ◌+◌ 0 (λ c. joint_there m (values_at (whole_scope m.network) c)) (cells_where (whole_scope m.network) event) ≤ whole_sum m
  whole_at_most =
      let n = cells_in (whole_scope m.network) in
      let chosen : ℕ → Bool = λ c. holds_there event (values_at (whole_scope m.network) c) in
      let f : ℕ → ℕ = λ c. joint_there m (values_at (whole_scope m.network) c) in
      let g : ℕ → ℕ = λ c. cond (chosen c) (f c) 0 in
      let e : plus_over ◌+◌ 0 f (filter chosen (numbers_below n)) ≡ plus_below ◌+◌ n g =
      plus_over-filter ◌+◌ 0 (is_plus ◌+◌ sums_lawful) f chosen (numbers_below n) ∙ sym (plus_below_numbers ◌+◌ sums_lawful g n) in
      let p = sum_grows n g (λ c. product_there m (values_at (whole_scope m.network) c)) (λ c l. added_at_most (chosen c) (values_at (whole_scope m.network) c)) in
      omega (arith, e, p, whole_is m)

  pub total_at_most : (plus : ℕ → ℕ → ℕ) → Lawful plus → (scope : ScopeOf) → scope ≡ whole_scope m.network
      → plus_over plus 0 (λ c. joint_there m (values_at scope c)) (cells_where scope event) ≤ whole_sum m
  total_at_most plus law scope e =
      let p = plus_at_most plus law (λ c. joint_there m (values_at scope c)) (cells_where scope event) in
      let q = subst (λ (s : ScopeOf). plus_over ◌+◌ 0 (λ c. joint_there m (values_at s c)) (cells_where s event) ≤ whole_sum m) (sym e) whole_at_most in
      omega (arith, p, q)

-- the total of a table that has a joint
module _ (plus : ℕ → ℕ → ℕ) (table : TableOf) (count : ℕ) (m : Meaning) (event : List Pair) (h : IsJoint table count m) where
  abbrev pub totalled : ℕ
  totalled = plus_over plus 0 (λ c. joint_there m (values_at table.scope c)) (cells_where table.scope event)

  pub total_stands : (digits exponent : ℕ)
      → ((f : ℕ → ℕ) (n : ℕ) → HasNumbers table f n → StandsAt table.shift digits exponent (plus_over plus 0 f (cells_where table.scope event)) (n + 2 * cells_in table.scope))
      → StandsAt table.shift digits exponent totalled (3 * (count + max_clique_cells))
  total_stands digits exponent total =
      stands_with_more table.shift digits exponent totalled (length m.factors + 2 * cells_in table.scope) (3 * (count + max_clique_cells)) (omega (arith, h.counted, h.few_cells))
      (total (λ c. joint_there m (values_at table.scope c)) (length m.factors) h.numbers)

  -- a total of cells that no ratio touched
  pub total_own : (digits exponent : ℕ)
      → ((f : ℕ → ℕ) (n : ℕ) → HasNumbers table f n → IsOwnAt table.shift digits exponent (plus_over plus 0 f (cells_where table.scope event)) (n + 2 * cells_in table.scope))
      → IsOwnAt table.shift digits exponent totalled (3 * (count + max_clique_cells))
  total_own digits exponent total =
      own_more table.shift digits exponent totalled (length m.factors + 2 * cells_in table.scope) (3 * (count + max_clique_cells)) (omega (arith, h.counted, h.few_cells))
      (total (λ c. joint_there m (values_at table.scope c)) (length m.factors) h.numbers)

  -- where one pair of all conditions contradicts the event
  module _ (apart : IsApart m event) where
    pub untouched_apart : HasEvent table.scope event → is_untouched table event ≡ true
    untouched_apart there =
        untouched_by table.touched event apart.pair apart.other
        (h.ratios.kept apart.pair apart.in_each
        (subst (λ x. has_variable table.scope x ≡ true) apart.same_variable (All-contains (λ (p : Pair). has_variable table.scope p.variable ≡ true) event apart.other there apart.in_event)))
        apart.in_event apart.same_variable apart.another_value

    -- what is left of the total under no shift is at most the sum without the ratios
    pub own_at_most : Lawful plus → (own : ℕ) → totalled ≡ own * 2 ^ table.shift → own ≤ whole_sum (without_ratios m)
    own_at_most law own e =
        let b = belief_is plus law m event table.scope h.scope in let l = apart_at_most plus law m event apart in
        let s = ap (λ n. whole_sum (without_ratios m) * 2 ^ n) h.ratios.shifted in
        let scaled : own * 2 ^ table.shift ≤ whole_sum (without_ratios m) * 2 ^ table.shift = omega (arith, b, l, s, e) in
        le_of_mul-le-mul_right scaled (one-le-pow table.shift 2 (omega arith))

  module _ {V : Type 0} (encloses : V → ℕ → Type 0) (has_grade : V → ℕ → Type 0) (is_exact : V → Type 0)
      (grade_more : (x : V) (g h : ℕ) → has_grade x g → g ≤ h → has_grade x h) where
    pub belief_grade : (r : V) → has_grade r (count + max_clique_cells) → has_grade r (length m.factors + max_clique_cells)
    belief_grade r g = grade_more r (count + max_clique_cells) (length m.factors + max_clique_cells) g (omega (arith, h.counted))

    pub belief_of : Lawful plus → (r : V) → encloses r totalled → has_grade r (count + max_clique_cells) → (totalled < number_limit → is_exact r)
        → IsBelief encloses has_grade is_exact plus m event r
    belief_of law r value grade exact = record {
      value = subst (encloses r) (belief_is plus law m event table.scope h.scope) value;
      grade = grade_more r (length m.factors + max_clique_cells) (length m.factors + max_grade) (belief_grade r grade) (omega arith);
      exact = λ small. exact (let t = total_at_most m event plus law table.scope h.scope in omega (arith, t, small));
    }
