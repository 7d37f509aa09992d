-- A belief of the narrow form: none where a known pair contradicts the event, its size and grade.
use Rattle.std.proofs.Common.{◌≡◌, ℕ, ◌+◌, ◌*◌, ◌<◌, ◌≤◌, Bool, true, false, cond}
use Rattle.std.proofs.Common.{◌&&◌, ◌⊎◌, inl, inr, eqb}
use Rattle.std.proofs.Common.{List, [], ◌∷◌, ◌++◌, map, filter, length, sum_by}
use Rattle.std.proofs.Common.{sym, ap, subst, ◌∙◌, arith}
use Rattle.std.proofs.Math.Path.{fun_ext}
use Rattle.std.proofs.lemmas.Bool.{cases_Bool, both_ways, and_parts}
use Rattle.std.proofs.lemmas.List.{length-map}
use Rattle.std.proofs.lemmas.List.Sums.{sum_by-cons}
use Rattle.mk_net.specs.declared.words.Pair.{Pair}
use Rattle.mk_sets.specs.Sets.{VarSet}
use Rattle.mk_net.specs.Bounds.{number_limit}
use Rattle.mk_net.specs.Network.{sizes}
use Rattle.mk_states.specs.States.{states, plus_over, product_by}
use Rattle.mk_states.specs.InitialWeight.{value_at}
use Rattle.mk_states.specs.Events.{holds}
use Rattle.mk_states.proofs.Sums.{plus_over-map, plus_over_none, sum_by_is, list_all-append}
use Rattle.mk_sums.proofs.States.{is_plus}
use Rattle.mk_cell.specs.Least.{least}
use Rattle.mk_semiring.specs.declared.held.Held.{Held}
use Rattle.mk_semiring.specs.Held.{HeldEncloses, HasHeldGrade, IsHeldExact, held_grade_more}
use Rattle.mk_semiring.specs.Least.{least_lawful}
use Rattle.mk_table.specs.Tables.{contradicts}
use Rattle.mk_tree.specs.Tests.{cells_of}
use Rattle.mk_tree.proofs.Cells.{cells_positive}
use Rattle.mk_engine.specs.Meaning.{Meaning, Factor, RatioOf, factor_there, exact_belief}
use Rattle.mk_engine.specs.Meaning.{whole_sum, max_grade, tree_grade, cells_of_all}
use Rattle.mk_engine.specs.Beliefs.{IsBelief}
use Rattle.mk_user_engine.specs.declared.groups.Groups.{Groups}
use Rattle.mk_user_engine.specs.declared.narrow.PlacedRatio.{PlacedRatio}
use Rattle.mk_user_engine.specs.Narrow.{ratio_in, product_of}
use Rattle.mk_user_engine.specs.GroupedNarrow.{AreGrouped}
use Rattle.mk_user_engine.proofs.BeliefSharing.{in_states}
use Rattle.mk_user_engine.proofs.Pairs.{all_fit}

-- a least value of what passes a test is at most the sum of all
kept_at_most : {X : Type 0} (f : X → ℕ) (test : X → Bool) (xs : List X)
    → plus_over least 0 f (filter test xs) ≤ plus_over ◌+◌ 0 f xs
kept_at_most f test [] = omega arith
kept_at_most {X} f test (x ∷ xs) = at (test x) (kept_at_most f test xs)
  where
    at : (b : Bool) → plus_over least 0 f (filter test xs) ≤ plus_over ◌+◌ 0 f xs
        → plus_over least 0 f (cond b (x ∷ filter test xs) (filter test xs)) ≤ f x + plus_over ◌+◌
        0 f xs
    at true ih = let q = least_lawful.bounded (f x) (plus_over least 0 f (filter test xs))
        in omega (arith, ih, q)
    at false ih = omega (arith, ih)

-- ---- the exact belief of the narrow form

module _ (groups : Groups) (trades : List PlacedRatio) (known : List Pair) (homes : List ℕ)
    (m : Meaning) (is : AreGrouped groups trades known homes m)
  where
    pub as_many_factors : length m.factors ≡ length trades
    as_many_factors = ap (λ (fs : List Factor). length fs) is.factors_are
        ∙ length-map trades (λ (t : PlacedRatio). RatioOf (ratio_in t))

    module _ (event : List Pair) where
      abbrev in_state : List ℕ → ℕ
      in_state s = cond (holds (known ++ event) s) (product_of trades (value_at s)) 0

      -- of pairs of which one contradicts another there is no state
      pub none_there : contradicts known event ≡ true → exact_belief least m event ≡ 0
      none_there torn =
          in_states groups trades known homes m is event
          ∙ ap (λ (g : List ℕ → ℕ). plus_over least 0 g (states (sizes m.network))) (fun_ext absent)
          ∙ plus_over_none least 0 (is_plus least least_lawful) (states (sizes m.network))
        where
          absent : (s : List ℕ) → in_state s ≡ 0
          absent s = at (cases_Bool (holds (known ++ event) s))
            where
              at : ((holds (known ++ event) s ≡ true) ⊎ (holds (known ++ event) s ≡ false))
                  → in_state s ≡ 0
              at (inl h) =
                  let parts = and_parts (holds known s) (holds event s) (sym (list_all-append (λ
                  (p : Pair). eqb (value_at s p.variable) p.value) known event) ∙ h) in
                  absurd (both_ways (contradicts known event)
                  (all_fit s known event parts.0 parts.1) torn)
              at (inr h) = ap (λ b. cond b (product_of trades (value_at s)) 0) h

      pub at_most_whole : exact_belief least m event ≤ whole_sum m
      at_most_whole =
          let f : List ℕ → ℕ = λ s. product_by (λ (g : (ℕ → ℕ)
          → ℕ). g (value_at s)) (map (factor_there m.network) m.factors) in
          let g : List ℕ → ℕ = λ s. product_by (λ (f : Factor). factor_there m.network f
          (value_at s)) m.factors in
          let l = kept_at_most f (λ s. holds m.known s && holds event s)
          (states (sizes m.network)) in
          let w = sum_by_is g (states (sizes m.network)) in
          let e : plus_over ◌+◌ 0 f (states (sizes m.network)) ≡ plus_over ◌+◌ 0 g (states
          (sizes m.network)) =
          ap (λ (h : List ℕ → ℕ). plus_over ◌+◌ 0 h (states (sizes m.network))) (fun_ext
          (λ s. plus_over-map ◌*◌ 1 (λ (g : (ℕ → ℕ)
          → ℕ). g (value_at s)) (factor_there m.network) m.factors)) in
          omega (arith, l, w, e)

    -- ---- grades

    some_cells : 1 ≤ cells_of_all m
    some_cells = let t = is.tree in let l = t.linked in at m.tree.cliques l.some
      where
        at : (sets : List VarSet) → 1 ≤ length sets → 1 ≤ sum_by (cells_of m.network) sets
        at [] l = absurd (omega arith)
        at (set ∷ sets) l = let e = sum_by-cons (cells_of m.network) set sets
            in let p = cells_positive m.network set is.legal in omega (arith, e, p)

    pub grade_in_tree : (r : Held) (g : ℕ) → g ≤ length trades + 1 → HasHeldGrade r g
        → HasHeldGrade r (tree_grade m)
    grade_in_tree r g l h = held_grade_more r g (tree_grade m) h (let e = as_many_factors
        in let s = some_cells in omega (arith, l, e, s))

    pub grade_most : (r : Held) (g : ℕ) → g ≤ length trades + 1 → HasHeldGrade r g
        → HasHeldGrade r (length m.factors + max_grade)
    grade_most r g l h = held_grade_more r g (length m.factors + max_grade) h (let e =
        as_many_factors in omega (arith, l, e))

    pub belief_of : (event : List Pair) (r : Held) (g v : ℕ) → g ≤ length trades + 1
        → v ≡ exact_belief least m event → HeldEncloses r v → HasHeldGrade r g → (v < number_limit
        → IsHeldExact r)
        → IsBelief HeldEncloses HasHeldGrade IsHeldExact least m event r
    belief_of event r g v l e value grade exact = record {
      value = subst (HeldEncloses r) e value;
      grade = grade_most r g l grade;
      exact = λ small. exact (let w = at_most_whole event in omega (arith, e, w, small));
    }
