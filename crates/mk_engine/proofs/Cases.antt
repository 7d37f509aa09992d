-- The plus of the beliefs in the other values of a question's variable, state by state.
use Rattle.std.proofs.Common.{◌≡◌, ℕ, suc, zero, ◌+◌, ◌*◌, ◌<◌, ◌≤◌, Bool, true, false, cond, not, ◌&&◌, ◌⊎◌, inl, inr, eqb, List, [], ◌∷◌, ◌++◌, filter, sum_by, refl, sym, ap, subst, ◌∙◌, arith, le_refl, le_trans, ne_eqb}
use Rattle.std.proofs.Math.Path.{fun_ext}
use Rattle.std.specs.List.{range_with_len}
use Rattle.std.proofs.lemmas.Bool.{cases_lt}
use Rattle.mk_net.specs.declared.words.Pair.{Pair}
use Rattle.mk_net.specs.Asked.{Asked}
use Rattle.mk_net.specs.Network.{sizes}
use Rattle.mk_states.specs.States.{states, numbers_below, plus_over, product_by}
use Rattle.mk_states.specs.InitialWeight.{value_at}
use Rattle.mk_states.specs.Events.{holds, has}
use Rattle.mk_states.specs.Lawful.{Lawful}
use Rattle.mk_states.proofs.Sums.{IsPlus, plus_over-map, plus_over-filter, plus_over-plus, plus_over_none, plus_over_at, list_all-append, sum_by_is}
use Rattle.mk_sums.proofs.States.{is_plus}
use Rattle.mk_engine.specs.Meaning.{Meaning, Factor, factor_there, exact_belief, whole_sum}
use Rattle.mk_engine.specs.Cases.{pairs_with, exact_others}

-- the product of all factors in a state
abbrev pub product_at : Meaning → List ℕ → ℕ
product_at m s = product_by (λ (f : Factor). factor_there m.network f (value_at s)) m.factors

-- a belief is the plus of these, over the states where the known pairs and the event hold
pub belief_where : (plus : ℕ → ℕ → ℕ) (m : Meaning) (event : List Pair)
    → exact_belief plus m event ≡ plus_over plus 0 (product_at m) (filter (λ s. holds m.known s && holds event s) (states (sizes m.network)))
belief_where plus m event =
    ap (λ (w : List ℕ → ℕ). plus_over plus 0 w (filter (λ s. holds m.known s && holds event s) (states (sizes m.network))))
    (fun_ext (λ s. plus_over-map ◌*◌ 1 (λ (f : (ℕ → ℕ) → ℕ). f (value_at s)) (factor_there m.network) m.factors))

-- what a state adds for a value, if it has this value
abbrev pub added : Meaning → Asked → List ℕ → ℕ → ℕ
added m asked s v = cond (not (eqb v asked.target.value)) (cond (holds m.known s && holds asked.condition s) (product_at m s) 0) 0

-- the pairs of an event and one pair more
pub holds_more : (event : List Pair) (p : Pair) (s : List ℕ) → holds (event ++ p ∷ []) s ≡ (holds event s && has p s)
holds_more event p s = list_all-append (λ q. has q s) event (p ∷ []) ∙ ap (λ b. holds event s && b) (alone (has p s))
  where
    alone : (b : Bool) → (b && true) ≡ b
    alone true = refl
    alone false = refl

module _ {X Y V : Type 0} (plus : V → V → V) (none : V) (law : IsPlus plus none) where
  -- over two lists, in either order
  pub plus_over-swap : (f : X → Y → V) (xs : List X) (ys : List Y)
      → plus_over plus none (λ x. plus_over plus none (f x) ys) xs ≡ plus_over plus none (λ y. plus_over plus none (λ x. f x y) xs) ys
  plus_over-swap f [] ys = sym (plus_over_none plus none law ys)
  plus_over-swap f (x ∷ xs) ys =
      ap (plus (plus_over plus none (f x) ys)) (plus_over-swap f xs ys)
      ∙ sym (plus_over-plus plus none law (f x) (λ y. plus_over plus none (λ z. f z y) xs) ys)

module _ {X V : Type 0} (plus : V → V → V) (none : V) (law : IsPlus plus none) where
  -- a test that does not read what is summed over
  pub plus_over-cond : (b : Bool) (f : X → V) (xs : List X) → cond b (plus_over plus none f xs) none ≡ plus_over plus none (λ x. cond b (f x) none) xs
  plus_over-cond true f xs = refl
  plus_over-cond false f xs = sym (plus_over_none plus none law xs)

-- a number that is past a range is none of it
module _ {V : Type 0} (plus : V → V → V) (none : V) (law : IsPlus plus none) where
  pub plus_over_past : (f : ℕ → V) (n a v : ℕ) → a + n ≤ v → plus_over plus none (λ x. cond (eqb v x) (f x) none) (range_with_len a n) ≡ none
  plus_over_past f zero a v h = refl
  plus_over_past f (suc n) a v h = rw (ne_eqb v a (λ e. omega arith)) (law.neutral _ ∙ plus_over_past f n (a + 1) v (omega arith))

module _ (plus : ℕ → ℕ → ℕ) (law : Lawful plus) where
  -- an exact plus is at most the sum, of what is at most this
  pub plus_over_at_most : {X : Type 0} (f g : X → ℕ) → ((x : X) → f x ≤ g x) → (xs : List X) → plus_over plus 0 f xs ≤ sum_by g xs
  plus_over_at_most {X} f g h xs = subst (λ n. plus_over plus 0 f xs ≤ n) (sym (sum_by_is g xs)) (at xs)
    where
      at : (xs : List X) → plus_over plus 0 f xs ≤ plus_over ◌+◌ 0 g xs
      at [] = le_refl 0
      at (x ∷ xs) =
          let later = at xs in let here = h x in
          le_trans (law.bounded (f x) (plus_over plus 0 f xs)) (omega (arith, later, here))

  pub belief_by_states : (m : Meaning) (event : List Pair)
      → exact_belief plus m event ≡ plus_over plus 0 (λ s. cond (holds m.known s && holds event s) (product_at m s) 0) (states (sizes m.network))
  belief_by_states m event =
      belief_where plus m event
      ∙ plus_over-filter plus 0 (is_plus plus law) (product_at m) (λ s. holds m.known s && holds event s) (states (sizes m.network))

  module _ (m : Meaning) (asked : Asked) where
    by_value : (p k h e : Bool) (w : ℕ) → cond p (cond (k && (h && e)) w 0) 0 ≡ cond e (cond p (cond (k && h) w 0) 0) 0
    by_value false k h false w = refl
    by_value false k h true w = refl
    by_value true false h false w = refl
    by_value true false h true w = refl
    by_value true true false false w = refl
    by_value true true false true w = refl
    by_value true true true false w = refl
    by_value true true true true w = refl

    in_value : (v : ℕ) → cond (not (eqb v asked.target.value)) (exact_belief plus m (pairs_with asked v)) 0
        ≡ plus_over plus 0 (λ s. cond (eqb (value_at s asked.target.variable) v) (added m asked s v) 0) (states (sizes m.network))
    in_value v =
        ap (λ n. cond (not (eqb v asked.target.value)) n 0) (belief_by_states m (pairs_with asked v))
        ∙ plus_over-cond plus 0 (is_plus plus law) (not (eqb v asked.target.value)) (λ s. cond (holds m.known s && holds (pairs_with asked v) s) (product_at m s) 0) (states (sizes m.network))
        ∙ ap (λ (f : List ℕ → ℕ). plus_over plus 0 f (states (sizes m.network))) (fun_ext (λ s.
        ap (λ b. cond (not (eqb v asked.target.value)) (cond (holds m.known s && b) (product_at m s) 0) 0) (holds_more asked.condition (record { variable = asked.target.variable; value = v }) s)
        ∙ by_value (not (eqb v asked.target.value)) (holds m.known s) (holds asked.condition s) (eqb (value_at s asked.target.variable) v) (product_at m s)))

    -- each state adds for its own value of the variable, where this is below so many
    pub others_by_states : (k : ℕ) → exact_others plus m asked k
        ≡ plus_over plus 0 (λ s. plus_over plus 0 (λ v. cond (eqb (value_at s asked.target.variable) v) (added m asked s v) 0) (numbers_below k)) (states (sizes m.network))
    others_by_states k =
        plus_over-filter plus 0 (is_plus plus law) (λ v. exact_belief plus m (pairs_with asked v)) (λ v. not (eqb v asked.target.value)) (numbers_below k)
        ∙ ap (λ (f : ℕ → ℕ). plus_over plus 0 f (numbers_below k)) (fun_ext in_value)
        ∙ plus_over-swap plus 0 (is_plus plus law) (λ v s. cond (eqb (value_at s asked.target.variable) v) (added m asked s v) 0) (numbers_below k) (states (sizes m.network))

    added_at_most : (s : List ℕ) (v : ℕ) → added m asked s v ≤ product_at m s
    added_at_most s v = at (not (eqb v asked.target.value)) (holds m.known s && holds asked.condition s) (product_at m s)
      where
        at : (a b : Bool) (w : ℕ) → cond a (cond b w 0) 0 ≤ w
        at true true w = le_refl w
        at true false w = omega arith
        at false b w = omega arith

    once : (k : ℕ) (s : List ℕ) → plus_over plus 0 (λ v. cond (eqb (value_at s asked.target.variable) v) (added m asked s v) 0) (numbers_below k) ≤ product_at m s
    once k s = at (cases_lt (value_at s asked.target.variable) k)
      where
        at : ((value_at s asked.target.variable < k) ⊎ (k ≤ value_at s asked.target.variable))
            → plus_over plus 0 (λ v. cond (eqb (value_at s asked.target.variable) v) (added m asked s v) 0) (numbers_below k) ≤ product_at m s
        at (inl l) = subst (λ n. n ≤ product_at m s) (sym (plus_over_at plus 0 (is_plus plus law) (added m asked s) k 0 (value_at s asked.target.variable) (omega arith) (omega arith)))
            (added_at_most s (value_at s asked.target.variable))
        at (inr g) = subst (λ n. n ≤ product_at m s) (sym (plus_over_past plus 0 (is_plus plus law) (added m asked s) k 0 (value_at s asked.target.variable) (omega arith))) (omega arith)

    -- so together they are at most the sum of all states
    pub others_at_most : (k : ℕ) → exact_others plus m asked k ≤ whole_sum m
    others_at_most k = subst (λ n. n ≤ whole_sum m) (sym (others_by_states k))
        (plus_over_at_most (λ s. plus_over plus 0 (λ v. cond (eqb (value_at s asked.target.variable) v) (added m asked s v) 0) (numbers_below k)) (product_at m) (once k) (states (sizes m.network)))
