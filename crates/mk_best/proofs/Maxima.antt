-- The greatest weights that are left.
use Rattle.std.proofs.Common.{◌≡◌, ℕ, zero, suc, ◌+◌, ◌*◌, ◌<◌, ◌≤◌, Bool, true, false, cond}
use Rattle.std.proofs.Common.{◌&&◌, eqb, max, List, [], ◌∷◌, ◌++◌, map, filter, length, slice_index}
use Rattle.std.proofs.Common.{refl, sym, ap, ap₂, subst, ◌∙◌, arith, append_assoc}
use Rattle.std.specs.Prelude.{nat_le}
use Rattle.std.proofs.lemmas.Bool.{le-leb}
use Rattle.std.proofs.lemmas.List.{map-append}
use Rattle.std.proofs.Math.Path.{fun_ext}
use Rattle.std.proofs.Math.Bool.{and-true}
use Rattle.mk_net.specs.declared.words.Pair.{Pair}
use Rattle.mk_net.specs.Bounds.{max_market_trades}
use Rattle.mk_net.specs.Network.{Variable, IsNetwork, sizes}
use Rattle.mk_states.specs.Events.{has, holds, always}
use Rattle.mk_exact.specs.History.{Entry, Resolve, UserTrade, trades, resolutions}
use Rattle.mk_states.specs.InitialWeight.{all_states, can_come, initial_weight, value_at}
use Rattle.mk_states.specs.Lawful.{Lawful}
use Rattle.mk_states.specs.Ratios.{ratio_at}
use Rattle.mk_states.specs.States.{states, numbers_below, plus_over, product_by, IsState}
use Rattle.mk_exact.specs.Weight.{weight, total, is_possible, possible_states, IsSmall}
use Rattle.mk_states.proofs.Sums.{list_all-append, plus_over_by_key, each_weaker, sum_by_is}
use Rattle.mk_states.proofs.Listed.{all_are, value_below}
use Rattle.mk_semiring.specs.Most.{greatest_lawful}
use Rattle.mk_semiring.specs.declared.held.Held.{Held}
use Rattle.mk_semiring.specs.Held.{HeldEncloses, HasHeldGrade, IsHeldExact, held_grade_more}
use Rattle.mk_sums.proofs.States.{is_plus}
use Rattle.mk_tree.specs.Given.{GivenTree}
use Rattle.mk_engine.specs.Meaning.{exact_belief, max_grade}
use Rattle.mk_engine.specs.Beliefs.{IsBelief}
use Rattle.mk_engine.proofs.Cases.{belief_where, plus_over_at_most}
use Rattle.mk_beliefs.specs.Meanings.{weights_of}
use Rattle.mk_beliefs.proofs.Exact.{without_nothing}
use Rattle.mk_beliefs.proofs.Gained.{each_of}
use Rattle.mk_beliefs.proofs.Weighed.{product_is_weight, weights_are_small}
use Rattle.mk_answers.specs.inner.Found.{IsBeliefIn, max_side_grade}
use Rattle.mk_best.specs.BestStates.{greatest}
use Rattle.mk_best.specs.inner.Engines.{learned}
use Rattle.mk_best.specs.inner.Picks.{is_at, pairs_from, greatest_with}
use Rattle.mk_best.proofs.Learned.{trades_learned, resolutions_learned}
use Rattle.mk_best.proofs.OneState.{only_state}
use Rattle.mk_best.proofs.Shares.{few_factors}

filter-filter : {X : Type 0} (p q : X → Bool) (xs : List X)
    → filter q (filter p xs) ≡ filter (λ x. p x && q x) xs
filter-filter p q [] = refl
filter-filter {X} p q (x ∷ xs) =
    at (p x) ∙ ap (λ ys. cond (p x && q x) (x ∷ ys) ys) (filter-filter p q xs)
  where
    at : (b : Bool) → filter q (cond b (x ∷ filter p xs) (filter p xs))
        ≡ cond (b && q x) (x ∷ filter q (filter p xs)) (filter q (filter p xs))
    at true = refl
    at false = refl

-- over the elements that pass a narrower test the greatest is no greater
narrow : {X : Type 0} (f : X → ℕ) (p q : X → Bool) → ((x : X) → q x ≡ true → p x ≡ true)
    → (xs : List X) → plus_over max 0 f (filter q xs) ≤ plus_over max 0 f (filter p xs)
narrow f p q h [] = omega arith
narrow {X} f p q h (x ∷ xs) = at (p x) (q x) (h x) (narrow f p q h xs)
  where
    at : (a b : Bool) → (b ≡ true → a ≡ true)
        → plus_over max 0 f (filter q xs) ≤ plus_over max 0 f (filter p xs)
        → plus_over max 0 f (cond b (x ∷ filter q xs) (filter q xs))
        ≤ plus_over max 0 f (cond a (x ∷ filter p xs) (filter p xs))
    at true true k l = omega (arith, l)
    at true false k l = omega (arith, l)
    at false true k l = absurd (let e = k refl in cc)
    at false false k l = l

and_both : (a b c : Bool) → (b ≡ true → c ≡ true) → (a && b) ≡ true → (a && c) ≡ true
and_both true b c h e = h e
and_both false b c h e = e

-- where the greatest is 0 all are
none_over : {X : Type 0} (f : X → ℕ) (xs : List X) → plus_over max 0 f xs ≡ 0
    → plus_over ◌+◌ 0 f xs ≡ 0
none_over f [] e = refl
none_over f (x ∷ xs) e =
    let later = none_over f xs (omega (arith, e)) in omega (arith, e, later)

tests : (a b : Bool) → ((a && true) && b) ≡ (a && (b && true))
tests true true = refl
tests true false = refl
tests false b = refl

three : (a b c : Bool) → ((a && b) && c) ≡ (a && (b && c))
three true b c = refl
three false b c = refl

module _ (network : List Variable) (H : List Entry) where
  -- a list of values that cannot come has no weight
  pub no_weight : (s : List ℕ) → can_come network s ≡ false → weight network H s ≡ 0
  no_weight s e = nothing (initial_weight network s) e
    where
      nothing : (n : ℕ) → nat_le 1 n ≡ false
          → n * product_by (λ (t : UserTrade). ratio_at t.ratio s) (trades H) ≡ 0
      nothing zero e = omega arith
      nothing (suc n) e = absurd
          (let some : nat_le 1 (suc n) ≡ true = le-leb 1 (suc n) (omega arith) in cc)

  by_states : (plus : ℕ → ℕ → ℕ) → Lawful plus → (test : List ℕ → Bool)
      → plus_over plus 0 (weight network H) (possible_states network H test)
      ≡ plus_over plus 0 (weight network H)
      (filter (λ s. is_possible H s && test s) (states (sizes network)))
  by_states plus law test =
      sym (without_nothing plus law (weight network H) (λ s. is_possible H s && test s)
      (can_come network) (states (sizes network)) no_weight)

  -- the states with a state's values weigh what it does, where it is possible
  pub weight_alone : (plus : ℕ → ℕ → ℕ) → Lawful plus → (s : List ℕ) → IsState (sizes network) s
      → plus_over plus 0 (weight network H) (possible_states network H (holds (pairs_from 0 s)))
      ≡ cond (is_possible H s) (weight network H s) 0
  weight_alone plus law s st =
      by_states plus law (holds (pairs_from 0 s))
      ∙ only_state plus law (sizes network) s st (is_possible H) (weight network H)

  pub belief_is_greatest : (tree : GivenTree) (event : List Pair)
      → exact_belief max (weights_of network tree H) event ≡ greatest network H (holds event)
  belief_is_greatest tree event =
      belief_where max (weights_of network tree H) event
      ∙ ap (λ (w : List ℕ → ℕ). plus_over max 0 w
      (filter (λ s. is_possible H s && holds event s) (states (sizes network))))
      (fun_ext (product_is_weight network tree H))
      ∙ sym (by_states max greatest_lawful (holds event))

  pub greatest_in : (tree : GivenTree) → IsNetwork network → length (trades H) ≤ max_market_trades
      → (event : List Pair) (belief : Held)
      → IsBelief HeldEncloses HasHeldGrade IsHeldExact max (weights_of network tree H) event belief
      → IsBeliefIn belief (IsSmall network H) (greatest network H (holds event))
  greatest_in tree legal few event belief b = record {
    encloses = subst (HeldEncloses belief) (belief_is_greatest tree event) b.value;
    grade = held_grade_more belief (length (weights_of network tree H).factors + max_grade)
        max_side_grade b.grade (omega (arith, few_factors network tree H legal few));
    exact = λ s. b.exact (weights_are_small network tree H s);
  }

  pub greatest_narrow : (test other : List ℕ → Bool)
      → ((s : List ℕ) → other s ≡ true → test s ≡ true)
      → greatest network H other ≤ greatest network H test
  greatest_narrow test other h =
      narrow (weight network H) (λ s. is_possible H s && test s) (λ s. is_possible H s && other s)
      (λ s e. and_both (is_possible H s) (other s) (test s) (h s) e) (all_states network)

  pub greatest_at_most : (test : List ℕ → Bool) → greatest network H test ≤ total network H test
  greatest_at_most test =
      plus_over_at_most max greatest_lawful (weight network H) (weight network H)
      (λ s. omega arith) (possible_states network H test)

  pub none_weighs : (test : List ℕ → Bool) → greatest network H test ≡ 0
      → total network H test ≡ 0
  none_weighs test e =
      sum_by_is (weight network H) (possible_states network H test)
      ∙ none_over (weight network H) (possible_states network H test) e

  -- the greatest of all is that of the greatest with each value of a variable
  pub splits : (v : ℕ) → v < length network → greatest network H always
      ≡ plus_over max 0 (greatest_with network H v) (numbers_below (slice_index (sizes network) v))
  splits v l =
      sym (plus_over_by_key max 0 (is_plus max greatest_lawful) (weight network H)
      (λ s. value_at s v) (slice_index (sizes network) v) (possible_states network H always)
      (each_of (λ s. value_at s v < slice_index (sizes network) v)
      (λ s. is_possible H s && true) (all_states network)
      (each_weaker (IsState (sizes network)) (λ s. value_at s v < slice_index (sizes network) v)
      (λ s st. value_below network v s l st) (all_states network) (all_are network))))
      ∙ ap (λ (g : ℕ → ℕ). plus_over max 0 g (numbers_below (slice_index (sizes network) v)))
      (fun_ext (λ x. ap (plus_over max 0 (weight network H))
      (filter-filter (λ s. is_possible H s && true) (λ s. eqb (value_at s v) x)
      (all_states network)
      ∙ ap (λ (p : List ℕ → Bool). filter p (all_states network))
      (fun_ext (λ s. tests (is_possible H s) (has (is_at v x) s))))))

  module _ (pairs : List Pair) where
    weight_by : List UserTrade → List ℕ → ℕ
    weight_by ts s = initial_weight network s
        * product_by (λ (t : UserTrade). ratio_at t.ratio s) ts

    greatest_by : (List ℕ → Bool) → List UserTrade → List Pair → ℕ
    unfolding weight_by
    greatest_by test ts known = plus_over max 0 (weight_by ts)
        (filter (λ s. holds known s && test s) (all_states network))

    pub greatest_learned : (test : List ℕ → Bool)
        → greatest network (learned H pairs) test
        ≡ greatest network H (λ s. holds pairs s && test s)
    unfolding weight_by greatest_by
    greatest_learned test =
        ap₂ (greatest_by test) (trades_learned H pairs) (resolutions_learned H pairs)
        ∙ ap (λ (p : List ℕ → Bool). plus_over max 0 (weight_by (trades H))
        (filter p (all_states network)))
        (fun_ext (λ s. ap (λ b. b && test s) (list_all-append (λ p. has p s) (resolutions H) pairs)
        ∙ three (holds (resolutions H) s) (holds pairs s) (test s)))

    pub greatest_left : greatest network (learned H pairs) always
        ≡ greatest network H (holds pairs)
    greatest_left = greatest_learned always ∙ ap (greatest network H)
        (fun_ext (λ s. and-true (holds pairs s)))

    pub weight_learned : (s : List ℕ) → weight network (learned H pairs) s ≡ weight network H s
    unfolding weight_by
    weight_learned s = ap (λ (ts : List UserTrade). weight_by ts s) (trades_learned H pairs)

    pub possible_learned : (s : List ℕ)
        → is_possible (learned H pairs) s ≡ (is_possible H s && holds pairs s)
    possible_learned s = ap (λ (ps : List Pair). holds ps s) (resolutions_learned H pairs)
        ∙ list_all-append (λ p. has p s) (resolutions H) pairs

pub learned_pair : (H : List Entry) (pairs : List Pair) (p : Pair)
    → learned H (pairs ++ p ∷ []) ≡ learned (learned H pairs) (p ∷ [])
learned_pair H pairs p =
    ap (λ (es : List Entry). H ++ es) (map-append Resolve pairs (p ∷ []))
    ∙ sym (append_assoc H (map Resolve pairs) (Resolve p ∷ []))
