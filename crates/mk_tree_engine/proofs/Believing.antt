-- A belief, once both passes were made.
use Rattle.std.proofs.Common.{◌≡◌, ℕ, suc, zero, ◌+◌, ◌-◌, ◌*◌, ◌<◌, ◌≤◌, max, Bool, true, false, not}
use Rattle.std.proofs.Common.{◌&&◌, eqb, List, [], ◌∷◌, Option, Some, map, length}
use Rattle.std.proofs.Common.{slice_index_or, sum_by, refl, sym, ap, subst, ◌∙◌, arith, eq-eqb}
use Rattle.std.proofs.Common.{ne_eqb}
use Rattle.std.proofs.lemmas.Bool.{and_from, not_from_false}
use Rattle.std.proofs.lemmas.List.{length-map}
use Rattle.std.proofs.Math.Seq.{take-length}
use Rattle.mk_net.specs.declared.words.Pair.{Pair}
use Rattle.mk_sets.specs.Sets.{no_variables}
use Rattle.mk_net.specs.Bounds.{number_limit}
use Rattle.mk_states.specs.States.{plus_over}
use Rattle.mk_sums.specs.Trees.{linked_to}
use Rattle.mk_sums.proofs.Hops as hops
use Rattle.mk_tree.specs.Given.{GivenTree, clique_at, link_of, holds_event}
use Rattle.mk_tree.specs.Tests.{cells_of}
use Rattle.mk_tree.specs.Held.{IsHeldAt}
use Rattle.mk_tree.specs.Checked.{IsTreeOf}
use Rattle.mk_engine.specs.Meaning.{Meaning, Factor, exact_belief, whole_sum, max_grade, tree_grade}
use Rattle.mk_engine.specs.Beliefs.{IsBelief}
use Rattle.mk_engine.specs.Apart.{IsApart, without_ratios}
use Rattle.mk_plan.specs.Shapes.{ShapeOf, IsClique, are_linked, next_on_way, clique_cells}
use Rattle.mk_propagate.specs.Placings.{Placing, PlacedFactor, PlacedPair, meaning_of}
use Rattle.mk_propagate.specs.Flows.{HasPlaced, AreRightInto, CanRead, IsReading, all_cells, reading_grade, counted_on}
use Rattle.mk_plan.proofs.Scopes.{clique_counted}
use Rattle.mk_propagate.proofs.Grading.{sum_of_first}
use Rattle.mk_tree_engine.specs.Engines.{MarkedFlow, HasTree, ClearsTowards, is_stale, leads_towards, placing_of, factor_home, pair_home, stale_number}
use Rattle.mk_tree_engine.specs.inner.Marks.{AreMarksOf, AreCurrentTowards, IsMarked}
use Rattle.mk_tree_engine.specs.inner.Passes.{AreCurrent, AreCollected, CanCollect, IsCount}
use Rattle.mk_tree_engine.proofs.Sums.{sum_same}

-- ---- grades

-- what is listed is at most the greatest
at_most_greatest : {X : Type 0} (f : X → ℕ) (xs : List X) (i : ℕ) (d : X) → i < length xs
    → f (slice_index_or xs i d) ≤ plus_over max 0 f xs
at_most_greatest f [] i d h = absurd (omega arith)
at_most_greatest f (x ∷ xs) zero d h = omega arith
at_most_greatest f (x ∷ xs) (suc i) d h =
    let l = at_most_greatest f xs i d (omega arith) in omega (arith, l)

module _ (tree : GivenTree) (p : Placing) (is : IsTreeOf p.network tree) where
  cells_listed : all_cells tree p ≡ sum_by (cells_of p.network) tree.cliques
  cells_listed =
      sum_same (λ j. true) (length tree.cliques) (clique_cells p.network tree)
      (λ j. cells_of p.network (clique_at tree j)) (λ j _ _ _. clique_counted p.network tree j)
      ∙ sum_of_first (cells_of p.network) tree.cliques no_variables (length tree.cliques)
      (omega arith)
      ∙ ap (sum_by (cells_of p.network)) (take-length tree.cliques)

  few_cells : all_cells tree p ≤ 32768
  few_cells = omega (arith, cells_listed, is.few_cells)

  small_clique : (k : ℕ) → IsClique tree k → clique_cells p.network tree k ≤ 4096
  small_clique k at_k =
      let p1 = at_k.first in let p2 = at_k.last in
      let l = is.small_cliques (k - 1) no_variables (omega arith) in
      omega (arith, l, clique_counted p.network tree k)

  pub grade_within : (k n : ℕ) → IsClique tree k → length p.factors ≡ n → reading_grade tree p k ≤ n + max_grade
  grade_within k n at_k e =
      let a = few_cells in let b = small_clique k at_k in let c = is.linked.few in
      omega (arith, a, b, c, e)

  pub within_tree : (k n : ℕ) → IsClique tree k → length p.factors ≡ n
      → reading_grade tree p k ≤ n + sum_by (cells_of p.network) tree.cliques
      + 2 * (length tree.cliques - 1) + plus_over max 0 (cells_of p.network) tree.cliques
  within_tree k n at_k e =
      let p1 = at_k.first in let p2 = at_k.last in
      let l = at_most_greatest (cells_of p.network) tree.cliques (k - 1) no_variables (omega arith)
      in
      omega (arith, e, cells_listed, l, clique_counted p.network tree k)

-- ---- what is placed is what is meant

factors_back : (g : Factor → ℕ) (fs : List Factor) → map (λ (f : PlacedFactor). f.factor) (map (λ (h : Factor). record { clique = g h; factor = h }) fs) ≡ fs
factors_back g [] = refl
factors_back g (f ∷ fs) = ap (λ (hs : List Factor). f ∷ hs) (factors_back g fs)

pairs_back : (g : Pair → ℕ) (qs : List Pair) → map (λ (q : PlacedPair). q.pair) (map (λ (r : Pair). record { clique = g r; pair = r }) qs) ≡ qs
pairs_back g [] = refl
pairs_back g (q ∷ qs) = ap (λ (rs : List Pair). q ∷ rs) (pairs_back g qs)

pub meaning_same : (m : Meaning) → meaning_of m.tree (placing_of m) ≡ m
meaning_same m =
    let make : List Factor → List Pair → Meaning = λ fs qs. record { network = m.network; tree = m.tree; factors = fs; known = qs } in
    ap (λ (fs : List Factor). make fs (map (λ (q : PlacedPair). q.pair) (placing_of m).known)) (factors_back (factor_home m.network m.tree) m.factors)
    ∙ ap (make m.factors) (pairs_back (pair_home m.tree) m.known)

-- ---- the state after the passes

-- the clique that holds an event of the engine as it is seen
pub held_in : (old now : MarkedFlow) (k : ℕ) (event : List Pair) → old ≡ now
    → IsHeldAt now.flow.shape.tree k event → IsHeldAt old.flow.shape.tree k event
held_in old now k event view held = subst (λ (e : MarkedFlow). IsHeldAt e.flow.shape.tree k event)
    (sym view) held

-- what is read in a clique is a belief of what the engine stands for
pub record IsRead {V : Type 0} (encloses : V → ℕ → Type 0) (has_grade : V → ℕ → Type 0)
    (is_exact : V → Type 0)
    (plus : ℕ → ℕ → ℕ) (m : Meaning) (k : ℕ) (event : List Pair) (value : V) : Type 0 where
  pub belief : IsBelief encloses has_grade is_exact plus m event value
  pub apart : IsApart m event → whole_sum (without_ratios m) < number_limit → is_exact value
  pub graded : has_grade value (tree_grade m)
  pub sharp : has_grade value (reading_grade m.tree (placing_of m) k)

module _ (plus : ℕ → ℕ → ℕ) (old : MarkedFlow) (marks_of : AreMarksOf old.flow.shape.tree old.stale_up old.stale_down) where
  pub current_of : (m : Meaning) → HasTree plus old m → AreCurrent plus old (placing_of m)
  current_of m h a b l fresh = h.current a b (subst (λ (t : GivenTree). are_linked t a b ≡ true) h.tree_is l) fresh

  pub can_collect : (m : Meaning) → HasTree plus old m → (c : ℕ) → IsClique old.flow.shape.tree c → CanCollect plus old c
  can_collect m h c at_c = record { placing = placing_of m; has = h.placed; current = current_of m h; clique_is = at_c; marks_of = marks_of }

  module _ (c : ℕ) (at_c : IsClique old.flow.shape.tree c) (new : MarkedFlow) (is : AreCollected plus c (λ k. not (eqb k c)) old new) where
    pub kept_tree : (m : Meaning) → HasTree plus old m → HasTree plus new m
    kept_tree m h =
        let t : new.flow.shape.tree ≡ m.tree = ap (λ (s : ShapeOf). s.tree) is.kept.same_shape ∙ h.tree_is in
        record {
          tree_is = t;
          placed = is.kept.placed (placing_of m) h.placed;
          current = λ a b l fresh. is.right (placing_of m) h.placed (current_of m h) a b (subst (λ (t : GivenTree). are_linked t a b ≡ true) (sym t) l) fresh;
        }

    pub clears : ClearsTowards old new c
    clears = λ a b l. is.marks a b l ∙ ap (λ t. is_stale old a b && not t) (twice (not (eqb a c)) (eqb (next_on_way old.flow.shape.tree a c) b))
      where
        twice : (x y : Bool) → ((x && y) && x) ≡ (x && y)
        twice true true = refl
        twice true false = refl
        twice false y = refl

    -- the clique that is kept then
    pub is_marked : (kept : Option ℕ) → kept ≡ Some c → IsMarked new.flow.shape.tree new.stale_up new.stale_down kept
    is_marked kept e = record {
      marks_of = is.marks_of;
      current = λ x f.
          let g : c ≡ x = cc in
          subst (AreCurrentTowards new.flow.shape.tree new.stale_up new.stale_down) g
          (subst (λ (s : ShapeOf). AreCurrentTowards s.tree new.stale_up new.stale_down c) (sym is.kept.same_shape) (record {
            clique_is = at_c;
            current = λ a b l t. clears a b l ∙ cleared (is_stale old a b) (leads_towards old.flow.shape.tree c a b) t;
          }));
    }
      where
        cleared : (x l : Bool) → l ≡ true → (x && not l) ≡ false
        cleared true l e = ap not e
        cleared false l e = refl

    pub counts : IsCount old.flow.computed → new.flow.computed ≡ counted_on old.flow.computed (stale_number old c)
    counts few = is.counted few

    into : (p : Placing) → HasPlaced plus old.flow p → AreCurrent plus old p → AreRightInto plus new.flow p c
    into p h current i l =
        let tree = old.flow.shape.tree in
        let linked : are_linked tree i c ≡ true = subst (λ (s : ShapeOf). linked_to (link_of s.tree) (length s.tree.cliques) c i ≡ true) is.kept.same_shape l in
        let n = hops.are_linked (link_of tree) (length tree.cliques) i c linked in
        let apart = (hops.ends (link_of tree) (length tree.cliques) i c marks_of.linked.earlier n).4 in
        let near : next_on_way tree i c ≡ c = hops.hop_near (link_of tree) (length tree.cliques) c i marks_of.linked.earlier (hops.linked_back (link_of tree) (length tree.cliques) i c n) in
        let leads : leads_towards tree c i c ≡ true = and_from (not (eqb i c)) (eqb (next_on_way tree i c) c) (not_from_false (eqb i c) (ne_eqb i c apart)) (eq-eqb (next_on_way tree i c) c near) in
        let fresh : is_stale new i c ≡ false = clears i c linked ∙ cleared (is_stale old i c) (leads_towards tree c i c) leads in
        is.right p h current i c (subst (λ (s : ShapeOf). are_linked s.tree i c ≡ true) (sym is.kept.same_shape) linked) fresh
      where
        cleared : (x l : Bool) → l ≡ true → (x && not l) ≡ false
        cleared true l e = ap not e
        cleared false l e = refl

    pub can_read : (m : Meaning) → HasTree plus old m → (event : List Pair) → holds_event event (clique_at old.flow.shape.tree c) ≡ true → CanRead plus new.flow c event
    can_read m h event holds = record {
      placing = placing_of m;
      has = is.kept.placed (placing_of m) h.placed;
      clique_is = subst (λ (s : ShapeOf). IsClique s.tree c) (sym is.kept.same_shape) at_c;
      holds_it = subst (λ (s : ShapeOf). holds_event event (clique_at s.tree c) ≡ true) (sym is.kept.same_shape) holds;
      right = into (placing_of m) h.placed (current_of m h);
    }

    -- what is read is the belief
    module _ {V : Type 0} (encloses : V → ℕ → Type 0) (has_grade : V → ℕ → Type 0) (is_exact : V → Type 0)
        (grade_more : (x : V) (g h : ℕ) → has_grade x g → g ≤ h → has_grade x h) (event : List Pair) (r : V)
        (reads : (p : Placing) → HasPlaced plus new.flow p → AreRightInto plus new.flow p c → IsReading encloses has_grade is_exact plus new.flow.shape.tree p c event r)
        (m : Meaning) (h : HasTree plus old m) where
      reading : IsReading encloses has_grade is_exact plus m.tree (placing_of m) c event r
      reading =
          subst (λ (t : GivenTree). IsReading encloses has_grade is_exact plus t (placing_of m) c event r) (ap (λ (s : ShapeOf). s.tree) is.kept.same_shape ∙ h.tree_is)
          (reads (placing_of m) (is.kept.placed (placing_of m) h.placed) (into (placing_of m) h.placed (current_of m h)))

      apart_of : IsApart m event → whole_sum (without_ratios m) < number_limit → is_exact r
      apart_of apart small =
          reading.apart (subst (λ (n : Meaning). IsApart n event) (sym (meaning_same m)) apart) (subst (λ (n : Meaning). whole_sum (without_ratios n) < number_limit) (sym (meaning_same m)) small)

      sharp : has_grade r (reading_grade m.tree (placing_of m) c)
      sharp = reading.grade

      tree_is : IsTreeOf m.network m.tree
      tree_is = subst (λ (t : GivenTree). IsTreeOf m.network t) h.tree_is h.placed.shape_is.tree_is

      clique_is : IsClique m.tree c
      clique_is = subst (λ (t : GivenTree). IsClique t c) h.tree_is at_c

      as_many : length (placing_of m).factors ≡ length m.factors
      as_many = length-map m.factors
          (λ f. record { clique = factor_home m.network m.tree f; factor = f })

      graded : has_grade r (tree_grade m)
      graded = grade_more r (reading_grade m.tree (placing_of m) c) (tree_grade m) sharp
          (within_tree m.tree (placing_of m) tree_is c (length m.factors) clique_is as_many)

      belief_of : IsBelief encloses has_grade is_exact plus m event r
      belief_of =
          let within = grade_within m.tree (placing_of m) tree_is c (length m.factors) clique_is
          as_many in
          record {
            value = subst (encloses r) (ap (λ (n : Meaning). exact_belief plus n event) (meaning_same m)) reading.enclosed;
            grade = grade_more r (reading_grade m.tree (placing_of m) c) (length m.factors + max_grade) reading.grade within;
            exact = λ small. reading.exact (subst (λ (n : Meaning). whole_sum n < number_limit) (sym (meaning_same m)) small);
          }

      pub is_read : IsRead encloses has_grade is_exact plus m c event r
      is_read = record { belief = belief_of; apart = apart_of; graded = graded; sharp = sharp }
