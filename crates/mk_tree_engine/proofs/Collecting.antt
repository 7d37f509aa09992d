-- What a pass has done so far, clique by clique.
use Rattle.std.proofs.Common.{◌≡◌, ℕ, ◌+◌, ◌-◌, ◌<◌, ◌≤◌, Bool, true, false, cond, not, ◌&&◌, ◌||◌, ◌⊎◌, inl, inr, eqb, ltb, length, refl, sym, ap, subst, ◌∙◌, arith, eq-eqb, ne_eqb}
use Rattle.std.proofs.Math.Bool.{and-true, or-true, or-false}
use Rattle.std.proofs.lemmas.Bool.{cases_eq, cases_order, cases_Bool, lt-ltb, le-ltb, and_parts, and_from, both_ways, eqb-true, ltb-true, or_left, or_right, not_from_false, false_from_ne_true, not-true}
use Rattle.std.proofs.lemmas.Bool.Decides.{same_from_decides, Decides-eqb}
use Rattle.mk_sums.specs.Trees.{linked_but, linked}
use Rattle.mk_sums.proofs.Hops as hops
use Rattle.mk_sums.proofs.Stale as stale
use Rattle.mk_tree.specs.Given as given
use Rattle.mk_tree.specs.Given.{GivenTree, link_of}
use Rattle.mk_plan.specs.Shapes.{ShapeOf, IsClique, are_linked, next_on_way}
use Rattle.mk_propagate.specs.Placings.{Placing}
use Rattle.mk_propagate.specs.Flows.{HasPlaced, AreRightBut, counted_on}
use Rattle.mk_tree_engine.specs.Engines.{MarkedFlow, is_stale, leads_towards}
use Rattle.mk_tree_engine.specs.inner.Marks.{AreMarksOf}
use Rattle.mk_tree_engine.specs.inner.Passes.{AreCurrent, IsMade, IsCount, AreCollected, stale_of, goes_up, goes_down, passed_up, passed_down}
use Rattle.mk_tree_engine.proofs.Sums.{sum_agree, sum_zero, sum_more}

-- marks that are cleared in two steps
marks_add : (x l d s t : Bool) → (s ≡ true → (d ≡ false) × (l ≡ t)) → ((x && not (l && d)) && not (s && t)) ≡ (x && not (l && (d || s)))
marks_add x l d false t h = and-true (x && not (l && d)) ∙ ap (λ b. x && not (l && b)) (sym (or-false d))
marks_add x l true true t h = absurd (both_ways true (h refl).0 refl)
marks_add true true false true true h = refl
marks_add true false false true false h = refl
marks_add false true false true true h = refl
marks_add false false false true false h = refl
marks_add x true false true false h = absurd (both_ways true (h refl).1 refl)
marks_add x false false true true h = absurd (both_ways false refl ((h refl).1))

none_cleared : (x l d : Bool) → d ≡ false → x ≡ (x && not (l && d))
none_cleared true true d e = ap not (sym e)
none_cleared true false d e = refl
none_cleared false l d e = refl

eqb_sym : (a b : ℕ) → eqb a b ≡ eqb b a
eqb_sym a b = same_from_decides {P = a ≡ b} (eqb a b) (eqb b a) (Decides-eqb a b)
    (λ e. sym (eqb-true b a e), λ e. eq-eqb b a (sym e))

counted_twice : (old mid new s n more : ℕ) → mid ≡ counted_on old s → new ≡ counted_on mid n → more ≡ s + n → new ≡ counted_on old more
counted_twice old mid new s n more e f g = omega arith

module _ (plus : ℕ → ℕ → ℕ) (c : ℕ) (old : MarkedFlow) where
  abbrev tree : GivenTree
  tree = old.flow.shape.tree

  -- where nothing was stale, nothing is to be done
  pub collected_already : (done : ℕ → Bool) → AreMarksOf old.flow.shape.tree old.stale_up old.stale_down
      → ((j : ℕ) → 1 ≤ j → j ≤ length old.flow.shape.tree.cliques → done j ≡ true → is_stale old j (next_on_way old.flow.shape.tree j c) ≡ false) → AreCollected plus c done old old
  collected_already done marks_of fresh = record {
    kept = record { same_shape = refl; same_tables = refl; same_factors = refl; placed = λ p h. h };
    marks_of = marks_of;
    marks = λ a b l.
        let n = hops.ends (link_of tree) (length tree.cliques) a b marks_of.linked.earlier (hops.are_linked (link_of tree) (length tree.cliques) a b l) in
        at a b (fresh a n.0 n.1) (cases_Bool (leads_towards tree c a b && done a));
    right = λ p h k. k;
    counted = λ few.
        let z = sum_zero done (length tree.cliques) (λ k. cond (is_stale old k (next_on_way tree k c)) 1 0) (λ j p q d. ap {B = ℕ} (λ t. cond t 1 0) (fresh j p q d)) in
        count (stale_of old c done) z few;
  }
    where
      count : (n : ℕ) → n ≡ 0 → IsCount old.flow.computed → old.flow.computed ≡ counted_on old.flow.computed n
      count n e few = omega arith

      none : (x t : Bool) → x ≡ false → x ≡ (x && not t)
      none true t e = absurd (both_ways true e refl)
      none false t e = refl

      all : (x t : Bool) → t ≡ false → x ≡ (x && not t)
      all x t e = sym (ap (λ b. x && not b) e ∙ and-true x)

      at : (a b : ℕ) → (done a ≡ true → is_stale old a (next_on_way tree a c) ≡ false) → (((leads_towards tree c a b && done a) ≡ true) ⊎ ((leads_towards tree c a b && done a) ≡ false))
          → is_stale old a b ≡ (is_stale old a b && not (leads_towards tree c a b && done a))
      at a b fresh_a (inl t) =
          let p = and_parts (leads_towards tree c a b) (done a) t in
          let q = and_parts (not (eqb a c)) (eqb (next_on_way tree a c) b) p.0 in
          none (is_stale old a b) (leads_towards tree c a b && done a) (ap (is_stale old a) (sym (eqb-true (next_on_way tree a c) b q.1)) ∙ fresh_a p.1)
      at a b fresh_a (inr f) = all (is_stale old a b) (leads_towards tree c a b && done a) f

  -- nothing is done yet
  pub collected_none : (done : ℕ → Bool) → AreMarksOf old.flow.shape.tree old.stale_up old.stale_down
      → ((j : ℕ) → 1 ≤ j → j ≤ length old.flow.shape.tree.cliques → done j ≡ false) → AreCollected plus c done old old
  collected_none done marks_of none = collected_already done marks_of (λ j p q d. absurd (both_ways (done j) (none j p q) d))

  module _ (mid : MarkedFlow) (done more : ℕ → Bool) (is : AreCollected plus c done old mid) where
    links : given.AreLinked tree
    links = subst (λ (s : ShapeOf). given.AreLinked s.tree) is.kept.same_shape is.marks_of.linked

    clique_of : (a b : ℕ) → are_linked tree a b ≡ true → (1 ≤ a) × (a ≤ length tree.cliques)
    clique_of a b l = let n = hops.ends (link_of tree) (length tree.cliques) a b links.earlier (hops.are_linked (link_of tree) (length tree.cliques) a b l) in (n.0, n.1)

    -- the same cliques, said otherwise
    pub collected_same : ((j : ℕ) → 1 ≤ j → j ≤ length old.flow.shape.tree.cliques → more j ≡ done j) → AreCollected plus c more old mid
    collected_same h = record {
      kept = is.kept;
      marks_of = is.marks_of;
      marks = λ a b l. let n = clique_of a b l in is.marks a b l ∙ ap (λ t. is_stale old a b && not (leads_towards tree c a b && t)) (sym (h a n.0 n.1));
      right = is.right;
      counted = λ few. is.counted few ∙ ap (counted_on old.flow.computed) (sym (sum_agree more done (length tree.cliques) (λ k. cond (is_stale old k (next_on_way tree k c)) 1 0) h));
    }

    module _ (clique : IsClique old.flow.shape.tree c) (k : ℕ) (at_k : IsClique old.flow.shape.tree k) (apart : k ≡ c → ⊥) where
      -- what a clique's message towards c is made of is right, where it is done
      pub inputs_right : (n : ℕ) → n ≡ next_on_way old.flow.shape.tree k c
          → ((i : ℕ) → linked_but (link_of old.flow.shape.tree) (length old.flow.shape.tree.cliques) k (next_on_way old.flow.shape.tree k c) i ≡ true → done i ≡ true)
          → (p : Placing) → HasPlaced plus old.flow p → AreCurrent plus old p → AreRightBut plus mid.flow p k n
      inputs_right n e inputs p h current i l =
          let but : linked_but (link_of tree) (length tree.cliques) k (next_on_way tree k c) i ≡ true =
          subst (λ (x : ℕ). linked_but (link_of tree) (length tree.cliques) k x i ≡ true) e
          (subst (λ (s : ShapeOf). linked_but (link_of s.tree) (length s.tree.cliques) k n i ≡ true) is.kept.same_shape l) in
          let parts = and_parts (linked (link_of tree) (length tree.cliques) i k) (not (eqb i (next_on_way tree k c))) but in
          let o = stale.collects_in_order (link_of tree) (length tree.cliques) links.earlier c k i clique.first clique.last at_k.first at_k.last apart but in
          let leads : leads_towards tree c i k ≡ true = and_from (not (eqb i c)) (eqb (next_on_way tree i c) k) (not_from_false (eqb i c) (ne_eqb i c o.0)) (eq-eqb (next_on_way tree i c) k o.1) in
          let fresh : is_stale mid i k ≡ false = is.marks i k parts.0 ∙ cleared (is_stale old i k) (leads_towards tree c i k) (done i) leads (inputs i but) in
          is.right p h current i k (subst (λ (s : ShapeOf). are_linked s.tree i k ≡ true) (sym is.kept.same_shape) parts.0) fresh
        where
          cleared : (x l d : Bool) → l ≡ true → d ≡ true → (x && not (l && d)) ≡ false
          cleared true l d e f = ap not (and_from l d e f)
          cleared false l d e f = refl

      -- one clique more is done
      pub collected_more : (new : MarkedFlow) (n : ℕ) → n ≡ next_on_way old.flow.shape.tree k c
          → done k ≡ false → ((j : ℕ) → 1 ≤ j → j ≤ length old.flow.shape.tree.cliques → more j ≡ (done j || eqb j k))
          → ((i : ℕ) → linked_but (link_of old.flow.shape.tree) (length old.flow.shape.tree.cliques) k (next_on_way old.flow.shape.tree k c) i ≡ true → done i ≡ true)
          → IsMade plus k n mid new → AreCollected plus c more old new
      collected_more new n e undone adds inputs made = record {
        kept = record {
          same_shape = made.kept.same_shape ∙ is.kept.same_shape;
          same_tables = made.kept.same_tables ∙ is.kept.same_tables;
          same_factors = made.kept.same_factors ∙ is.kept.same_factors;
          placed = λ p h. made.kept.placed p (is.kept.placed p h);
        };
        marks_of = made.marks_of;
        marks = left;
        right = λ p h current. made.right p (is.kept.placed p h) (inputs_right n e inputs p h current) (is.right p h current);
        counted = λ few.
            let a = is.counted few in
            let b = made.counted (within mid.flow.computed (stale_of old c done) a) in
            let s = sum_more done more (length tree.cliques) k (λ j. cond (is_stale old j (next_on_way tree j c)) 1 0) at_k.first at_k.last undone adds in
            counted_twice old.flow.computed mid.flow.computed new.flow.computed (stale_of old c done) (cond (is_stale old k (next_on_way tree k c)) 1 0) (stale_of old c more) a
            (b ∙ ap (λ t. counted_on mid.flow.computed (cond t 1 0)) as_before) s;
      }
        where
          within : (n s : ℕ) → n ≡ counted_on old.flow.computed s → IsCount n
          within n s h = omega arith

          linked_k : are_linked tree k (next_on_way tree k c) ≡ true
          linked_k = (stale.leads_towards (link_of tree) (length tree.cliques) links.earlier c k clique.first clique.last at_k.first at_k.last apart).0

          as_before : is_stale mid k n ≡ is_stale old k (next_on_way tree k c)
          as_before =
              ap (is_stale mid k) e ∙ is.marks k (next_on_way tree k c) linked_k
              ∙ sym (none_cleared (is_stale old k (next_on_way tree k c)) (leads_towards tree c k (next_on_way tree k c)) (done k) undone)

          leads_k : (a b : ℕ) → eqb a k ≡ true → (done a ≡ false) × (leads_towards tree c a b ≡ eqb b n)
          leads_k a b t =
              let f : a ≡ k = eqb-true a k t in (
                ap done f ∙ undone,
                ap (λ x. leads_towards tree c x b) f ∙ ap (λ x. not x && eqb (next_on_way tree k c) b) (ne_eqb k c apart) ∙ ap (λ x. eqb x b) (sym e) ∙ eqb_sym n b,
              )

          left : (a b : ℕ) → are_linked tree a b ≡ true → is_stale new a b ≡ (is_stale old a b && not (leads_towards tree c a b && more a))
          left a b l =
              let q = clique_of a b l in
              made.marks a b (subst (λ (s : ShapeOf). are_linked s.tree a b ≡ true) (sym is.kept.same_shape) l)
              ∙ ap (λ t. t && not (eqb a k && eqb b n)) (is.marks a b l)
              ∙ marks_add (is_stale old a b) (leads_towards tree c a b) (done a) (eqb a k) (eqb b n) (leads_k a b)
              ∙ ap (λ t. is_stale old a b && not (leads_towards tree c a b && t)) (sym (adds a q.0 q.1))

-- ---- the order of the passes

module _ (tree : GivenTree) (links : given.AreLinked tree) (c : ℕ) (clique : IsClique tree c) where
  pub up_parts : (k : ℕ) → goes_up tree c k ≡ true → (k ≡ c → ⊥) × (next_on_way tree k c < k)
  up_parts k h =
      let p = and_parts (not (eqb k c)) (ltb (next_on_way tree k c) k) h in
      (λ e. both_ways (eqb k c) (not-true (eqb k c) p.0) (eq-eqb k c e), ltb-true (next_on_way tree k c) k p.1)

  pub down_parts : (k : ℕ) → goes_down tree c k ≡ true → (k ≡ c → ⊥) × (k < next_on_way tree k c)
  down_parts k h =
      let p = and_parts (not (eqb k c)) (ltb k (next_on_way tree k c)) h in
      (λ e. both_ways (eqb k c) (not-true (eqb k c) p.0) (eq-eqb k c e), ltb-true k (next_on_way tree k c) p.1)

  up_from : (k : ℕ) → (k ≡ c → ⊥) → next_on_way tree k c < k → goes_up tree c k ≡ true
  up_from k d l = and_from (not (eqb k c)) (ltb (next_on_way tree k c) k) (not_from_false (eqb k c) (ne_eqb k c d)) (lt-ltb (next_on_way tree k c) k l)

  down_from : (k : ℕ) → (k ≡ c → ⊥) → k < next_on_way tree k c → goes_down tree c k ≡ true
  down_from k d l = and_from (not (eqb k c)) (ltb k (next_on_way tree k c)) (not_from_false (eqb k c) (ne_eqb k c d)) (lt-ltb k (next_on_way tree k c) l)

  module _ (k : ℕ) (at_k : IsClique tree k) where
    -- what a message upward is made of comes from later cliques, which go upward
    pub inputs_up : goes_up tree c k ≡ true → (i : ℕ) → linked_but (link_of tree) (length tree.cliques) k (next_on_way tree k c) i ≡ true → passed_up tree c k i ≡ true
    inputs_up h i but =
        let q = up_parts k h in
        let parts = and_parts (linked (link_of tree) (length tree.cliques) i k) (not (eqb i (next_on_way tree k c))) but in
        let o = stale.collects_in_order (link_of tree) (length tree.cliques) links.earlier c k i clique.first clique.last at_k.first at_k.last q.0 but in
        let l : k < i = later (hops.are_linked (link_of tree) (length tree.cliques) i k parts.0)
        (hops.hop_linked (link_of tree) (length tree.cliques) k c links.earlier at_k.first at_k.last clique.first clique.last (λ e. q.0 (sym e)))
        q.1 (λ e. both_ways (eqb i (next_on_way tree k c)) (not-true (eqb i (next_on_way tree k c)) parts.1) (eq-eqb i (next_on_way tree k c) e)) in
        and_from (ltb k i) (goes_up tree c i) (lt-ltb k i l) (up_from i o.0 (let e = o.1 in omega (arith, e, l)))
      where
        later : hops.AreLinked (link_of tree) (length tree.cliques) i k → hops.AreLinked (link_of tree) (length tree.cliques) (next_on_way tree k c) k
            → next_on_way tree k c < k → (i ≡ next_on_way tree k c → ⊥) → k < i
        later (inl p) n l d = let b = links.earlier i p.later p.within in omega (arith, b.1, p.link_is)
        later (inr p) (inl n) l d = let b = links.earlier (next_on_way tree k c) n.later n.within in absurd (omega (arith, b.1, n.link_is, l))
        later (inr p) (inr n) l d = absurd (d (sym p.link_is ∙ n.link_is))

    -- what a message downward is made of comes from cliques that go upward, or from earlier ones that go downward
    pub inputs_down : goes_down tree c k ≡ true → (i : ℕ) → linked_but (link_of tree) (length tree.cliques) k (next_on_way tree k c) i ≡ true → passed_down tree c (k - 1) i ≡ true
    inputs_down h i but =
        let q = down_parts k h in
        let parts = and_parts (linked (link_of tree) (length tree.cliques) i k) (not (eqb i (next_on_way tree k c))) but in
        let o = stale.collects_in_order (link_of tree) (length tree.cliques) links.earlier c k i clique.first clique.last at_k.first at_k.last q.0 but in
        let n = hops.ends (link_of tree) (length tree.cliques) i k links.earlier (hops.are_linked (link_of tree) (length tree.cliques) i k parts.0) in
        at o.0 o.1 n.4 (cases_order i k)
      where
        at : (i ≡ c → ⊥) → next_on_way tree i c ≡ k → (i ≡ k → ⊥) → ((i ≡ k) ⊎ ((i < k) ⊎ (k < i))) → passed_down tree c (k - 1) i ≡ true
        at d e f (inl g) = absurd (f g)
        at d e f (inr (inl l)) =
            let w : i < k - 1 + 1 = omega arith in
            or_right (goes_up tree c i) (ltb i (k - 1 + 1) && goes_down tree c i)
            (and_from (ltb i (k - 1 + 1)) (goes_down tree c i) (lt-ltb i (k - 1 + 1) w) (down_from i d (omega (arith, e, l))))
        at d e f (inr (inr l)) = or_left (goes_up tree c i) (ltb i (k - 1 + 1) && goes_down tree c i) (up_from i d (omega (arith, e, l)))

  -- a clique more is passed upward
  test_down : (k j : ℕ) → 1 ≤ k → ltb (k - 1) j ≡ (ltb k j || eqb j k)
  test_down k j p = at (cases_order j k)
    where
      at : ((j ≡ k) ⊎ ((j < k) ⊎ (k < j))) → ltb (k - 1) j ≡ (ltb k j || eqb j k)
      at (inl e) = lt-ltb (k - 1) j (omega arith) ∙ sym (or_right (ltb k j) (eqb j k) (eq-eqb j k e))
      at (inr (inl l)) = le-ltb (k - 1) j (omega arith) ∙ sym (ap (λ b. b || eqb j k) (le-ltb k j (omega arith)) ∙ ne_eqb j k (λ e. omega arith))
      at (inr (inr l)) = lt-ltb (k - 1) j (omega arith) ∙ sym (or_left (ltb k j) (eqb j k) (lt-ltb k j l))

  test_up : (k j : ℕ) → ltb j (k + 1) ≡ (ltb j k || eqb j k)
  test_up k j = at (cases_order j k)
    where
      at : ((j ≡ k) ⊎ ((j < k) ⊎ (k < j))) → ltb j (k + 1) ≡ (ltb j k || eqb j k)
      at (inl e) = lt-ltb j (k + 1) (omega arith) ∙ sym (or_right (ltb j k) (eqb j k) (eq-eqb j k e))
      at (inr (inl l)) = lt-ltb j (k + 1) (omega arith) ∙ sym (or_left (ltb j k) (eqb j k) (lt-ltb j k l))
      at (inr (inr l)) = le-ltb j (k + 1) (omega arith) ∙ sym (ap (λ b. b || eqb j k) (le-ltb j k (omega arith)) ∙ ne_eqb j k (λ e. omega arith))

  -- one clique more of a set that it is in, or is not in
  one_more : (t s u : Bool) → (s ≡ true → u ≡ true) → ((t || s) && u) ≡ ((t && u) || s)
  one_more true true u h = h refl ∙ sym (or-true u)
  one_more true false u h = sym (or-false u)
  one_more false true u h = h refl
  one_more false false u h = refl

  one_less : (t s u : Bool) → (s ≡ true → u ≡ false) → ((t || s) && u) ≡ (t && u)
  one_less true s u h = refl
  one_less false true u h = h refl
  one_less false false u h = refl

  pub up_more : (k j : ℕ) → 1 ≤ k → goes_up tree c k ≡ true → passed_up tree c (k - 1) j ≡ (passed_up tree c k j || eqb j k)
  up_more k j p h = ap (λ b. b && goes_up tree c j) (test_down k j p) ∙ one_more (ltb k j) (eqb j k) (goes_up tree c j) (λ e. ap (goes_up tree c) (eqb-true j k e) ∙ h)

  pub up_same : (k j : ℕ) → 1 ≤ k → goes_up tree c k ≡ false → passed_up tree c (k - 1) j ≡ passed_up tree c k j
  up_same k j p h = ap (λ b. b && goes_up tree c j) (test_down k j p) ∙ one_less (ltb k j) (eqb j k) (goes_up tree c j) (λ e. ap (goes_up tree c) (eqb-true j k e) ∙ h)

  or_more : (x y s : Bool) → (x || (y || s)) ≡ ((x || y) || s)
  or_more true y s = refl
  or_more false y s = refl

  pub down_more : (k j : ℕ) → 1 ≤ k → goes_down tree c k ≡ true → passed_down tree c k j ≡ (passed_down tree c (k - 1) j || eqb j k)
  down_more k j p h =
      let e : k - 1 + 1 ≡ k = omega arith in
      ap (λ b. goes_up tree c j || (b && goes_down tree c j)) (test_up k j)
      ∙ ap (λ b. goes_up tree c j || b) (one_more (ltb j k) (eqb j k) (goes_down tree c j) (λ f. ap (goes_down tree c) (eqb-true j k f) ∙ h))
      ∙ or_more (goes_up tree c j) (ltb j k && goes_down tree c j) (eqb j k)
      ∙ ap (λ n. (goes_up tree c j || (ltb j n && goes_down tree c j)) || eqb j k) (sym e)

  pub down_same : (k j : ℕ) → 1 ≤ k → goes_down tree c k ≡ false → passed_down tree c k j ≡ passed_down tree c (k - 1) j
  down_same k j p h =
      let e : k - 1 + 1 ≡ k = omega arith in
      ap (λ b. goes_up tree c j || (b && goes_down tree c j)) (test_up k j)
      ∙ ap (λ b. goes_up tree c j || b) (one_less (ltb j k) (eqb j k) (goes_down tree c j) (λ f. ap (goes_down tree c) (eqb-true j k f) ∙ h))
      ∙ ap (λ n. goes_up tree c j || (ltb j n && goes_down tree c j)) (sym e)

  -- no clique goes both ways
  pub not_up : (k : ℕ) → goes_down tree c k ≡ true → goes_up tree c k ≡ false
  not_up k h = let q = down_parts k h in false_from_ne_true (goes_up tree c k) (λ u. let r = up_parts k u in omega (arith, q.1, r.1))

  -- after the first pass no clique has gone downward
  pub down_begins : (j : ℕ) → 1 ≤ j → passed_down tree c 0 j ≡ passed_up tree c 0 j
  down_begins j p =
      ap (λ b. goes_up tree c j || (b && goes_down tree c j)) (le-ltb j 1 p) ∙ or-false (goes_up tree c j) ∙ sym (ap (λ b. b && goes_up tree c j) (lt-ltb 0 j (omega arith)))

  -- after both each clique but c has sent its message
  pub all_passed : (j : ℕ) → 1 ≤ j → j ≤ length tree.cliques → passed_down tree c (length tree.cliques) j ≡ not (eqb j c)
  all_passed j p q = at (cases_eq j c)
    where
      at : ((j ≡ c) ⊎ (j ≡ c → ⊥)) → passed_down tree c (length tree.cliques) j ≡ not (eqb j c)
      at (inl e) =
          let t = eq-eqb j c e in
          ap (λ b. (not b && ltb (next_on_way tree j c) j) || (ltb j (length tree.cliques + 1) && (not b && ltb j (next_on_way tree j c)))) t
          ∙ and_none (ltb j (length tree.cliques + 1)) ∙ sym (ap not t)
        where
          and_none : (b : Bool) → (b && false) ≡ false
          and_none true = refl
          and_none false = refl
      at (inr d) =
          let l = hops.hop_linked (link_of tree) (length tree.cliques) j c links.earlier p q clique.first clique.last (λ e. d (sym e)) in
          let n = hops.ends (link_of tree) (length tree.cliques) (next_on_way tree j c) j links.earlier l in
          ways d n.4 (cases_order (next_on_way tree j c) j) ∙ sym (ap not (ne_eqb j c d))
        where
          ways : (j ≡ c → ⊥) → (next_on_way tree j c ≡ j → ⊥) → ((next_on_way tree j c ≡ j) ⊎ ((next_on_way tree j c < j) ⊎ (j < next_on_way tree j c))) → passed_down tree c (length tree.cliques) j ≡ true
          ways d f (inl e) = absurd (f e)
          ways d f (inr (inl l)) = or_left (goes_up tree c j) (ltb j (length tree.cliques + 1) && goes_down tree c j) (up_from j d l)
          ways d f (inr (inr l)) =
              or_right (goes_up tree c j) (ltb j (length tree.cliques + 1) && goes_down tree c j)
              (and_from (ltb j (length tree.cliques + 1)) (goes_down tree c j) (lt-ltb j (length tree.cliques + 1) (omega arith)) (down_from j d l))
