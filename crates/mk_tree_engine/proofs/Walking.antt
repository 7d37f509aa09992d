-- The messages on the way from one clique to another, where all that lead towards the one are current.
use Rattle.std.proofs.Common.{◌≡◌, ℕ, ◌<◌, ◌≤◌, Bool, true, false, not, ◌&&◌, ◌||◌, ◌⊎◌, inl, inr, eqb, length, refl, sym, ap, ◌∙◌, arith, eq-eqb, ne_eqb}
use Rattle.std.proofs.Math.Bool.{and-false, or-true, or-false}
use Rattle.std.proofs.lemmas.Bool.{cases_eq, and_parts, and_from, both_ways, eqb-true, not-true, not_from_false}
use Rattle.mk_sums.specs.Trees.{linked_but, linked}
use Rattle.mk_sums.proofs.Hops as hops
use Rattle.mk_sums.proofs.Stale as stale
use Rattle.mk_tree.specs.Given as given
use Rattle.mk_tree.specs.Given.{GivenTree, link_of}
use Rattle.mk_plan.specs.Shapes.{ShapeOf, IsClique, is_behind, next_on_way}
use Rattle.mk_propagate.specs.Flows.{CanSend}
use Rattle.mk_tree_engine.specs.Engines.{MarkedFlow, is_stale, leads_towards}
use Rattle.mk_tree_engine.specs.inner.Marks.{AreCurrentTowards}
use Rattle.mk_tree_engine.specs.inner.Passes.{IsMade, AreCollected, CanCollect, is_off_way, number_on_way}
use Rattle.mk_tree_engine.proofs.Sums.{sum_more}
use Rattle.mk_tree_engine.proofs.Collecting.{collected_already, collected_same, collected_more}
use Rattle.mk_tree_engine.proofs.Steps.{sends}

module _ (tree : GivenTree) (links : given.AreLinked tree) (c : ℕ) (at_c : IsClique tree c) where
  off_from : (from j : ℕ) → (j ≡ c → ⊥) → (j ≡ from → ⊥) → next_on_way tree j from ≡ next_on_way tree j c → is_off_way tree from c j ≡ true
  off_from from j d e f =
      and_from (not (eqb j c)) (leads_towards tree from j (next_on_way tree j c)) (not_from_false (eqb j c) (ne_eqb j c d))
      (and_from (not (eqb j from)) (eqb (next_on_way tree j from) (next_on_way tree j c)) (not_from_false (eqb j from) (ne_eqb j from e)) (eq-eqb (next_on_way tree j from) (next_on_way tree j c) f))

  -- each way goes on from its first clique
  begins : (from j : ℕ) → j ≡ from → is_off_way tree from c j ≡ false
  begins from j e = ap (λ b. not (eqb j c) && (not b && eqb (next_on_way tree j from) (next_on_way tree j c))) (eq-eqb j from e) ∙ and-false (not (eqb j c))

  parts_ways : (from j : ℕ) → (next_on_way tree j from ≡ next_on_way tree j c → ⊥) → is_off_way tree from c j ≡ false
  parts_ways from j d =
      ap (λ b. not (eqb j c) && (not (eqb j from) && b)) (ne_eqb (next_on_way tree j from) (next_on_way tree j c) d)
      ∙ ap (λ b. not (eqb j c) && b) (and-false (not (eqb j from))) ∙ and-false (not (eqb j c))

  ends_at : (from j : ℕ) → j ≡ c → is_off_way tree from c j ≡ false
  ends_at from j e = ap (λ b. not b && leads_towards tree from j (next_on_way tree j c)) (eq-eqb j c e)

  -- at its end all but the last clique are off the way
  pub all_off : (from j : ℕ) → from ≡ c → not (eqb j c) ≡ is_off_way tree from c j
  all_off from j e =
      sym (ap (λ x. not (eqb j c) && (not (eqb j x) && eqb (next_on_way tree j x) (next_on_way tree j c))) e
      ∙ ap (λ b. not (eqb j c) && (not (eqb j c) && b)) (eq-eqb (next_on_way tree j c) (next_on_way tree j c) refl) ∙ twice (not (eqb j c)))
    where
      twice : (x : Bool) → (x && (x && true)) ≡ x
      twice true = refl
      twice false = refl

  module _ (k : ℕ) (at_k : IsClique tree k) (apart : k ≡ c → ⊥) where
    next_linked : hops.AreLinked (link_of tree) (length tree.cliques) (next_on_way tree k c) k
    next_linked = hops.hop_linked (link_of tree) (length tree.cliques) k c links.earlier at_k.first at_k.last at_c.first at_c.last (λ e. apart (sym e))

    linked_next : hops.AreLinked (link_of tree) (length tree.cliques) k (next_on_way tree k c)
    linked_next = hops.linked_back (link_of tree) (length tree.cliques) (next_on_way tree k c) k next_linked

    pub next_is_clique : IsClique tree (next_on_way tree k c)
    next_is_clique = let n = hops.ends (link_of tree) (length tree.cliques) (next_on_way tree k c) k links.earlier next_linked in record { first = n.0; last = n.1 }

    differs : k ≡ next_on_way tree k c → ⊥
    differs e = (hops.ends (link_of tree) (length tree.cliques) (next_on_way tree k c) k links.earlier next_linked).4 (sym e)

    -- the way does not turn back
    not_back : (next_on_way tree k c ≡ c → ⊥) → next_on_way tree (next_on_way tree k c) c ≡ k → ⊥
    not_back f e =
        both_ways (is_behind tree k (next_on_way tree k c) c)
        (hops.side (link_of tree) (length tree.cliques) k (next_on_way tree k c) c links.earlier linked_next at_c.first at_c.last
        ∙ ap not (hops.behind_from (link_of tree) (length tree.cliques) (next_on_way tree k c) k c (λ g. apart (sym g)) refl))
        (hops.behind_from (link_of tree) (length tree.cliques) k (next_on_way tree k c) c (λ g. f (sym g)) e)

    -- a step takes one clique more off the way: the one that it leaves
    pub off_more : (j : ℕ) → 1 ≤ j → j ≤ length tree.cliques → is_off_way tree (next_on_way tree k c) c j ≡ (is_off_way tree k c j || eqb j k)
    off_more j p q = at (cases_eq j k) (cases_eq j c) (cases_eq j (next_on_way tree k c))
      where
        left : (j ≡ k → ⊥) → (is_off_way tree k c j || eqb j k) ≡ is_off_way tree k c j
        left d = ap (λ b. is_off_way tree k c j || b) (ne_eqb j k d) ∙ or-false (is_off_way tree k c j)

        at : ((j ≡ k) ⊎ (j ≡ k → ⊥)) → ((j ≡ c) ⊎ (j ≡ c → ⊥)) → ((j ≡ next_on_way tree k c) ⊎ (j ≡ next_on_way tree k c → ⊥))
            → is_off_way tree (next_on_way tree k c) c j ≡ (is_off_way tree k c j || eqb j k)
        at (inl e) _ _ =
            ap (is_off_way tree (next_on_way tree k c) c) e
            ∙ off_from (next_on_way tree k c) k apart differs (hops.hop_near (link_of tree) (length tree.cliques) (next_on_way tree k c) k links.earlier next_linked)
            ∙ sym (ap (λ b. is_off_way tree k c j || b) (eq-eqb j k e) ∙ or-true (is_off_way tree k c j))
        at (inr d) (inl e) _ = ends_at (next_on_way tree k c) j e ∙ sym (left d ∙ ends_at k j e)
        at (inr d) (inr f) (inl e) =
            let near : next_on_way tree j k ≡ k = ap (λ x. next_on_way tree x k) e ∙ hops.hop_near (link_of tree) (length tree.cliques) k (next_on_way tree k c) links.earlier linked_next in
            begins (next_on_way tree k c) j e
            ∙ sym (left d ∙ parts_ways k j (λ g. not_back (λ h. f (e ∙ h)) (ap (λ x. next_on_way tree x c) (sym e) ∙ sym g ∙ near)))
        at (inr d) (inr f) (inr n) =
            let same = hops.hop_step (link_of tree) (length tree.cliques) j k (next_on_way tree k c) links.earlier linked_next p q d n in
            ap (λ b. not (eqb j c) && (not b && eqb (next_on_way tree j (next_on_way tree k c)) (next_on_way tree j c))) (ne_eqb j (next_on_way tree k c) n)
            ∙ ap (λ x. not (eqb j c) && eqb x (next_on_way tree j c)) (sym same)
            ∙ sym (left d ∙ ap (λ b. not (eqb j c) && (not b && eqb (next_on_way tree j k) (next_on_way tree j c))) (ne_eqb j k d))

    -- and so the way grows shorter
    pub way_shorter : number_on_way tree (next_on_way tree k c) c < number_on_way tree k c
    way_shorter =
        let e = sum_more (λ j. not (is_off_way tree (next_on_way tree k c) c j)) (λ j. not (is_off_way tree k c j)) (length tree.cliques) k (λ j. 1) at_k.first at_k.last
        (ap not (off_more k at_k.first at_k.last ∙ ap (λ b. is_off_way tree k c k || b) (eq-eqb k k refl) ∙ or-true (is_off_way tree k c k)))
        (λ j p q. on_more (is_off_way tree k c j) (eqb j k) (λ t. begins k j (eqb-true j k t)) ∙ ap (λ b. not b || eqb j k) (sym (off_more j p q))) in
        omega (arith, e)
      where
        on_more : (x e : Bool) → (e ≡ true → x ≡ false) → not x ≡ (not (x || e) || e)
        on_more x true h = ap not (h refl) ∙ sym (or-true (not (x || true)))
        on_more true false h = refl
        on_more false false h = refl

    -- what the message on the way is made of comes from cliques off the way
    pub inputs_off : (i : ℕ) → linked_but (link_of tree) (length tree.cliques) k (next_on_way tree k c) i ≡ true → is_off_way tree k c i ≡ true
    inputs_off i but =
        let o = stale.collects_in_order (link_of tree) (length tree.cliques) links.earlier c k i at_c.first at_c.last at_k.first at_k.last apart but in
        let parts = and_parts (linked (link_of tree) (length tree.cliques) i k) (not (eqb i (next_on_way tree k c))) but in
        let l = hops.are_linked (link_of tree) (length tree.cliques) i k parts.0 in
        off_from k i o.0 ((hops.ends (link_of tree) (length tree.cliques) i k links.earlier l).4)
        (hops.hop_near (link_of tree) (length tree.cliques) k i links.earlier (hops.linked_back (link_of tree) (length tree.cliques) i k l) ∙ sym o.1)

-- ---- the turns

module _ (plus : ℕ → ℕ → ℕ) (c : ℕ) (old : MarkedFlow) (could : CanCollect plus old c) where
  pub walk_begins : (from : ℕ) → AreCurrentTowards old.flow.shape.tree old.stale_up old.stale_down from → AreCollected plus c (is_off_way old.flow.shape.tree from c) old old
  walk_begins from towards = collected_already plus c old (is_off_way old.flow.shape.tree from c) could.marks_of (λ j p q off. at j p q off)
    where
      at : (j : ℕ) → 1 ≤ j → j ≤ length old.flow.shape.tree.cliques → is_off_way old.flow.shape.tree from c j ≡ true → is_stale old j (next_on_way old.flow.shape.tree j c) ≡ false
      at j p q off =
          let tree = old.flow.shape.tree in
          let parts = and_parts (not (eqb j c)) (leads_towards tree from j (next_on_way tree j c)) off in
          let apart : j ≡ c → ⊥ = λ e. both_ways (eqb j c) (not-true (eqb j c) parts.0) (eq-eqb j c e) in
          towards.current j (next_on_way tree j c)
          ((stale.leads_towards (link_of tree) (length tree.cliques) could.marks_of.linked.earlier c j could.clique_is.first could.clique_is.last p q apart).0) parts.1

  module _ (mid : MarkedFlow) (k : ℕ) (at_k : IsClique old.flow.shape.tree k) (is : AreCollected plus c (is_off_way old.flow.shape.tree k c) old mid) where
    pub walk_sends : (k ≡ c → ⊥) → CanSend plus mid.flow k (next_on_way mid.flow.shape.tree k c)
    walk_sends apart =
        sends plus c old could mid k at_k (is_off_way old.flow.shape.tree k c) is apart
        (inputs_off old.flow.shape.tree could.marks_of.linked c could.clique_is k at_k apart)

    pub walk_step : (k ≡ c → ⊥) → (new : MarkedFlow) → IsMade plus k (next_on_way mid.flow.shape.tree k c) mid new
        → AreCollected plus c (is_off_way old.flow.shape.tree (next_on_way old.flow.shape.tree k c) c) old new
    walk_step apart new made =
        let tree = old.flow.shape.tree in
        collected_more plus c old mid (is_off_way tree k c) (is_off_way tree (next_on_way tree k c) c) is could.clique_is k at_k apart
        new (next_on_way mid.flow.shape.tree k c) (ap (λ (s : ShapeOf). next_on_way s.tree k c) is.kept.same_shape)
        (begins tree could.marks_of.linked c could.clique_is k k refl)
        (off_more tree could.marks_of.linked c could.clique_is k at_k apart)
        (inputs_off tree could.marks_of.linked c could.clique_is k at_k apart) made

    pub walk_ends : k ≡ c → AreCollected plus c (λ j. not (eqb j c)) old mid
    walk_ends e =
        collected_same plus c old mid (is_off_way old.flow.shape.tree k c) (λ j. not (eqb j c)) is
        (λ j p q. all_off old.flow.shape.tree could.marks_of.linked c could.clique_is k j e)
