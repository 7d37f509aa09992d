-- What the messages that were made so far leave, and one message more.
use Rattle.std.proofs.Common.{◌≡◌, ◌≢◌, ℕ, ◌+◌, ◌<◌, true, ◌⊎◌, inl, inr, length, refl, sym, ap, subst, ◌∙◌, arith}
use Rattle.std.proofs.lemmas.Bool.{cases_eq}
use Rattle.mk_sums.specs.Trees.{linked_but}
use Rattle.mk_tree.specs.Given.{GivenTree, link_of}
use Rattle.mk_tree.specs.Given as given
use Rattle.mk_plan.specs.Shapes.{ShapeOf, IsClique, are_linked, next_on_way}
use Rattle.mk_propagate.specs.Placings.{Placing}
use Rattle.mk_propagate.specs.Flows.{FlowOf, message_at, HasPlaced, IsRight, AreRightBut, CanSend, KeepsTables, counted_on}
use Rattle.mk_propagate.proofs.Placed.{right_kept}
use Rattle.mk_propagate.proofs.Order.{next_is, towards_linked, away_linked, no_return, IsInput, input, away_input}

-- what a call of `message` ensures
pub record IsSent (plus : ℕ → ℕ → ℕ) (old new : FlowOf) (from to : ℕ) : Type 0 where
  pub right : (p : Placing) → HasPlaced plus old p → AreRightBut plus old p from to → IsRight plus new p from to
  pub others : (a b : ℕ) → are_linked old.shape.tree a b ≡ true → ((a ≡ from) × (b ≡ to) → ⊥) → message_at new a b ≡ message_at old a b
  pub kept : KeepsTables plus old new
  pub counted : new.computed ≡ counted_on old.computed 1

-- in a tree, so that the flow's own may be an equal one: some messages towards a root, or away from it, are right
abbrev pub RightFrom : (ℕ → ℕ → ℕ) → FlowOf → Placing → GivenTree → ℕ → (ℕ → Type 0) → Type 0
RightFrom plus flow p tree root these = (k : ℕ) → IsClique tree k → these k → IsRight plus flow p k (next_on_way tree k root)

abbrev pub RightTo : (ℕ → ℕ → ℕ) → FlowOf → Placing → GivenTree → ℕ → (ℕ → Type 0) → Type 0
RightTo plus flow p tree root these = (k : ℕ) → IsClique tree k → these k → IsRight plus flow p (next_on_way tree k root) k

abbrev pub RightBut : (ℕ → ℕ → ℕ) → FlowOf → Placing → GivenTree → ℕ → ℕ → Type 0
RightBut plus flow p tree a b = (i : ℕ) → linked_but (link_of tree) (length tree.cliques) a b i ≡ true → IsRight plus flow p i a

-- ---- tables that are kept

pub tree_kept : (plus : ℕ → ℕ → ℕ) (old new : FlowOf) → KeepsTables plus old new → new.shape.tree ≡ old.shape.tree
tree_kept plus old new kept = ap (λ (s : ShapeOf). s.tree) kept.same_shape

pub kept_twice : (plus : ℕ → ℕ → ℕ) (a b c : FlowOf) → KeepsTables plus a b → KeepsTables plus b c → KeepsTables plus a c
kept_twice plus a b c h k = record {
  same_shape = k.same_shape ∙ h.same_shape;
  same_tables = k.same_tables ∙ h.same_tables;
  same_factors = k.same_factors ∙ h.same_factors;
  placed = λ p had. k.placed p (h.placed p had);
}

pub counted_more : (computed mid new made : ℕ) → mid ≡ counted_on computed made → new ≡ counted_on mid 1 → new ≡ counted_on computed (made + 1)
counted_more computed mid new made e f = omega (arith, e, f)

pub counted_both : (computed mid new made more : ℕ) → mid ≡ counted_on computed made → new ≡ counted_on mid more → new ≡ counted_on computed (made + more)
counted_both computed mid new made more e f = omega (arith, e, f)

pub counted_none : (computed : ℕ) → computed < 18446744073709551616 → computed ≡ counted_on computed 0
counted_none computed l = omega arith

-- ---- one message more

module _ (plus : ℕ → ℕ → ℕ) (start now : FlowOf) (kept : KeepsTables plus start now) (a b : ℕ) where
  but_now : (p : Placing) → RightBut plus now p start.shape.tree a b → AreRightBut plus now p a b
  but_now p h = subst (λ (t : GivenTree). RightBut plus now p t a b) (sym (tree_kept plus start now kept)) h

  pub can_send : (p : Placing) → HasPlaced plus start p → are_linked start.shape.tree a b ≡ true → RightBut plus now p start.shape.tree a b → CanSend plus now a b
  can_send p has l h = record {
    placing = p;
    has = kept.placed p has;
    linked_too = subst (λ (t : GivenTree). are_linked t a b ≡ true) (sym (tree_kept plus start now kept)) l;
    right = but_now p h;
  }

  module _ (new : FlowOf) (sent : IsSent plus now new a b) where
    pub sent_right : (p : Placing) → HasPlaced plus start p → RightBut plus now p start.shape.tree a b → IsRight plus new p a b
    sent_right p has h = sent.right p (kept.placed p has) (but_now p h)

    pub sent_still : (p : Placing) (i j : ℕ) → are_linked start.shape.tree i j ≡ true → ((i ≡ a) × (j ≡ b) → ⊥) → IsRight plus now p i j → IsRight plus new p i j
    sent_still p i j l d r =
        right_kept plus now new p p i j sent.kept.same_shape (sent.others i j (subst (λ (t : GivenTree). are_linked t i j ≡ true) (sym (tree_kept plus start now kept)) l) d) refl refl refl (λ pair h. h) r

-- ---- messages towards a root

pub record IsCollecting (plus : ℕ → ℕ → ℕ) (start now : FlowOf) (before : Placing → Type 0) (root : ℕ) (these : ℕ → Type 0) (made : ℕ) : Type 0 where
  pub kept : KeepsTables plus start now
  pub right : (p : Placing) → HasPlaced plus start p → before p → RightFrom plus now p start.shape.tree root these
  pub counted : now.computed ≡ counted_on start.computed made

module _ (plus : ℕ → ℕ → ℕ) (start now : FlowOf) (before : Placing → Type 0) (root : ℕ) (these : ℕ → Type 0) (made : ℕ) (h : IsCollecting plus start now before root these made)
    (tied : given.AreLinked start.shape.tree) (at_root : IsClique start.shape.tree root) (k : ℕ) (is : IsClique start.shape.tree k) (d : k ≢ root)
    (inputs : (i : ℕ) → IsInput start.shape.tree tied root at_root k i → these i) (to : ℕ) (to_is : to ≡ next_on_way start.shape.tree k root) where
  collected : (p : Placing) → HasPlaced plus start p → before p → RightBut plus now p start.shape.tree k to
  collected p has b i l =
      let o = input start.shape.tree tied root at_root k is d i (subst (λ (t : ℕ). linked_but (link_of start.shape.tree) (length start.shape.tree.cliques) k t i ≡ true) to_is l) in
      subst (λ (t : ℕ). IsRight plus now p i t) o.leads (h.right p has b i o.clique_is (inputs i o))

  pub can_collect : (p : Placing) → HasPlaced plus start p → before p → CanSend plus now k to
  can_collect p has b = can_send plus start now h.kept k to p has (subst (λ (t : ℕ). are_linked start.shape.tree k t ≡ true) (sym to_is)
      (towards_linked start.shape.tree tied root at_root k is d)) (collected p has b)

  pub collecting_more : (new : FlowOf) → IsSent plus now new k to → (more : ℕ → Type 0) → ((j : ℕ) → more j → (j ≡ k) ⊎ ((j ≢ root) × these j))
      → IsCollecting plus start new before root more (made + 1)
  collecting_more new sent more cases = record {
    kept = kept_twice plus start now new h.kept sent.kept;
    right = λ p has b j at m. from p has b j at (cases_eq j k) (cases j m);
    counted = counted_more start.computed now.computed new.computed made h.counted sent.counted;
  }
    where
      from : (p : Placing) → HasPlaced plus start p → before p → (j : ℕ) → IsClique start.shape.tree j → ((j ≡ k) ⊎ (j ≡ k → ⊥))
          → ((j ≡ k) ⊎ ((j ≢ root) × these j)) → IsRight plus new p j (next_on_way start.shape.tree j root)
      from p has b j at (inl e) _ =
          subst (λ (i : ℕ). IsRight plus new p i (next_on_way start.shape.tree i root)) (sym e)
          (subst (λ (t : ℕ). IsRight plus new p k t) to_is (sent_right plus start now h.kept k to new sent p has (collected p has b)))
      from p has b j at (inr f) (inl e) = absurd (f e)
      from p has b j at (inr f) (inr o) =
          sent_still plus start now h.kept k to new sent p j (next_on_way start.shape.tree j root)
          (towards_linked start.shape.tree tied root at_root j at o.0) (λ (q : (j ≡ k) × (next_on_way start.shape.tree j root ≡ to)). f q.0)
          (h.right p has b j at o.1)

-- ---- messages away from it

pub record IsDistributing (plus : ℕ → ℕ → ℕ) (start now : FlowOf) (before : Placing → Type 0) (root : ℕ) (these : ℕ → Type 0) (made : ℕ) : Type 0 where
  pub kept : KeepsTables plus start now
  pub towards : (p : Placing) → HasPlaced plus start p → before p → RightFrom plus now p start.shape.tree root (λ k. k ≢ root)
  pub right : (p : Placing) → HasPlaced plus start p → before p → RightTo plus now p start.shape.tree root these
  pub counted : now.computed ≡ counted_on start.computed made

module _ (plus : ℕ → ℕ → ℕ) (start now : FlowOf) (before : Placing → Type 0) (root : ℕ) (these : ℕ → Type 0) (made : ℕ) (h : IsDistributing plus start now before root these made)
    (tied : given.AreLinked start.shape.tree) (at_root : IsClique start.shape.tree root) (k : ℕ) (is : IsClique start.shape.tree k) (d : k ≢ root)
    (inputs : next_on_way start.shape.tree k root ≢ root → these (next_on_way start.shape.tree k root)) (from : ℕ) (from_is : from ≡ next_on_way start.shape.tree k root) where
  gathered : (p : Placing) → HasPlaced plus start p → before p → RightBut plus now p start.shape.tree from k
  gathered p has b i l =
      subst (λ (t : ℕ). IsRight plus now p i t) (sym from_is)
      (at (away_input start.shape.tree tied root at_root k is d i (subst (λ (t : ℕ). linked_but (link_of start.shape.tree) (length start.shape.tree.cliques) t k i ≡ true) from_is l)))
    where
      there : ℕ
      there = next_on_way start.shape.tree k root

      at : (IsClique start.shape.tree i × (i ≢ root) × (next_on_way start.shape.tree i root ≡ next_on_way start.shape.tree k root))
          ⊎ ((next_on_way start.shape.tree k root ≢ root) × (i ≡ next_on_way start.shape.tree (next_on_way start.shape.tree k root) root))
          → IsRight plus now p i (next_on_way start.shape.tree k root)
      at (inl o) = subst (λ (t : ℕ). IsRight plus now p i t) o.2 (h.towards p has b i o.0 o.1)
      at (inr o) =
          subst (λ (j : ℕ). IsRight plus now p j (next_on_way start.shape.tree k root)) (sym o.1)
          (h.right p has b (next_on_way start.shape.tree k root) (next_is start.shape.tree tied root at_root k is d) (inputs o.0))

  pub can_distribute : (p : Placing) → HasPlaced plus start p → before p → CanSend plus now from k
  can_distribute p has b = can_send plus start now h.kept from k p has (subst (λ (t : ℕ). are_linked start.shape.tree t k ≡ true) (sym from_is)
      (away_linked start.shape.tree tied root at_root k is d)) (gathered p has b)

  pub distributing_more : (new : FlowOf) → IsSent plus now new from k → (more : ℕ → Type 0) → ((j : ℕ) → more j → (j ≡ k) ⊎ ((j ≢ root) × these j))
      → IsDistributing plus start new before root more (made + 1)
  distributing_more new sent more cases = record {
    kept = kept_twice plus start now new h.kept sent.kept;
    towards = λ p has b j at m.
        sent_still plus start now h.kept from k new sent p j (next_on_way start.shape.tree j root) (towards_linked start.shape.tree tied root at_root j at m)
        (λ (q : (j ≡ from) × (next_on_way start.shape.tree j root ≡ k)). back j at m q.0 q.1) (h.towards p has b j at m);
    right = λ p has b j at m. of p has b j at (cases_eq j k) (cases j m);
    counted = counted_more start.computed now.computed new.computed made h.counted sent.counted;
  }
    where
      back : (j : ℕ) → IsClique start.shape.tree j → j ≢ root → j ≡ from → next_on_way start.shape.tree j root ≡ k → ⊥
      back j at m e f =
          no_return start.shape.tree tied root at_root k is d (λ g. m (e ∙ from_is ∙ g)) (ap (λ (i : ℕ). next_on_way start.shape.tree i root) (sym (e ∙ from_is)) ∙ f)

      of : (p : Placing) → HasPlaced plus start p → before p → (j : ℕ) → IsClique start.shape.tree j → ((j ≡ k) ⊎ (j ≡ k → ⊥))
          → ((j ≡ k) ⊎ ((j ≢ root) × these j)) → IsRight plus new p (next_on_way start.shape.tree j root) j
      of p has b j at (inl e) _ =
          subst (λ (i : ℕ). IsRight plus new p (next_on_way start.shape.tree i root) i) (sym e)
          (subst (λ (t : ℕ). IsRight plus new p t k) from_is (sent_right plus start now h.kept from k new sent p has (gathered p has b)))
      of p has b j at (inr f) (inl e) = absurd (f e)
      of p has b j at (inr f) (inr o) =
          sent_still plus start now h.kept from k new sent p (next_on_way start.shape.tree j root) j (away_linked start.shape.tree tied root at_root j at o.0)
          (λ (q : (next_on_way start.shape.tree j root ≡ from) × (j ≡ k)). f q.1)
          (h.right p has b j at o.1)
