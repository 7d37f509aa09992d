-- One turn of each pass.
use Rattle.std.proofs.Common.{◌≡◌, ℕ, ◌+◌, ◌-◌, ◌<◌, Bool, true, false, not, ◌&&◌, ◌||◌, eqb, ltb, length, refl, sym, ap, subst, ◌∙◌, arith}
use Rattle.std.proofs.lemmas.Bool.{le-ltb, both_ways}
use Rattle.mk_sums.specs.Trees.{linked_but}
use Rattle.mk_sums.proofs.Stale as stale
use Rattle.mk_tree.specs.Given.{GivenTree, link_of}
use Rattle.mk_plan.specs.Shapes.{ShapeOf, IsClique, are_linked, next_on_way}
use Rattle.mk_propagate.specs.Flows.{CanSend}
use Rattle.mk_tree_engine.specs.Engines.{MarkedFlow}
use Rattle.mk_tree_engine.specs.inner.Marks.{AreMarksOf}
use Rattle.mk_tree_engine.specs.inner.Passes.{IsMade, AreCollected, CanCollect, goes_up, goes_down, passed_up, passed_down}
use Rattle.mk_tree_engine.proofs.Collecting.{collected_none, collected_same, collected_more, inputs_right, inputs_up, inputs_down, up_parts, down_parts, up_more, up_same, down_more, down_same, down_begins, not_up, all_passed}

none_of : (b : Bool) → b ≡ false → (t : Bool) → (b && t) ≡ false
none_of true e t = absurd (both_ways true e refl)
none_of false e t = refl

-- a test of the tree says the same of a flow that kept its shape
same_way : {new old : ShapeOf} → new ≡ old → (test : GivenTree → Bool) (b : Bool)
    → test new.tree ≡ b → test old.tree ≡ b
same_way same test b h = subst (λ (s : ShapeOf). test s.tree ≡ b) same h

module _ (plus : ℕ → ℕ → ℕ) (c : ℕ) (old : MarkedFlow) (could : CanCollect plus old c) where
  pub up_begins : (left : ℕ) → left ≡ length old.flow.shape.tree.cliques → AreCollected plus c (passed_up old.flow.shape.tree c left) old old
  up_begins left e =
      collected_none plus c old (passed_up old.flow.shape.tree c left) could.marks_of
      (λ j p q. none_of (ltb left j) (le-ltb left j (omega arith)) (goes_up old.flow.shape.tree c j))

  module _ (mid : MarkedFlow) (k : ℕ) (at_k : IsClique old.flow.shape.tree k) where
    -- a clique's message can be made once what it is made of is done
    pub sends : (done : ℕ → Bool) → AreCollected plus c done old mid → (k ≡ c → ⊥)
        → ((i : ℕ) → linked_but (link_of old.flow.shape.tree) (length old.flow.shape.tree.cliques) k (next_on_way old.flow.shape.tree k c) i ≡ true → done i ≡ true)
        → CanSend plus mid.flow k (next_on_way mid.flow.shape.tree k c)
    sends done is apart inputs =
        let tree = old.flow.shape.tree in
        let e : next_on_way mid.flow.shape.tree k c ≡ next_on_way tree k c = ap (λ (s : ShapeOf). next_on_way s.tree k c) is.kept.same_shape in
        let l : are_linked tree k (next_on_way tree k c) ≡ true =
        (stale.leads_towards (link_of tree) (length tree.cliques) could.marks_of.linked.earlier c k could.clique_is.first could.clique_is.last at_k.first at_k.last apart).0 in
        record {
          placing = could.placing;
          has = is.kept.placed could.placing could.has;
          linked_too = subst (λ (s : ShapeOf). are_linked s.tree k (next_on_way s.tree k c) ≡ true) (sym is.kept.same_shape) l;
          right = inputs_right plus c old mid done done is could.clique_is k at_k apart (next_on_way mid.flow.shape.tree k c) e inputs could.placing could.has could.current;
        }

    module _ (is : AreCollected plus c (passed_up old.flow.shape.tree c k) old mid) where
      pub up_sends : goes_up mid.flow.shape.tree c k ≡ true → CanSend plus mid.flow k (next_on_way mid.flow.shape.tree k c)
      up_sends h =
          let tree = old.flow.shape.tree in
          let g = same_way is.kept.same_shape (λ t. goes_up t c k) true h in
          sends (passed_up tree c k) is ((up_parts tree could.marks_of.linked c could.clique_is k g).0)
          (inputs_up tree could.marks_of.linked c could.clique_is k at_k g)

      pub up_step : goes_up mid.flow.shape.tree c k ≡ true → (new : MarkedFlow) → IsMade plus k (next_on_way mid.flow.shape.tree k c) mid new
          → AreCollected plus c (passed_up old.flow.shape.tree c (k - 1)) old new
      up_step h new made =
          let tree = old.flow.shape.tree in
          let g = same_way is.kept.same_shape (λ t. goes_up t c k) true h in
          collected_more plus c old mid (passed_up tree c k) (passed_up tree c (k - 1)) is could.clique_is k at_k ((up_parts tree could.marks_of.linked c could.clique_is k g).0)
          new (next_on_way mid.flow.shape.tree k c) (ap (λ (s : ShapeOf). next_on_way s.tree k c) is.kept.same_shape)
          (none_of (ltb k k) (le-ltb k k (omega arith)) (goes_up tree c k))
          (λ j p q. up_more tree could.marks_of.linked c could.clique_is k j at_k.first g)
          (inputs_up tree could.marks_of.linked c could.clique_is k at_k g) made

      pub up_stay : goes_up mid.flow.shape.tree c k ≡ false → AreCollected plus c (passed_up old.flow.shape.tree c (k - 1)) old mid
      up_stay h =
          let tree = old.flow.shape.tree in
          collected_same plus c old mid (passed_up tree c k) (passed_up tree c (k - 1)) is
          (λ j p q. up_same tree could.marks_of.linked c could.clique_is k j at_k.first
          (same_way is.kept.same_shape (λ t. goes_up t c k) false h))

    module _ (is : AreCollected plus c (passed_down old.flow.shape.tree c (k - 1)) old mid) where
      pub down_sends : goes_down mid.flow.shape.tree c k ≡ true → CanSend plus mid.flow k (next_on_way mid.flow.shape.tree k c)
      down_sends h =
          let tree = old.flow.shape.tree in
          let g = same_way is.kept.same_shape (λ t. goes_down t c k) true h in
          sends (passed_down tree c (k - 1)) is ((down_parts tree could.marks_of.linked c could.clique_is k g).0)
          (inputs_down tree could.marks_of.linked c could.clique_is k at_k g)

      pub down_step : goes_down mid.flow.shape.tree c k ≡ true → (new : MarkedFlow) → IsMade plus k (next_on_way mid.flow.shape.tree k c) mid new
          → AreCollected plus c (passed_down old.flow.shape.tree c k) old new
      down_step h new made =
          let tree = old.flow.shape.tree in
          let g = same_way is.kept.same_shape (λ t. goes_down t c k) true h in
          collected_more plus c old mid (passed_down tree c (k - 1)) (passed_down tree c k) is could.clique_is k at_k ((down_parts tree could.marks_of.linked c could.clique_is k g).0)
          new (next_on_way mid.flow.shape.tree k c) (ap (λ (s : ShapeOf). next_on_way s.tree k c) is.kept.same_shape)
          (ap (λ b. b || (ltb k (k - 1 + 1) && goes_down tree c k)) (not_up tree could.marks_of.linked c could.clique_is k g)
          ∙ none_of (ltb k (k - 1 + 1)) (le-ltb k (k - 1 + 1) (let p = at_k.first in omega arith)) (goes_down tree c k))
          (λ j p q. down_more tree could.marks_of.linked c could.clique_is k j at_k.first g)
          (inputs_down tree could.marks_of.linked c could.clique_is k at_k g) made

      pub down_stay : goes_down mid.flow.shape.tree c k ≡ false → AreCollected plus c (passed_down old.flow.shape.tree c k) old mid
      down_stay h =
          let tree = old.flow.shape.tree in
          collected_same plus c old mid (passed_down tree c (k - 1)) (passed_down tree c k) is
          (λ j p q. down_same tree could.marks_of.linked c could.clique_is k j at_k.first
          (same_way is.kept.same_shape (λ t. goes_down t c k) false h))

-- ---- the second pass, since the first

module _ (plus : ℕ → ℕ → ℕ) (c : ℕ) (old first : MarkedFlow) (could : CanCollect plus old c) (upward : AreCollected plus c (passed_up first.flow.shape.tree c 0) old first) where
  clique_first : IsClique first.flow.shape.tree c
  clique_first = subst (λ (s : ShapeOf). IsClique s.tree c) (sym upward.kept.same_shape) could.clique_is

  pub down_start : AreCollected plus c (passed_down first.flow.shape.tree c 0) old first
  down_start =
      collected_same plus c old first (passed_up first.flow.shape.tree c 0) (passed_down first.flow.shape.tree c 0) upward
      (λ j p q. down_begins first.flow.shape.tree upward.marks_of.linked c clique_first j p)

  module _ (mid : MarkedFlow) (passed : ℕ) (within : passed < length first.flow.shape.tree.cliques) (is : AreCollected plus c (passed_down first.flow.shape.tree c passed) old mid) where
    at_k : IsClique old.flow.shape.tree (passed + 1)
    at_k = let m = ap (λ (s : ShapeOf). length s.tree.cliques) upward.kept.same_shape in record { first = omega arith; last = omega (arith, m, within) }

    -- in the words of the tree that it began with
    so_far : AreCollected plus c (passed_down old.flow.shape.tree c (passed + 1 - 1)) old mid
    so_far =
        let e : passed ≡ passed + 1 - 1 = omega arith in
        subst (λ (n : ℕ). AreCollected plus c (passed_down old.flow.shape.tree c n) old mid) e
        (subst (λ (s : ShapeOf). AreCollected plus c (passed_down s.tree c passed) old mid) upward.kept.same_shape is)

    then_first : (new : MarkedFlow) → AreCollected plus c (passed_down old.flow.shape.tree c (passed + 1)) old new → AreCollected plus c (passed_down first.flow.shape.tree c (passed + 1)) old new
    then_first new h = subst (λ (s : ShapeOf). AreCollected plus c (passed_down s.tree c (passed + 1)) old new) (sym upward.kept.same_shape) h

    pub turn_sends : goes_down mid.flow.shape.tree c (passed + 1) ≡ true → CanSend plus mid.flow (passed + 1) (next_on_way mid.flow.shape.tree (passed + 1) c)
    turn_sends h = down_sends plus c old could mid (passed + 1) at_k so_far h

    pub turn_step : goes_down mid.flow.shape.tree c (passed + 1) ≡ true → (new : MarkedFlow) → IsMade plus (passed + 1) (next_on_way mid.flow.shape.tree (passed + 1) c) mid new
        → AreCollected plus c (passed_down first.flow.shape.tree c (passed + 1)) old new
    turn_step h new made = then_first new (down_step plus c old could mid (passed + 1) at_k so_far h new made)

    pub turn_stay : goes_down mid.flow.shape.tree c (passed + 1) ≡ false → AreCollected plus c (passed_down first.flow.shape.tree c (passed + 1)) old mid
    turn_stay h = then_first mid (down_stay plus c old could mid (passed + 1) at_k so_far h)

    -- the cliques of a turn
    pub turn_marks : AreMarksOf mid.flow.shape.tree mid.stale_up mid.stale_down
    turn_marks = is.marks_of

    pub turn_same : mid.flow.shape ≡ first.flow.shape
    turn_same = is.kept.same_shape ∙ sym upward.kept.same_shape

    pub turn_clique : IsClique mid.flow.shape.tree c
    turn_clique = subst (λ (s : ShapeOf). IsClique s.tree c) (sym turn_same) clique_first

    pub turn_k : IsClique mid.flow.shape.tree (passed + 1)
    turn_k = subst (λ (s : ShapeOf). IsClique s.tree (passed + 1)) (sym is.kept.same_shape) at_k

-- ---- both passes

pub both_passed : (plus : ℕ → ℕ → ℕ) (c : ℕ) (old new : MarkedFlow) (could : CanCollect plus old c) (mid : ShapeOf) → mid ≡ old.flow.shape
    → AreCollected plus c (passed_down mid.tree c (length mid.tree.cliques)) old new → AreCollected plus c (λ k. not (eqb k c)) old new
both_passed plus c old new could mid same is =
    collected_same plus c old new (passed_down old.flow.shape.tree c (length old.flow.shape.tree.cliques)) (λ k. not (eqb k c))
    (subst (λ (s : ShapeOf). AreCollected plus c (passed_down s.tree c (length s.tree.cliques)) old new) same is)
    (λ j p q. sym (all_passed old.flow.shape.tree could.marks_of.linked c could.clique_is j p q))
