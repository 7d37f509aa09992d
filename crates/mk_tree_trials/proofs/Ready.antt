-- Which messages into a clique are right, for readings in turn.
use Rattle.std.proofs.Common.{◌≡◌, ℕ, ◌-◌, List, Bool, true, not, ◌&&◌, ◌==◌, length, refl, sym, ap, subst}
use Rattle.std.proofs.lemmas.Bool.{eq-eqb}
use Rattle.mk_net.specs.Network.{Variable}
use Rattle.mk_sums.specs.Trees.{linked_to, hop}
use Rattle.mk_sums.proofs.Hops.{are_linked, linked_back, hop_near}
use Rattle.mk_tree.specs.Given.{link_of}
use Rattle.mk_plan.specs.Shapes.{ShapeOf, IsClique, next_on_way}
use Rattle.mk_propagate.specs.Placings.{Placing}
use Rattle.mk_propagate.specs.Flows.{FlowOf, HasPlaced, IsRight, AreRightInto, AreRightTowards, KeepsMessages, KeepsTables, Places}
use Rattle.mk_propagate.proofs.Messages.{are_ends}
use Rattle.mk_propagate.proofs.Placed.{right_still}
use Rattle.mk_tree_trials.specs.Placed.{HasSome, KeepsReady}

-- those towards the clique that come from its neighbours
pub into : (plus : ℕ → ℕ → ℕ) (flow : FlowOf) (p : Placing) (k : ℕ) → HasPlaced plus flow p → AreRightTowards plus flow p k → AreRightInto plus flow p k
into plus flow p k has towards i h =
    let link = link_of flow.shape.tree in let count = length flow.shape.tree.cliques in
    let ends = are_ends flow.shape p has.shape_is has.placing i k h in
    let next : next_on_way flow.shape.tree i k ≡ k = hop_near link count k i has.shape_is.tree_is.linked.earlier (linked_back link count i k (are_linked link count i k h)) in
    subst (λ n. IsRight plus flow p i n) next (towards i ends.0 ends.2)

-- what is placed in the clique leaves them right
pub into_after : (plus : ℕ → ℕ → ℕ) (old new : FlowOf) (clique : ℕ) (before after : Placing) → Places plus old new clique before after → new.shape ≡ old.shape
    → AreRightInto plus old before clique → AreRightInto plus new after clique
into_after plus old new clique before after places same right i h =
    let l = subst (λ (s : ShapeOf). linked_to (link_of s.tree) (length s.tree.cliques) clique i ≡ true) same h in
    places.right i clique l (ap (λ (b : Bool). not b && (hop (link_of old.shape.tree) (length old.shape.tree.cliques) clique clique == i)) (eq-eqb clique clique refl)) (right i l)

-- what was placed still is
abbrev pub some_after : {plus : ℕ → ℕ → ℕ} {old new : FlowOf} {network : List Variable} {count : ℕ} (some : HasSome plus old network count)
    → HasPlaced plus new some.placing → HasSome plus new network count
some_after some has = record { placing = some.placing; has = has; of_network = some.of_network; counted = some.counted }

-- what a reading leaves
pub reading_keeps : (plus : ℕ → ℕ → ℕ) (old new : FlowOf) → KeepsMessages old new → KeepsTables plus old new → KeepsReady plus old new
reading_keeps plus old new kept still = record {
  collected = λ network count clique h. record {
    some = some_after h.some (still.placed h.some.placing h.some.has);
    towards = λ k at apart.
        let was = subst (λ (s : ShapeOf). IsClique s.tree k) kept.same_shape at in
        let next = ap (λ (s : ShapeOf). next_on_way s.tree k clique) kept.same_shape in
        subst (λ n. IsRight plus new h.some.placing k n) (sym next) (right_still plus old new h.some.placing k (next_on_way old.shape.tree k clique) kept (h.towards k was apart));
  };
  ready = λ network count clique h. record {
    some = some_after h.some (still.placed h.some.placing h.some.has);
    right = λ i l. right_still plus old new h.some.placing i clique kept (h.right i (subst (λ (s : ShapeOf). linked_to (link_of s.tree) (length s.tree.cliques) clique i ≡ true) kept.same_shape l));
  };
}
