-- One thing more is placed in a clique, and what leads away from the clique is marked: what each of the four changes of an engine leaves.
use Rattle.std.proofs.Common.{◌≡◌, ℕ, ◌-◌, ◌<◌, List, length, Some, refl, sym, ap, subst, ◌∙◌}
use Rattle.mk_net.specs.Network.{Variable}
use Rattle.mk_net.specs.declared.words.Pair.{Pair}
use Rattle.mk_tree.specs.Given.{GivenTree, home}
use Rattle.mk_tree.specs.Checked.{IsTreeOf}
use Rattle.mk_tree.specs.Held.{IsHeldAt}
use Rattle.mk_tree.proofs.Held.{home_is_held}
use Rattle.mk_engine.specs.Meaning.{Meaning, Factor, with_factor, max_factors}
use Rattle.mk_plan.specs.Shapes.{ShapeOf, IsClique}
use Rattle.mk_propagate.specs.Placings.{Placing, IsPlacedFactor, IsFactorIn, with_factor_in}
use Rattle.mk_propagate.specs.Flows.{FlowOf, HasPlaced, CanPlace, Places, KeepsMessages}
use Rattle.mk_tree_engine.specs.Engines.{MarkedFlow, HasTree, MarksAway, placing_of, factor_home}
use Rattle.mk_tree_engine.specs.inner.Marks.{marked, AreMarkedUp, AreMarkedDown, IsMarked, kept_in}
use Rattle.mk_tree_engine.specs.declared.marks.Marks.{Marks}
use Rattle.mk_tree_engine.proofs.Placed.{can_place, factor_placed, stands_old, stands_after, away, away_now, is_marked_after}

-- a factor over a variable and its parents, where the tree is read of the engine
module _ (plus : ℕ → ℕ → ℕ) (old now : MarkedFlow) (view : old ≡ now) (m : Meaning)
    (stands : HasTree plus now m)
    (network : List Variable) (same : m.network ≡ network) (tree : GivenTree)
    (is_tree : tree ≡ old.flow.shape.tree) where
  pub tree_of : IsTreeOf network tree
  tree_of =
      let h = stands_old plus old now m view stands in
      subst (λ (t : GivenTree). IsTreeOf network t) (sym is_tree)
      (subst (λ (n : List Variable). IsTreeOf n old.flow.shape.tree) same
      h.placed.shape_is.tree_is)

  pub can_weigh : length m.factors < max_factors → (clique : ℕ) (f : Factor) → IsClique tree clique
      → IsFactorIn network tree clique f
      → ((p : Placing) × CanPlace plus old.flow p × (p.network ≡ network)
      × IsPlacedFactor network old.flow.shape.tree (record { clique = clique; factor = f }))
  can_weigh room clique f clique_is fits =
      let placed : IsPlacedFactor network tree (record { clique = clique; factor = f }) = record
      { clique_is = clique_is; fits = fits } in (
        placing_of m,
        can_place plus old m (stands_old plus old now m view stands) room,
        same,
        subst (λ (t : GivenTree). IsPlacedFactor network t (record { clique = clique; factor = f }))
            is_tree placed,
      )

  -- its home in that tree is its home in what the engine stands for
  pub home_of : (clique : ℕ) (f : Factor) → clique ≡ factor_home network tree f
      → clique ≡ factor_home m.network m.tree f
  home_of clique f home =
      let h = stands_old plus old now m view stands in
      home ∙ ap (λ (t : GivenTree). factor_home network t f) (is_tree ∙ h.tree_is)
      ∙ ap (λ (n : List Variable). factor_home n m.tree f) (sym same)

-- and its home in the engine as it is seen
pub home_seen : (old now : MarkedFlow) → old ≡ now → (network : List Variable) (tree : GivenTree)
    → tree ≡ old.flow.shape.tree → (clique : ℕ) (f : Factor)
    → clique ≡ factor_home network tree f → clique ≡ factor_home network now.flow.shape.tree f
home_seen old now view network tree is_tree clique f home =
    home ∙ ap (λ (t : GivenTree). factor_home network t f) (is_tree
    ∙ ap (λ (e : MarkedFlow). e.flow.shape.tree) view)

-- the home of an event in the engine as it is seen holds it
pub held_at_home : (old now : MarkedFlow) → old ≡ now → (event : List Pair) (k : ℕ)
    → home now.flow.shape.tree event ≡ Some k → IsHeldAt old.flow.shape.tree k event
held_at_home old now view event k e =
    home_is_held old.flow.shape.tree k event
    (subst (λ (o : MarkedFlow). home o.flow.shape.tree event ≡ Some k) (sym view) e)

-- an engine of this flow and these marks, that is seen as it is now, has these others once something was placed in a clique
pub record IsChanged (flow : FlowOf) (marks : Marks) (now : MarkedFlow) (new : FlowOf)
    (after : Marks) (clique : ℕ) : Type 0 where
  pub view : marked flow marks.up.items marks.down.items ≡ now
  pub same_shape : new.shape ≡ flow.shape
  pub moved : MarksAway (marked flow marks.up.items marks.down.items)
      (marked new after.up.items after.down.items) clique
  pub is_marked : IsMarked new.shape.tree after.up.items after.down.items after.collected

module _ {flow : FlowOf} {marks : Marks} {now : MarkedFlow} {new : FlowOf} {after : Marks}
    {clique : ℕ} where
  -- by the shape that is read after it was placed
  pub is_changed : {shape : ShapeOf} → shape ≡ new.shape
      → marked flow marks.up.items marks.down.items ≡ now
      → IsMarked flow.shape.tree marks.up.items marks.down.items marks.collected
      → KeepsMessages flow new
      → AreMarkedUp shape.tree clique (length shape.tree.cliques - 1) marks.up.items after.up.items
      → AreMarkedDown shape.tree clique (length shape.tree.cliques - 1) marks.down.items
      after.down.items
      → after.collected ≡ kept_in marks.collected clique → IsChanged flow marks now new after clique
  is_changed {shape} read view was kept up down collected = record {
    view = view;
    same_shape = kept.same_shape;
    moved = away flow new marks.up.items marks.down.items after.up.items after.down.items clique
        shape was.marks_of (read ∙ kept.same_shape) up down;
    is_marked = is_marked_after flow new marks.up.items marks.down.items after.up.items
        after.down.items clique shape was.marks_of (read ∙ kept.same_shape) up down
        kept.same_shape marks.collected after.collected was.current collected;
  }

module _ {flow : FlowOf} {marks : Marks} {now : MarkedFlow} {new : FlowOf} {after : Marks}
    {clique : ℕ} (changed : IsChanged flow marks now new after clique) where
  -- with respect to the engine as it is seen, and the home of what was placed
  pub away_from : (home : ℕ) → clique ≡ home
      → MarksAway now (marked new after.up.items after.down.items) home
  away_from home e =
      away_now (marked flow marks.up.items marks.down.items) now
      (marked new after.up.items after.down.items) clique home changed.view e changed.moved

  module _ (plus : ℕ → ℕ → ℕ) (m : Meaning) (stands : HasTree plus now m) where
    -- what it stands for then
    pub stands_with : (meaning : Meaning) (placed : Placing) → placed ≡ placing_of meaning
        → meaning.tree ≡ m.tree
        → (HasPlaced plus flow (placing_of m) → Places plus flow new clique (placing_of m) placed)
        → HasTree plus (marked new after.up.items after.down.items) meaning
    stands_with meaning placed pe te places =
        let old = marked flow marks.up.items marks.down.items in let h = stands_old plus old now m
        changed.view stands in
        stands_after plus old m h (marked new after.up.items after.down.items) meaning clique placed
        pe te changed.same_shape (places h.placed) changed.moved

    pub stands_with_factor : (f : Factor) → clique ≡ factor_home m.network m.tree f
        → (HasPlaced plus flow (placing_of m)
        → Places plus flow new clique (placing_of m) (with_factor_in clique f (placing_of m)))
        → HasTree plus (marked new after.up.items after.down.items) (with_factor f m)
    stands_with_factor f home places = stands_with (with_factor f m)
        (with_factor_in clique f (placing_of m)) (factor_placed m f clique home) refl places
