-- One thing more is placed, and what leads away from it is marked.
use Rattle.std.proofs.Common.{◌≡◌, ℕ, ◌-◌, ◌<◌, Bool, true, Option, List, [], ◌∷◌, ◌++◌, map, length, sym, ap, subst, ◌∙◌, arith}
use Rattle.std.specs.Option.{ForSome}
use Rattle.std.proofs.lemmas.Bool.{or_parts}
use Rattle.std.proofs.lemmas.List.{map-append, length-map}
use Rattle.mk_net.specs.declared.words.Pair.{Pair}
use Rattle.mk_tree.specs.Given.{GivenTree}
use Rattle.mk_engine.specs.Meaning.{Meaning, Factor, with_factor, with_known, max_factors}
use Rattle.mk_plan.specs.Shapes.{ShapeOf, are_linked, is_behind}
use Rattle.mk_propagate.specs.Placings.{Placing, PlacedFactor, PlacedPair, with_factor_in, with_pair_in}
use Rattle.mk_propagate.proofs.Placed.{right_still}
use Rattle.mk_propagate.specs.Flows.{FlowOf, HasPlaced, IsRight, CanPlace, Places, KeepsMessages, KeepsTables}
use Rattle.mk_tree_engine.specs.Engines.{MarkedFlow, HasTree, MarksAway, is_stale, placing_of, factor_home, pair_home}
use Rattle.mk_tree_engine.specs.inner.Marks.{marked, AreMarksOf, AreMarkedUp, AreMarkedDown, AreCurrentTowards, IsMarked, kept_in}
use Rattle.mk_tree_engine.proofs.Marking.{marks_away, marks_kept, kept_current}

pub factor_placed : (m : Meaning) (f : Factor) (clique : ℕ) → clique ≡ factor_home m.network m.tree f → with_factor_in clique f (placing_of m) ≡ placing_of (with_factor f m)
factor_placed m f clique e =
    let g : Factor → PlacedFactor = λ h. record { clique = factor_home m.network m.tree h; factor = h } in
    let make : List PlacedFactor → Placing = λ fs. record { network = m.network; factors = fs; known = map (λ q. record { clique = pair_home m.tree q; pair = q }) m.known } in
    let at : ℕ → PlacedFactor = λ k. record { clique = k; factor = f } in
    ap make (ap (λ (k : ℕ). map g m.factors ++ at k ∷ []) e ∙ sym (map-append g m.factors (f ∷ [])))

pub pair_placed : (m : Meaning) (q : Pair) (clique : ℕ) → clique ≡ pair_home m.tree q → with_pair_in clique q (placing_of m) ≡ placing_of (with_known q m)
pair_placed m q clique e =
    let g : Pair → PlacedPair = λ r. record { clique = pair_home m.tree r; pair = r } in
    let make : List PlacedPair → Placing = λ ps. record { network = m.network; factors = map (λ f. record { clique = factor_home m.network m.tree f; factor = f }) m.factors; known = ps } in
    let at : ℕ → PlacedPair = λ k. record { clique = k; pair = q } in
    ap make (ap (λ (k : ℕ). map g m.known ++ at k ∷ []) e ∙ sym (map-append g m.known (q ∷ [])))

module _ (plus : ℕ → ℕ → ℕ) (e : MarkedFlow) (m : Meaning) (h : HasTree plus e m) where
  pub can_place : length m.factors < max_factors → CanPlace plus e.flow (placing_of m)
  can_place l =
      let n : length (placing_of m).factors ≡ length m.factors = length-map m.factors (λ f. record { clique = factor_home m.network m.tree f; factor = f }) in
      record { has = h.placed; room = omega (arith, n, l) }

  -- what stands then
  pub stands_after : (new : MarkedFlow) (after : Meaning) (clique : ℕ) (placed : Placing) → placed ≡ placing_of after → after.tree ≡ m.tree
      → new.flow.shape ≡ e.flow.shape → Places plus e.flow new.flow clique (placing_of m) placed → MarksAway e new clique → HasTree plus new after
  stands_after new after clique placed pe te se places away = record {
    tree_is = ap (λ (s : ShapeOf). s.tree) se ∙ h.tree_is ∙ sym te;
    placed = subst (HasPlaced plus new.flow) pe places.placed;
    current = λ a b l fresh.
        let linked : are_linked e.flow.shape.tree a b ≡ true = subst (λ (t : GivenTree). are_linked t a b ≡ true) (te ∙ sym h.tree_is) l in
        let parts = or_parts (is_stale e a b) (is_behind e.flow.shape.tree a b clique) (sym (away a b linked) ∙ fresh) in
        let was = h.current a b (subst (λ (t : GivenTree). are_linked t a b ≡ true) te l) parts.0 in
        subst (λ (p : Placing). IsRight plus new.flow p a b) pe (places.right a b linked parts.1 was);
  }

-- the marks after a change
module _ (old new : FlowOf) (up down ups downs : List Bool) (clique : ℕ) (shape : ShapeOf) (marks_of : AreMarksOf old.shape.tree up down) (same : shape ≡ old.shape)
    (marked_up : AreMarkedUp shape.tree clique (length shape.tree.cliques - 1) up ups) (marked_down : AreMarkedDown shape.tree clique (length shape.tree.cliques - 1) down downs) where
  up_old : AreMarkedUp old.shape.tree clique (length old.shape.tree.cliques - 1) up ups
  up_old = subst (λ (s : ShapeOf). AreMarkedUp s.tree clique (length s.tree.cliques - 1) up ups) same marked_up

  down_old : AreMarkedDown old.shape.tree clique (length old.shape.tree.cliques - 1) down downs
  down_old = subst (λ (s : ShapeOf). AreMarkedDown s.tree clique (length s.tree.cliques - 1) down downs) same marked_down

  pub away : MarksAway (marked old up down) (marked new ups downs) clique
  away = λ a b l. marks_away old.shape.tree marks_of.linked clique up down ups downs marks_of.marks up_old down_old a b l

  -- the clique that is kept, if any
  pub is_marked_after : new.shape ≡ old.shape → (collected kept : Option ℕ) → ForSome collected (AreCurrentTowards old.shape.tree up down) → kept ≡ kept_in collected clique
      → IsMarked new.shape.tree ups downs kept
  is_marked_after e collected kept current k =
      subst (λ (s : ShapeOf). IsMarked s.tree ups downs kept) (sym e) (record {
        marks_of = record { linked = marks_of.linked; marks = marks_kept old.shape.tree marks_of.linked clique up down ups downs marks_of.marks up_old down_old };
        current = λ x f. kept_current old.shape.tree marks_of.linked clique up down ups downs away collected current x (sym k ∙ f);
      })

pub away_now : (old now new : MarkedFlow) (clique home : ℕ) → old ≡ now → clique ≡ home → MarksAway old new clique → MarksAway now new home
away_now old now new clique home view e h =
    subst (λ (k : ℕ). MarksAway now new k) e (subst (λ (o : MarkedFlow). MarksAway o new clique) view h)

pub stands_old : (plus : ℕ → ℕ → ℕ) (old now : MarkedFlow) (m : Meaning) → old ≡ now → HasTree plus now m → HasTree plus old m
stands_old plus old now m view h = subst (λ (e : MarkedFlow). HasTree plus e m) (sym view) h

-- where what was placed still is, and each message is as it was
pub still_stands : (plus : ℕ → ℕ → ℕ) (old new : FlowOf) (up down : List Bool) (m : Meaning) → KeepsMessages old new → KeepsTables plus old new → HasTree plus (marked old up down) m → HasTree plus (marked new up down) m
still_stands plus old new up down m kept still h = record {
  tree_is = ap (λ (s : ShapeOf). s.tree) kept.same_shape ∙ h.tree_is;
  placed = still.placed (placing_of m) h.placed;
  current = λ a b l fresh. right_still plus old new (placing_of m) a b kept (h.current a b l fresh);
}
