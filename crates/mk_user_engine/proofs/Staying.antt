-- What an engine in its narrow form knows of each meaning that it stands for, from one of them.
use Rattle.std.proofs.Common.{◌≡◌, ℕ, false, List, [], ◌∷◌, All, Some, get_or, sym, subst, ◌∙◌}
use Rattle.std.specs.List.{list_all}
use Rattle.std.proofs.lemmas.Bool.{and_parts, both_ways}
use Rattle.std.proofs.lemmas.List.Elements.{All-weaker, All-from_recursion}
use Rattle.mk_net.specs.declared.words.Pair.{Pair}
use Rattle.mk_net.specs.Asked.{TradeRatio, ratio_pairs}
use Rattle.mk_net.specs.Network.{Variable, sizes}
use Rattle.mk_states.specs.OfNetwork.{IsPairOf, IsRatioOf}
use Rattle.mk_states.proofs.Sums.{list_all-append}
use Rattle.mk_scope.specs.Scopes.{ScopeOf, HasSized}
use Rattle.mk_tree.specs.Given.{GivenTree, home, holds}
use Rattle.mk_tree.proofs.Held.{home_is_held}
use Rattle.mk_cell.specs.Least.{least}
use Rattle.mk_engine.specs.Meaning.{Meaning, ArePairsOf, opening}
use Rattle.mk_plan.specs.Shapes.{ShapeOf, IsShapeFor, IsClique, clique_scope}
use Rattle.mk_plan.proofs.Scopes.{sized_within}
use Rattle.mk_states.proofs.Alike.{pair_same, ratio_same}
use Rattle.mk_plan.proofs.Required.{same_sizes, all_pass}
use Rattle.mk_user_engine.specs.declared.engine.UserEngine.{UserEngine}
use Rattle.mk_tree_engine.specs.Engines.{HasTree}
use Rattle.mk_user_engine.specs.declared.narrow.Narrow.{Narrow}
use Rattle.mk_user_engine.specs.NarrowForm.{IsNarrow, CanTake}
use Rattle.mk_user_engine.specs.Users.{StandsFor, IsBeside}

-- the scope of a ratio's home has each variable of its condition
condition_sized : (shape : ShapeOf) (network : List Variable) → IsShapeFor shape network
    → (ratio : TradeRatio) (at : ℕ)
    → home shape.tree (ratio_pairs ratio) ≡ Some at → IsRatioOf network ratio → (scope : ScopeOf)
    → scope ≡ clique_scope shape at
    → All (λ (p : Pair). HasSized network scope p.variable) ratio.condition
condition_sized shape network of_network ratio at h is scope e =
    let held = home_is_held shape.tree at (ratio_pairs ratio) h in
    let in_clique : Pair → _ = λ p. holds shape.tree at p.variable in
    let front = (and_parts (list_all in_clique ratio.condition) (list_all in_clique
    (record { variable = ratio.variable; value = 0 } ∷ []))
    (sym (list_all-append in_clique ratio.condition (record {
      variable = ratio.variable;
      value =
          0;
    } ∷ [])) ∙ held.held)).0 in
    let passes = all_pass in_clique ratio.condition front in
    let pairs = All-from_recursion (IsPairOf network) ratio.condition is.condition in
    let clique : IsClique shape.tree at = record { first = held.first; last = held.last } in
    λ k d l. subst (λ (s : ScopeOf). HasSized network s (get_or ratio.condition k d).variable) (sym
    (e ∙ of_network.clique_scopes at clique))
    (sized_within network (holds shape.tree at) (get_or ratio.condition k d).variable (let p =
    pairs k d l in p.variable) (passes k d l))

module _ (e : UserEngine) (stays : e.is_over ≡ false) (a : Meaning) (of_a : StandsFor e a)
    (m : Meaning) (of_m : StandsFor e m) where
  pub beside : IsBeside e m
  beside = of_m.narrow stays

  same : sizes a.network ≡ sizes m.network
  same = let b = of_a.narrow stays in let c = beside
      in same_sizes e.shape.value a.network m.network b.shape_for c.shape_for

  pub pair_of : (p : Pair) → IsPairOf a.network p → IsPairOf m.network p
  pair_of p h = pair_same a.network m.network same p h

  pub pairs_of : (ps : List Pair) → ArePairsOf a.network ps → ArePairsOf m.network ps
  pairs_of ps h = All-weaker (IsPairOf a.network) (IsPairOf m.network) pair_of ps h

  pub home_of : (event : List Pair) (at : ℕ) → home e.tree.flow.shape.tree event ≡ Some at
      → home m.tree event ≡ Some at
  home_of event at h = subst (λ (t : GivenTree). home t event ≡ Some at) of_m.tree_is h

  pub can_take : (ratio : TradeRatio) (at : ℕ) (scope : ScopeOf)
      → home e.tree.flow.shape.tree (ratio_pairs ratio) ≡ Some at → IsRatioOf a.network ratio
      → scope ≡ clique_scope e.shape.value at → CanTake e.narrow scope at ratio m
  can_take ratio at scope h is f =
      let b = beside in
      let of_m_is = ratio_same a.network m.network same ratio is in
      let there = home_of (ratio_pairs ratio) at h in
      record {
        stands = b.lists;
        of_network = of_m_is;
        home_is = there;
        sized = condition_sized e.shape.value m.network b.shape_for ratio at (subst (λ
            (t : GivenTree). home t (ratio_pairs ratio) ≡ Some at) (sym b.tree_is) there) of_m_is
            scope f;
      }

-- the narrow form stands for what its lists do, beside the same engine over the tree
pub stands_narrow : (e : UserEngine) (stays : e.is_over ≡ false) (m : Meaning) → StandsFor e m
    → (lists : Narrow) (after : Meaning) → after.network ≡ m.network → after.tree ≡ m.tree
    → IsNarrow lists after → StandsFor (record e { narrow = lists }) after
stands_narrow e stays m of_m lists after same_network same_tree is_narrow =
    let b = of_m.narrow stays in record {
      tree_is = of_m.tree_is ∙ sym same_tree;
      narrow = λ n. record {
        shape_for = subst (λ (xs : List Variable). IsShapeFor e.shape.value xs) (sym same_network)
            b.shape_for;
        tree_is = b.tree_is ∙ sym same_tree;
        lists = is_narrow;
        begun = subst (λ (t : GivenTree). HasTree least e.tree (opening after.network t))
            (sym same_tree)
            (subst (λ (xs : List Variable). HasTree least e.tree (opening xs m.tree))
            (sym same_network) b.begun);
      };
      over = λ o. absurd (both_ways e.is_over stays o);
    }
