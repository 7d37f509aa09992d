-- What an engine over a tree has, as it is given pairs and then ratios.
use Rattle.std.proofs.Common.{◌≡◌, ℕ, ◌+◌, ◌<◌, ◌≤◌, List, [], ◌∷◌, ◌++◌, length, take, slice_index}
use Rattle.std.proofs.Common.{slice_index_or, Some, sym, ap, subst, ◌∙◌, arith}
use Rattle.std.proofs.lemmas.List.{map-append, length-map, take_more, length-take-le}
use Rattle.std.proofs.lemmas.List.Elements.{All-contains, Contains-get_or}
use Rattle.mk_net.specs.declared.words.Pair.{Pair}
use Rattle.mk_net.specs.Asked.{ratio_pairs}
use Rattle.mk_states.specs.OfNetwork.{IsPairOf}
use Rattle.mk_cell.specs.Least.{least}
use Rattle.mk_tree.specs.Given.{GivenTree, home}
use Rattle.mk_engine.specs.Meaning.{Meaning, RatioOf, max_factors}
use Rattle.mk_engine.specs.Beliefs.{CanKnow, CanMultiply}
use Rattle.mk_tree_engine.specs.Engines.{MarkedFlow, HasTree}
use Rattle.mk_user_engine.specs.declared.narrow.PlacedRatio.{PlacedRatio}
use Rattle.mk_user_engine.specs.declared.narrow.Narrow.{Narrow}
use Rattle.mk_user_engine.specs.Narrow.{ratio_in, factors_of}
use Rattle.mk_user_engine.specs.Grouped.{max_groups}
use Rattle.mk_user_engine.specs.GroupedNarrow.{AreGrouped, IsGroupedRatio}
use Rattle.mk_user_engine.specs.NarrowForm.{IsNarrow}

-- some known pairs, and no ratio
abbrev pub that_knows : Meaning → List Pair → Meaning
that_knows m known = record { network = m.network; tree = m.tree; factors = []; known = known }

-- all known pairs, and some ratios
abbrev pub that_has : Meaning → List PlacedRatio → Meaning
that_has m trades = record {
  network = m.network;
  tree = m.tree;
  factors = factors_of trades;
  known = m.known;
}

module _ (n : Narrow) (m : Meaning) (stands : IsNarrow n m) (tree : MarkedFlow) where
  abbrev is : AreGrouped n.groups n.trades.items n.known.items n.homes.items m
  is = stands.grouped

  -- ---- a known pair more

  module _ (known : List Pair) (has : HasTree least tree (that_knows m known)) (k : ℕ) (d : Pair)
      (l : k < length n.known.items) where
    abbrev pair : Pair
    pair = slice_index_or n.known.items k d

    pub at_home : home tree.flow.shape.tree (pair ∷ []) ≡ Some (slice_index n.homes.items k)
    at_home = let p = is.pairs in subst (λ (t : GivenTree). home t (pair ∷ []) ≡ Some
        (slice_index n.homes.items k)) (sym has.tree_is) (p.home_is k d l)

    pub can_know : CanKnow (λ (e : MarkedFlow) (o : Meaning). HasTree least e o) tree pair
    can_know = record {
      meaning = that_knows m known;
      stands = has;
      in_range = let p = is.pairs in All-contains (IsPairOf m.network) n.known.items pair
          p.of_network (Contains-get_or n.known.items k d l);
    }

  -- ---- a ratio more

  module _ (trades : List PlacedRatio) (has : HasTree least tree (that_has m trades))
      (few : length trades < max_factors) (t : PlacedRatio) (placed : IsGroupedRatio
      m.network m.tree n.groups.list.items t) where
    pub ratio_at_home : home tree.flow.shape.tree (ratio_pairs (ratio_in t)) ≡ Some t.home
    ratio_at_home = subst (λ (o : GivenTree). home o (ratio_pairs (ratio_in t)) ≡ Some t.home)
        (sym has.tree_is) placed.home_is

    pub can_multiply : CanMultiply (λ (e : MarkedFlow) (o : Meaning). HasTree least e o) tree
        (ratio_in t)
    can_multiply = record {
      meaning = that_has m trades;
      stands = has;
      in_range = placed.of_network;
      room = let e = length-map trades (λ (s : PlacedRatio). RatioOf (ratio_in s))
          in omega (arith, e, few);
    }

-- one ratio more in the list
pub factors_push : (ts : List PlacedRatio) (t : PlacedRatio)
    → factors_of ts ++ RatioOf (ratio_in t) ∷ [] ≡ factors_of (ts ++ t ∷ [])
factors_push ts t = sym (map-append (λ (s : PlacedRatio). RatioOf (ratio_in s)) ts (t ∷ []))

-- the next of a list
pub taken_next : {X : Type 0} (xs : List X) (k : ℕ) (x : X) → k < length xs
    → x ≡ slice_index_or xs k x → take k xs ++ x ∷ [] ≡ take (k + 1) xs
taken_next {X} xs k x l e = ap (λ (y : X). take k xs ++ y ∷ []) e ∙ sym (take_more xs k x l)

pub few_taken : (ts : List PlacedRatio) (k : ℕ) → k < length ts → length ts ≤ max_groups
    → length (take k ts) < max_factors
few_taken ts k l few = let e = length-take-le k ts (omega arith) in omega (arith, e, few, l)
