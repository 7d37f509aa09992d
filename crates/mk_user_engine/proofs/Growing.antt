-- The narrow form with a pair more, with a ratio more, and with other groups.
use Rattle.std.proofs.Common.{◌≡◌, ℕ, suc, zero, ◌<◌, false, List, [], ◌∷◌, ◌++◌, All, length}
use Rattle.std.proofs.Common.{slice_index, slice_index_or, Some, sym, ap, ◌∙◌, subst, arith}
use Rattle.std.proofs.Common.{length-append}
use Rattle.std.proofs.lemmas.List.Elements.{All-push, All-weaker}
use Rattle.mk_net.specs.declared.words.Pair.{Pair}
use Rattle.mk_net.specs.Asked.{TradeRatio, ratio_pairs}
use Rattle.mk_net.specs.Network.{Variable, sizes}
use Rattle.mk_states.specs.OfNetwork.{IsPairOf, IsRatioOf}
use Rattle.mk_table.specs.Tables.{contradicts_pair}
use Rattle.mk_tree.specs.Given.{GivenTree, home}
use Rattle.mk_engine.specs.Meaning.{Meaning, Factor, RatioOf, with_factor, with_known}
use Rattle.mk_user_engine.specs.declared.group.Group.{Group}
use Rattle.mk_user_engine.specs.declared.groups.Groups.{Groups}
use Rattle.mk_user_engine.specs.declared.narrow.PlacedRatio.{PlacedRatio}
use Rattle.mk_user_engine.specs.Narrow.{ratio_in, factors_of, ArePlacedPairs}
use Rattle.mk_user_engine.specs.Grouped.{HasGroups, IsGathered, KeepsTogether, max_groups}
use Rattle.mk_user_engine.specs.GroupedNarrow.{AreGrouped, IsGroupedRatio}
use Rattle.mk_user_engine.proofs.Gathering.{stays_gathered}
use Rattle.mk_user_engine.proofs.Over.{factors_push}
use Rattle.mk_user_engine.proofs.Pairs.{agree_push}

-- ---- a pair more

module _ (tree : GivenTree) (p : Pair) (at : ℕ) (here : home tree (p ∷ []) ≡ Some at) where
  homes_push : (ps : List Pair) (hs : List ℕ) → length hs ≡ length ps
      → ((k : ℕ) (d : Pair) → k < length ps → home tree (slice_index_or ps k d ∷ []) ≡ Some
      (slice_index hs k))
      → (k : ℕ) (d : Pair) → k < length (ps ++ p ∷ [])
      → home tree (slice_index_or (ps ++ p ∷ []) k d ∷ []) ≡ Some (slice_index
      (hs ++ at ∷ []) k)
  homes_push [] [] e h zero d l = here
  homes_push [] [] e h (suc k) d l = absurd (omega arith)
  homes_push [] (y ∷ ys) e h k d l = absurd (omega (arith, e))
  homes_push (x ∷ xs) [] e h k d l = absurd (omega (arith, e))
  homes_push (x ∷ xs) (y ∷ ys) e h zero d l = h 0 d (omega arith)
  homes_push (x ∷ xs) (y ∷ ys) e h (suc k) d l = homes_push xs ys (omega (
    arith,
    e,
  )) (λ i f m. h (suc i) f (omega arith)) k d (omega arith)

  pub pairs_push : (network : List Variable) (ps : List Pair) (hs : List ℕ) → IsPairOf network p
      → ArePlacedPairs network tree ps hs
      → ArePlacedPairs network tree (ps ++ p ∷ []) (hs ++ at ∷ [])
  pairs_push network ps hs is h = record {
    of_network = All-push (IsPairOf network) ps p h.of_network is;
    one_home_each = let e = h.one_home_each in omega (
      arith,
      e,
      length-append ps (p ∷ []),
      length-append hs (at ∷ []),
    );
    home_is = homes_push ps hs h.one_home_each h.home_is;
  }

-- ---- groups that keep together what they name

module _ (old new : List Group) (keeps : KeepsTogether old new) where
  pub all_regrouped : (network : List Variable) (tree : GivenTree) (ts : List PlacedRatio)
      → All (IsGroupedRatio network tree old) ts → All (IsGroupedRatio network tree new) ts
  all_regrouped network tree ts h =
      All-weaker (IsGroupedRatio network tree old) (IsGroupedRatio network tree new)
      (λ t is. record {
        home_is = is.home_is;
        of_network = is.of_network;
        gathered = stays_gathered old new (ratio_in t) keeps is.gathered;
      }) ts h

pub regrouped : (old new : Groups) (ts : List PlacedRatio) (ks : List Pair) (homes : List ℕ)
    (m : Meaning) → KeepsTogether old.list.items new.list.items → HasGroups (sizes m.network) new
    → AreGrouped old ts ks homes m → AreGrouped new ts ks homes m
regrouped old new ts ks homes m keeps has is = record {
  legal = is.legal;
  tree = is.tree;
  factors_are = is.factors_are;
  known_are = is.known_are;
  groups = has;
  trades = all_regrouped old.list.items new.list.items keeps m.network m.tree ts is.trades;
  few_trades = is.few_trades;
  pairs = is.pairs;
  agree = is.agree;
}

-- ---- a ratio more

-- the ratio of a copy
grouped_copy : (network : List Variable) (tree : GivenTree) (groups : List Group)
    (t : PlacedRatio) (r : TradeRatio) → ratio_in t ≡ r
    → home tree (ratio_pairs r) ≡ Some t.home → IsRatioOf network r → IsGathered groups r
    → IsGroupedRatio network tree groups t
grouped_copy network tree groups t r e h is g = record {
  home_is = subst (λ (q : TradeRatio). home tree (ratio_pairs q) ≡ Some t.home) (sym e) h;
  of_network = subst (λ (q : TradeRatio). IsRatioOf network q) (sym e) is;
  gathered = subst (λ (q : TradeRatio). IsGathered groups q) (sym e) g;
}

pub grouped_push : (gs : Groups) (ts : List PlacedRatio) (ks : List Pair) (homes : List ℕ)
    (m : Meaning) (t : PlacedRatio) (r : TradeRatio) → ratio_in t ≡ r
    → home m.tree (ratio_pairs r) ≡ Some t.home → IsRatioOf m.network r
    → IsGathered gs.list.items r → length ts < max_groups → AreGrouped gs ts ks homes m
    → AreGrouped gs (ts ++ t ∷ []) ks homes (with_factor (RatioOf r) m)
grouped_push gs ts ks homes m t r e h of_net g few is = record {
  legal = is.legal;
  tree = is.tree;
  factors_are =
      ap (λ (fs : List Factor). fs ++ RatioOf r ∷ []) is.factors_are
      ∙ ap (λ (q : TradeRatio). factors_of ts ++ RatioOf q ∷ []) (sym e)
      ∙ factors_push ts t;
  known_are = is.known_are;
  groups = is.groups;
  trades =
      All-push (IsGroupedRatio m.network m.tree gs.list.items) ts t is.trades
      (grouped_copy m.network m.tree gs.list.items t r e h of_net g);
  few_trades = omega (arith, few, length-append ts (t ∷ []));
  pairs = is.pairs;
  agree = is.agree;
}

-- a pair that no known one contradicts
pub known_push : (gs : Groups) (ts : List PlacedRatio) (ks : List Pair) (homes : List ℕ)
    (m : Meaning) (p : Pair) (at : ℕ) → IsPairOf m.network p → home m.tree (p ∷ []) ≡ Some at
    → contradicts_pair ks p ≡ false → AreGrouped gs ts ks homes m
    → AreGrouped gs ts (ks ++ p ∷ []) (homes ++ at ∷ []) (with_known p m)
known_push gs ts ks homes m p at of_net here none is = record {
  legal = is.legal;
  tree = is.tree;
  factors_are = is.factors_are;
  known_are = ap (λ (qs : List Pair). qs ++ p ∷ []) is.known_are;
  groups = is.groups;
  trades = is.trades;
  few_trades = is.few_trades;
  pairs = pairs_push m.tree p at here m.network ks homes of_net is.pairs;
  agree = agree_push ks p is.agree none;
}
