-- What is placed in the cliques of a tree: factors, and known pairs.
use Rattle.std.specs.Prelude.{◌≡◌, ℕ, ◌<◌, ◌≤◌, ◌==◌, ◌&&◌, List, [], ◌∷◌, ◌++◌, map, length, All, true, count_by}
use Rattle.mk_net.specs.declared.words.Pair.{Pair}
use Rattle.mk_net.specs.Asked.{ratio_pairs}
use Rattle.mk_net.specs.Network.{Variable}
use Rattle.mk_states.specs.OfNetwork.{IsPairOf, IsRatioOf}
use Rattle.mk_sums.specs.Joint.{Item, placed_in, where_has}
use Rattle.mk_tree.specs.Given.{GivenTree, clique_at, holds, holds_event}
use Rattle.mk_tree.specs.Tests.{holds_family}
use Rattle.mk_engine.specs.Meaning.{Meaning, Factor, RowsOf, SupportOf, RatioOf, factor_there, is_ratio, max_factors}
use Rattle.mk_engine.specs.Apart.{HasCondition}
use Rattle.mk_plan.specs.Shapes.{IsClique}

pub record PlacedFactor : Type 0 where
  pub clique : ℕ
  pub factor : Factor

pub record PlacedPair : Type 0 where
  pub clique : ℕ
  pub pair : Pair

pub record Placing : Type 0 where
  pub network : List Variable
  pub factors : List PlacedFactor
  pub known : List PlacedPair

abbrev pub nothing_placed : List Variable → Placing
nothing_placed network = record { network = network; factors = []; known = [] }

abbrev pub with_factor_in : ℕ → Factor → Placing → Placing
with_factor_in clique factor p =
    record { network = p.network; factors = p.factors ++ record { clique = clique; factor = factor } ∷ []; known = p.known }

abbrev pub with_pair_in : ℕ → Pair → Placing → Placing
with_pair_in clique pair p =
    record { network = p.network; factors = p.factors; known = p.known ++ record { clique = clique; pair = pair } ∷ [] }

abbrev pub factor_item : List Variable → PlacedFactor → Item
factor_item network f = record { clique = f.clique; value = factor_there network f.factor }

abbrev pub pair_item : PlacedPair → Item
pair_item q = record { clique = q.clique; value = where_has q.pair }

abbrev pub items_of : Placing → List Item
items_of p = map (factor_item p.network) p.factors ++ map pair_item p.known

-- the product of what is placed in a clique
abbrev pub placed_there : Placing → ℕ → (ℕ → ℕ) → ℕ
placed_there p k = placed_in (items_of p) k

-- how many factors are placed in a clique
abbrev pub factors_in : Placing → ℕ → ℕ
factors_in p k = count_by (λ (f : PlacedFactor). f.clique == k) p.factors

-- how many of them are ratios
abbrev pub ratios_in : Placing → ℕ → ℕ
ratios_in p k = count_by (λ (f : PlacedFactor). f.clique == k && is_ratio f.factor) p.factors

-- every ratio that is placed has the pair in its condition
abbrev pub IsCommon : Placing → Pair → Type 0
IsCommon p pair = All (λ (f : PlacedFactor). HasCondition pair f.factor) p.factors

-- a factor of the network, all of whose variables a clique holds
abbrev pub IsFactorIn : List Variable → GivenTree → ℕ → Factor → Type 0
IsFactorIn network tree k (RowsOf x) = (x < length network) × (holds_family network x (clique_at tree k) ≡ true)
IsFactorIn network tree k (SupportOf x) = (x < length network) × (holds_family network x (clique_at tree k) ≡ true)
IsFactorIn network tree k (RatioOf ratio) = IsRatioOf network ratio × (holds_event (ratio_pairs ratio) (clique_at tree k) ≡ true)

pub record IsPlacedFactor (network : List Variable) (tree : GivenTree) (f : PlacedFactor) : Type 0 where
  pub clique_is : IsClique tree f.clique
  pub fits : IsFactorIn network tree f.clique f.factor

pub record IsPlacedPair (network : List Variable) (tree : GivenTree) (q : PlacedPair) : Type 0 where
  pub clique_is : IsClique tree q.clique
  pub in_range : IsPairOf network q.pair
  pub holds_it : holds tree q.clique q.pair.variable ≡ true

-- each thing is placed in a clique that holds its variables, and there are no more factors than an engine may hold
pub record IsPlacing (tree : GivenTree) (p : Placing) : Type 0 where
  pub factors_fit : All (IsPlacedFactor p.network tree) p.factors
  pub known_fit : All (IsPlacedPair p.network tree) p.known
  pub few : length p.factors ≤ max_factors

-- what an engine stands for in which this is placed
abbrev pub meaning_of : GivenTree → Placing → Meaning
meaning_of tree p = record {
  network = p.network;
  tree = tree;
  factors = map (λ (f : PlacedFactor). f.factor) p.factors;
  known = map (λ (q : PlacedPair). q.pair) p.known;
}
