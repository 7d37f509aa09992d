-- How a best state is found, one variable after the other.
use Rattle.std.specs.Prelude.{◌≡◌, ℕ, suc, ◌+◌, ◌-◌, ◌*◌, ◌^◌, ◌<◌, ◌≤◌, List, [], ◌∷◌, length}
use Rattle.std.specs.Prelude.{take, slice_index}
use Rattle.mk_net.specs.declared.words.Pair.{Pair}
use Rattle.mk_net.specs.Bounds.{max_market_trades}
use Rattle.mk_net.specs.Network.{Variable, IsNetwork, sizes}
use Rattle.mk_states.specs.Events.{holds, always}
use Rattle.mk_exact.specs.History.{Entry, trades}
use Rattle.mk_states.specs.OfNetwork.{IsPairOf}
use Rattle.mk_exact.specs.Weight.{IsSmall, total}
use Rattle.mk_scaled.specs.Near.{IsNear}
use Rattle.mk_enclose.specs.declared.enclosure.Enclosure.{Enclosure}
use Rattle.mk_enclose.specs.Enclosure.{Encloses, lower_of, upper_of}
use Rattle.mk_semiring.specs.declared.held.Held.{Held}
use Rattle.mk_semiring.specs.declared.held.Held.TheVariants.{Absent, Present}
use Rattle.mk_tree.specs.Given.{GivenTree}
use Rattle.mk_tree.specs.Checked.{IsTreeOf}
use Rattle.mk_engine.specs.Meaning.{Meaning}
use Rattle.mk_beliefs.specs.Meanings.{weights_of}
use Rattle.mk_answers.specs.inner.Found.{IsBeliefIn, max_side_grade}
use Rattle.mk_best.specs.declared.found.Best.{Best}
use Rattle.mk_best.specs.declared.found.Best.TheVariants.{Found, Impossible}
use Rattle.mk_best.specs.BestStates.{greatest, IsBest}
use Rattle.mk_best.specs.inner.Engines.{learned}

-- the lower end of a belief; 0 where it is absent
abbrev pub low_of : Held → ℕ
low_of Absent = 0
low_of (Present e) = lower_of e

-- a variable at a value
abbrev pub is_at : ℕ → ℕ → Pair
is_at variable value = record { variable = variable; value = value }

-- the variables from one on at these values
abbrev pub pairs_from : ℕ → List ℕ → List Pair
pairs_from k [] = []
pairs_from k (v ∷ values) = is_at k v ∷ pairs_from (suc k) values

-- the greatest weight that is left with a variable at a value
abbrev pub greatest_with : List Variable → List Entry → ℕ → ℕ → ℕ
greatest_with network H variable value = greatest network H (holds (is_at variable value ∷ []))

-- of the numbers of f below n, that at the value has a lower end to which all are near; in the
-- small case none is above it, and those before it are below
pub record IsPickOf (n : ℕ) (f : ℕ → ℕ) (small : Type 0) (value low : ℕ) : Type 0 where
  pub within : value ≤ n - 1
  pub below : low ≤ f value
  pub near : (x : ℕ) → x < n → IsNear low (f x) max_side_grade
  pub none_above : small → (x : ℕ) → x < n → f x ≤ low
  pub first : small → (x : ℕ) → x < value → f x < low

-- such a value of a variable, by the greatest weights that are left with each
abbrev pub IsPick : List Variable → List Entry → ℕ → ℕ → Type 0
IsPick network H variable value =
    (low : ℕ) × IsPickOf (slice_index (sizes network) variable) (greatest_with network H variable)
    (IsSmall network H) value low

-- the first k variables at values with which the greatest weight that is left is near that of all;
-- in the small case it is the same, and with an earlier value of one of them it is less
pub record AreFound (network : List Variable) (H : List Entry) (k : ℕ) (pairs : List Pair) :
    Type 0 where
  pub values : List ℕ
  pub are : pairs ≡ pairs_from 0 values
  pub count : length values ≡ k
  pub in_range : (i : ℕ) → i < k → slice_index values i < slice_index (sizes network) i
  pub near : IsNear (greatest network (learned H pairs) always) (greatest network H always)
      (max_side_grade * k)
  pub same : IsSmall network H
      → greatest network (learned H pairs) always ≡ greatest network H always
  pub before : IsSmall network H → (i : ℕ) → i < k → (x : ℕ) → x < slice_index values i
      → greatest_with network (learned H (pairs_from 0 (take i values))) i x
      < greatest network H always

module _ {E : Type 0} (stands_for : E → Meaning → Type 0) where
  -- the engine has the weights of a history of a network with this tree, whose pair this is
  pub record CanAskIn (engine : E) (tree : GivenTree) (pair : Pair) : Type 0 where
    pub network : List Variable
    pub history : List Entry
    pub stands : stands_for engine (weights_of network tree history)
    pub legal : IsNetwork network
    pub tree_of_it : IsTreeOf network tree
    pub in_range : IsPairOf network pair

  -- the engine has the weights of a history of this network, of no more trades than a market takes
  pub record CanSearch (engine : E) (network : List Variable) (tree : GivenTree) : Type 0 where
    pub history : List Entry
    pub stands : stands_for engine (weights_of network tree history)
    pub legal : IsNetwork network
    pub tree_of_it : IsTreeOf network tree
    pub few_trades : length (trades history) ≤ max_market_trades

-- a best state of those that are left; or none is left
abbrev pub IsBestLeft : List Variable → List Entry → Best → Type 0
IsBestLeft network H (Found low high most value state) =
    (1 ≤ total network H always) × IsBest network H [] low high most value state
IsBestLeft network H Impossible = total network H always ≡ 0

-- both engines have the weights of one history
pub record CanSearchBoth {S M : Type 0} (sums_for : S → Meaning → Type 0)
    (maxima_for : M → Meaning → Type 0) (sums : S) (maxima : M) (network : List Variable)
    (tree : GivenTree) : Type 0 where
  pub history : List Entry
  pub summed : sums_for sums (weights_of network tree history)
  pub compared : maxima_for maxima (weights_of network tree history)
  pub legal : IsNetwork network
  pub tree_of_it : IsTreeOf network tree
  pub few_trades : length (trades history) ≤ max_market_trades

-- the beliefs in a state's weight and in the best, and the enclosure of what they are shares of
pub record AreEnds (own most : Held) (whole : Enclosure) (small : Type 0) (v w t : ℕ) : Type 0 where
  pub of_state : IsBeliefIn own small v
  pub of_best : IsBeliefIn most small w
  pub of_whole : IsBeliefIn (Present whole) small t
  pub some : 1 ≤ w
  pub near : IsNear v w (2 ^ 28)
  pub state_at_most : v ≤ w
  pub best_at_most : w ≤ t

-- so they are in some market
pub record HasEnds (own most : Held) (whole : Enclosure) : Type 0 where
  pub network : List Variable
  pub history : List Entry
  pub state : ℕ
  pub best : ℕ
  pub all : ℕ
  pub ends : AreEnds own most whole (IsSmall network history) state best all

-- an enclosure of both weights, and the units of the best in the whole, rounded up
pub record IsCertificate (value : Enclosure) (units : ℕ) (small : Type 0) (v w t : ℕ) : Type 0 where
  pub of_state : Encloses value v
  pub of_best : Encloses value w
  pub width : upper_of value * 2 ^ 31 ≤ lower_of value * (2 ^ 31 + 1)
  pub at_least : 10 ^ 10 * w ≤ units * t
  pub near : (low : ℕ) → low ≤ 10 ^ 10 → 10 ^ 10 * v * (2 ^ 39 - 1) < (low + 1) * t * 2 ^ 39
      → units ≤ low + 5
  pub ceiling : small → units * t < 10 ^ 10 * w + t
