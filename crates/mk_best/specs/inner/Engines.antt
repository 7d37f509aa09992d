-- What the calls ask of an engine that has the weights of a history, and what is found of the
-- states that are left.
use Rattle.std.specs.Prelude.{◌≡◌, ℕ, ◌<◌, ◌≤◌, List, ◌++◌, map, length}
use Rattle.mk_net.specs.declared.words.Pair.{Pair}
use Rattle.mk_net.specs.Bounds.{max_market_trades, sharpness, grade_room}
use Rattle.mk_net.specs.Network.{Variable, IsNetwork}
use Rattle.mk_states.specs.Events.{holds, always}
use Rattle.mk_exact.specs.History.{Entry, Resolve, trades}
use Rattle.mk_exact.specs.Prices.{CoversPrice}
use Rattle.mk_states.specs.OfNetwork.{IsPairOf}
use Rattle.mk_exact.specs.Weight.{IsSmall, total}
use Rattle.mk_enclose.specs.declared.enclosure.Enclosure.{Enclosure}
use Rattle.mk_semiring.specs.declared.held.Held.{Held}
use Rattle.mk_semiring.specs.declared.held.Held.TheVariants.{Present}
use Rattle.mk_semiring.specs.Held.{HasHeldGrade}
use Rattle.mk_tree.specs.Given.{GivenTree}
use Rattle.mk_tree.specs.Checked.{IsTreeOf}
use Rattle.mk_engine.specs.Meaning.{Meaning, ArePairsOf}
use Rattle.mk_beliefs.specs.Meanings.{weights_of}
use Rattle.mk_answers.specs.inner.Found.{IsBeliefIn}
use Rattle.mk_best.specs.declared.found.Chance.{Chance}
use Rattle.mk_best.specs.declared.found.Chance.TheVariants.{Price, Impossible}

-- a history after which these pairs were resolved too
abbrev pub learned : List Entry → List Pair → List Entry
learned H pairs = H ++ map Resolve pairs

module _ {E : Type 0} (stands_for : E → Meaning → Type 0) where
  -- the engine has the weights of a history of a network with this tree, whose pairs these are
  pub record CanLearn (engine : E) (tree : GivenTree) (pairs : List Pair) : Type 0 where
    pub network : List Variable
    pub history : List Entry
    pub stands : stands_for engine (weights_of network tree history)
    pub tree_of_it : IsTreeOf network tree
    pub in_range : ArePairsOf network pairs

  -- the engine has the weights of a history of this network, of no more trades than a market takes,
  -- and what is asked is in its range
  pub record CanAskWhat (engine : E) (network : List Variable) (tree : GivenTree)
      (is_in_range : Type 0) : Type 0 where
    pub history : List Entry
    pub stands : stands_for engine (weights_of network tree history)
    pub legal : IsNetwork network
    pub tree_of_it : IsTreeOf network tree
    pub few_trades : length (trades history) ≤ max_market_trades
    pub in_range : is_in_range

  -- so for pairs
  abbrev pub CanAsk : E → List Variable → GivenTree → List Pair → Type 0
  CanAsk engine network tree pairs = CanAskWhat engine network tree (ArePairsOf network pairs)

  -- and for one
  abbrev pub CanAskPair : E → List Variable → GivenTree → Pair → Type 0
  CanAskPair engine network tree pair = CanAskWhat engine network tree (IsPairOf network pair)

-- the share of the states with all pairs among those that are left; or none is left
abbrev pub IsLeftFor : List Variable → List Entry → List Pair → Chance → Type 0
IsLeftFor network H want (Price low high) =
    (1 ≤ total network H always) × CoversPrice (IsSmall network H) (sharpness (length (trades H)))
    (record { num = total network H (holds want); den = total network H always }) low high
IsLeftFor network H want Impossible = total network H always ≡ 0

-- the beliefs are in a part and in a whole that is more, with grades for which so many trades leave
-- room
pub record ArePartAndWhole (network : List Variable) (H : List Entry) (part : Held)
    (whole : Enclosure) (v w : ℕ) : Type 0 where
  pub of_part : IsBeliefIn part (IsSmall network H) v
  pub of_whole : IsBeliefIn (Present whole) (IsSmall network H) w
  pub part_room : HasHeldGrade part (grade_room (length (trades H)))
  pub whole_room : HasHeldGrade (Present whole) (grade_room (length (trades H)))
  pub less : v < w

pub record HasPartAndWhole (part : Held) (whole : Enclosure) : Type 0 where
  pub network : List Variable
  pub history : List Entry
  pub inner : ℕ
  pub outer : ℕ
  pub are : ArePartAndWhole network history part whole inner outer
