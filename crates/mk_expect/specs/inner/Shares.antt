-- What the calls ask of an engine that has the weights of a history.
use Rattle.std.specs.Prelude.{◌≡◌, ℕ, ◌*◌, ◌^◌, ◌≤◌, List, length, is_some, true}
use Rattle.std.specs.List.{AllByRecursion}
use Rattle.mk_net.specs.declared.words.Pair.{Pair}
use Rattle.mk_net.specs.Asked.{TradeRatio, ratio_pairs}
use Rattle.mk_net.specs.Bounds.{max_market_trades}
use Rattle.mk_net.specs.Network.{Variable, IsNetwork}
use Rattle.mk_states.specs.Events.{always}
use Rattle.mk_exact.specs.History.{Entry, Trade, trades}
use Rattle.mk_states.specs.OfNetwork.{IsRatioOf}
use Rattle.mk_exact.specs.Weight.{total, IsSmall}
use Rattle.mk_enclose.specs.declared.enclosure.Enclosure.{Enclosure}
use Rattle.mk_semiring.specs.declared.held.Held.TheVariants.{Present}
use Rattle.mk_tree.specs.Given.{GivenTree, home}
use Rattle.mk_tree.specs.Checked.{IsTreeOf}
use Rattle.mk_tree.specs.Held.{IsHeldAt}
use Rattle.mk_engine.specs.Meaning.{Meaning, ArePairsOf}
use Rattle.mk_beliefs.specs.Meanings.{weights_of}
use Rattle.mk_answers.specs.inner.Found.{IsBeliefIn}
use Rattle.mk_best.specs.Chances.{IsPlaced}
use Rattle.mk_expect.specs.Expectation.{HasFewBits}

-- the share of a part in a whole, in parts of 2^34
pub record IsShare (share : ℕ × ℕ) (part whole : ℕ) : Type 0 where
  pub below : share.0 * whole ≤ 2 ^ 34 * part
  pub above : 2 ^ 34 * part ≤ share.1 * whole

-- an entry that is a trade is of the network, and has a home
abbrev pub FitsEntry : List Variable → GivenTree → Entry → Type 0
FitsEntry network tree (Trade user ratio) =
    IsRatioOf network ratio × (is_some (home tree (ratio_pairs ratio)) ≡ true)
FitsEntry network tree _ = Unit {0}

module _ {E : Type 0} (stands_for : E → Meaning → Type 0) where
  -- the engine has the weights of a history of this network with this tree, and the whole is of
  -- those of all possible states
  pub record HasWhole (engine : E) (network : List Variable) (tree : GivenTree) (H : List Entry)
      (whole : Enclosure) : Type 0 where
    pub stands : stands_for engine (weights_of network tree H)
    pub legal : IsNetwork network
    pub few_trades : length (trades H) ≤ max_market_trades
    pub of_whole : IsBeliefIn (Present whole) (IsSmall network H) (total network H always)

  -- so it does for some history of a network whose pairs these are, and the clique holds them
  pub record CanShare (engine : E) (home : ℕ) (event : List Pair) (whole : Enclosure) : Type 0 where
    pub network : List Variable
    pub tree : GivenTree
    pub history : List Entry
    pub has : HasWhole engine network tree history whole
    pub in_range : ArePairsOf network event
    pub held : IsHeldAt tree home event

  -- so it does for some history of a network that the ratio is of, and the clique holds it
  pub record CanTallyAt (engine : E) (home : ℕ) (ratio : TradeRatio) (whole : Enclosure) : Type 0
    where
      pub network : List Variable
      pub tree : GivenTree
      pub history : List Entry
      pub has : HasWhole engine network tree history whole
      pub in_range : IsRatioOf network ratio
      pub held : IsHeldAt tree home (ratio_pairs ratio)

  -- so it does for some history of a network with this tree that the ratio is of, and it has a home
  pub record CanTally (engine : E) (tree : GivenTree) (ratio : TradeRatio) (whole : Enclosure) :
      Type 0 where
    pub network : List Variable
    pub history : List Entry
    pub has : HasWhole engine network tree history whole
    pub in_range : IsRatioOf network ratio
    pub at_home : is_some (home tree (ratio_pairs ratio)) ≡ true

  -- so it does for some history of a network with this tree that the entry fits
  pub record CanAdd (engine : E) (tree : GivenTree) (e : Entry) (whole : Enclosure) : Type 0 where
    pub network : List Variable
    pub history : List Entry
    pub has : HasWhole engine network tree history whole
    pub fits : FitsEntry network tree e

  -- so it does for this history, whose entries fit the network, and in which the user has few bits
  pub record CanAddAll (engine : E) (tree : GivenTree) (H : List Entry) (u : ℕ)
      (whole : Enclosure) : Type 0 where
    pub network : List Variable
    pub has : HasWhole engine network tree H whole
    pub fits : AllByRecursion (FitsEntry network tree) H
    pub few_bits : HasFewBits H u

  -- the engine has the weights of a placed history of a network with this tree, in which the user
  -- has few bits
  pub record CanExpect (engine : E) (tree : GivenTree) (H : List Entry) (u : ℕ) : Type 0 where
    pub network : List Variable
    pub stands : stands_for engine (weights_of network tree H)
    pub legal : IsNetwork network
    pub tree_of_it : IsTreeOf network tree
    pub placed : IsPlaced network tree H
    pub few_bits : HasFewBits H u
