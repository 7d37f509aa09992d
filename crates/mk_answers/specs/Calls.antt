-- What each call asks: some market in use, for which the engines stand.
use Rattle.std.specs.Prelude.{ℕ, List}
use Rattle.std.specs.List.{AllByRecursion}
use Rattle.mk_net.specs.declared.words.Pair.{Pair}
use Rattle.mk_net.specs.Network.{Variable}
use Rattle.mk_net.specs.Asked.{Asked}
use Rattle.mk_net.specs.Events.{pairs_asked}
use Rattle.mk_exact.specs.History.{Entry}
use Rattle.mk_states.specs.OfNetwork.{IsPairOf}
use Rattle.mk_tree.specs.Given.{GivenTree}
use Rattle.mk_tree.specs.Held.{IsHeldAt}
use Rattle.mk_engine.specs.Meaning.{Meaning}
use Rattle.mk_beliefs.specs.Meanings.{weights_of, rows_of}
use Rattle.mk_assets.specs.declared.assets.Assets.{Assets}
use Rattle.mk_assets.specs.Holdings.{Owns}
use Rattle.mk_spread.specs.Spreads.{SpreadAsked, asked_of}
use Rattle.mk_answers.specs.Open.{IsOpen, CanBeAnswered, CanBeSpreadHere, holding_of}

-- the engine has the weights of a market in use of this network, where the question can be
-- answered, and a clique holds it
pub record CanPrice {E : Type 0} (stands_for : E → Meaning
    → Type 0) (prices : E) (network : List Variable) (at : ℕ) (asked : Asked) : Type 0 where
  pub tree : GivenTree
  pub history : List Entry
  pub stands : stands_for prices (weights_of network tree history)
  pub is_open : IsOpen network tree history
  pub answered : CanBeAnswered network tree history asked
  pub held : IsHeldAt tree at (pairs_asked asked)

-- the engine has the weights of a market in use, whose network has these pairs, and in whose tree a
-- clique holds them together
pub record CanSearch {E : Type 0} (stands_for : E → Meaning
    → Type 0) (prices : E) (at : ℕ) (event : List Pair) : Type 0 where
  pub network : List Variable
  pub tree : GivenTree
  pub history : List Entry
  pub stands : stands_for prices (weights_of network tree history)
  pub is_open : IsOpen network tree history
  pub in_range : AllByRecursion (IsPairOf network) event
  pub held : IsHeldAt tree at event

-- the assets are those of a user of a market in use
pub record CanFindWorst {E P : Type 0} (stands_for : E → Meaning → Type 0) (assets : Assets E P) : Type 0 where
  pub network : List Variable
  pub tree : GivenTree
  pub history : List Entry
  pub user : ℕ
  pub owns : Owns stands_for assets (holding_of network tree history user)
  pub is_open : IsOpen network tree history

-- the engine has the initial weights of a market in use of this network
pub record CanFindBound {E : Type 0} (stands_for : E → Meaning → Type 0) (rows : E) (network : List Variable) : Type 0 where
  pub tree : GivenTree
  pub history : List Entry
  pub stands : stands_for rows (rows_of network tree history)
  pub is_open : IsOpen network tree history

-- the engine has the weights and the assets are a user's of one market in use of this network,
-- where the question can be answered, and a clique holds it
pub record CanBound {E A P : Type 0} (stands_for : E → Meaning → Type 0) (owned_for : A → Meaning → Type 0) (prices : E) (assets : Assets A P)
    (network : List Variable) (at : ℕ) (asked : Asked) : Type 0 where
  pub tree : GivenTree
  pub history : List Entry
  pub user : ℕ
  pub stands : stands_for prices (weights_of network tree history)
  pub owns : Owns owned_for assets (holding_of network tree history user)
  pub is_open : IsOpen network tree history
  pub answered : CanBeAnswered network tree history asked
  pub held : IsHeldAt tree at (pairs_asked asked)

-- so it is where the question is about every value of a variable
pub record CanBoundSpread {E A P : Type 0} (stands_for : E → Meaning → Type 0) (owned_for : A → Meaning → Type 0) (prices : E) (assets : Assets A P)
    (network : List Variable) (at : ℕ) (spread : SpreadAsked) : Type 0 where
  pub tree : GivenTree
  pub history : List Entry
  pub user : ℕ
  pub stands : stands_for prices (weights_of network tree history)
  pub owns : Owns owned_for assets (holding_of network tree history user)
  pub is_open : IsOpen network tree history
  pub answered : CanBeSpreadHere network tree history spread
  pub held : (value : ℕ) → IsHeldAt tree at (pairs_asked (asked_of spread value))
