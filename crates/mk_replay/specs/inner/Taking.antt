-- What engines and assets are asked when they take one entry of a history.
use Rattle.std.specs.Prelude.{◌≡◌, ℕ, ◌+◌, ◌<◌, ◌≤◌, List, [], ◌∷◌, length, is_some, true}
use Rattle.std.specs.Prelude.{◌==◌, if◌then◌else◌, Option, Some, None}
use Rattle.mk_net.specs.Asked.{ratio_pairs}
use Rattle.mk_states.specs.OfNetwork.{IsPairOf, IsRatioOf}
use Rattle.mk_exact.specs.History.{Entry, Deposit, Withdraw, Trade, Resolve}
use Rattle.mk_tree.specs.Given.{GivenTree, home}
use Rattle.mk_engine.specs.Meaning.{Meaning, with_known, max_factors}
use Rattle.mk_assets.specs.declared.assets.Assets.{Assets}
use Rattle.mk_assets.specs.Holdings.{Holding, Holds, max_bits, with_trade, with_deposit}
use Rattle.mk_assets.specs.Holdings.{with_withdrawal}
use Rattle.mk_replay.specs.Each.{HoldAll}

-- one entry more can be taken: a trade has a home and room, and a resolution is of the network
abbrev pub CanTakeBy : Meaning → Entry → Type 0
CanTakeBy m (Trade user ratio) = IsRatioOf m.network ratio ×
    (is_some (home m.tree (ratio_pairs ratio)) ≡ true) × (length m.factors < max_factors)
CanTakeBy m (Resolve pair) = IsPairOf m.network pair × (is_some (home m.tree (pair ∷ [])) ≡ true)
CanTakeBy m _ = Unit {0}

-- the engine can take this entry
pub record CanTake {E : Type 0} (stands_for : E → Meaning → Type 0) (engine : E) (tree : GivenTree)
    (e : Entry) : Type 0 where
  pub meaning : Meaning
  pub stands : stands_for engine meaning
  pub of_tree : meaning.tree ≡ tree
  pub takes : CanTakeBy meaning e

-- the user whose trade, deposit or withdrawal an entry is
abbrev pub user_of : Entry → Option ℕ
user_of (Deposit user bits) = Some user
user_of (Withdraw user bits) = Some user
user_of (Trade user ratio) = Some user
user_of _ = None

-- a user's holding after one more entry
abbrev pub grown_holding : ℕ → Entry → Holding → Holding
grown_holding u (Deposit user bits) h = if user == u then with_deposit bits h else h
grown_holding u (Withdraw user bits) h = if user == u then with_withdrawal bits h else h
grown_holding u (Trade user ratio) h = if user == u then with_trade ratio h else h
grown_holding u (Resolve pair) h = record {
  meaning = with_known pair h.meaning;
  deposited = h.deposited;
  withdrawn = h.withdrawn;
}
grown_holding u _ h = h

-- there is room for the bits that it moves
abbrev pub HasRoomFor : ℕ → Entry → Holding → Type 0
HasRoomFor u (Deposit user bits) h = user ≡ u → h.deposited + bits ≤ max_bits
HasRoomFor u (Withdraw user bits) h = user ≡ u → h.withdrawn + bits ≤ max_bits
HasRoomFor u _ h = Unit {0}

-- the user's assets can take this entry
pub record CanTakeOwn {E P : Type 0} (stands_for : E → Meaning → Type 0) (assets : Assets E P)
    (tree : GivenTree) (u : ℕ) (e : Entry) : Type 0 where
  pub holding : Holding
  pub holds : Holds stands_for assets holding
  pub of_tree : holding.meaning.tree ≡ tree
  pub takes : CanTakeBy holding.meaning e
  pub room : HasRoomFor u e holding

-- each user's assets can take this entry
pub record CanAllTake {E P : Type 0} (stands_for : E → Meaning → Type 0) (all : List (Assets E P))
    (tree : GivenTree) (e : Entry) : Type 0 where
  pub holding : ℕ → Holding
  pub hold : HoldAll stands_for holding all
  pub of_tree : (u : ℕ) → (holding u).meaning.tree ≡ tree
  pub takes : (u : ℕ) → CanTakeBy (holding u).meaning e
  pub room : (u : ℕ) → HasRoomFor u e (holding u)
