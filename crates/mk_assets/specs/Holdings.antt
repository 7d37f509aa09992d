-- What one user's assets stand for, and what is asked of them.
use Rattle.std.specs.Prelude.{◌≡◌, ℕ, ◌+◌, ◌*◌, ◌<◌, ◌≤◌, ℤ, List, map, length, take, Option, IsNone}
use Rattle.std.specs.Prelude.{IfSome, ◌↔◌}
use Rattle.std.specs.List.{count_by}
use Rattle.mk_net.specs.declared.words.Pair.{Pair}
use Rattle.mk_net.specs.Asked.{Asked, TradeRatio}
use Rattle.mk_net.specs.Bounds.{max_transfers, max_transfer_bits, number_limit}
use Rattle.mk_net.specs.Network.{Variable, IsNetwork}
use Rattle.mk_net.specs.Zeros.{with_zeros}
use Rattle.mk_states.specs.OfNetwork.{IsRatioOf}
use Rattle.mk_enclose.specs.declared.factor.Factor.{Factor}
use Rattle.mk_enclose.specs.Enclosure.{Encloses, IsExact}
use Rattle.mk_enclose.specs.Factor.{paid_in, taken_out}
use Rattle.mk_tree.specs.Given.{GivenTree}
use Rattle.mk_tree.specs.Checked.{IsTreeOf}
use Rattle.mk_semiring.specs.declared.held.Held.TheVariants.{Present}
use Rattle.mk_semiring.specs.Held.{HasHeldGrade}
use Rattle.mk_engine.specs.Meaning.{Meaning, SupportOf, RatioOf, is_ratio, with_factor, whole_sum, max_factors, ArePairsOf}
use Rattle.mk_engine.specs.Cases.{CanAskOthers}
use Rattle.mk_assets.specs.declared.assets.Assets.{Assets}

-- what a user's assets stand for: the ratios of the user's trades over the states of a network, with what is known, and the bits
-- of the user's transfers
pub record Holding : Type 0 where
  pub meaning : Meaning
  pub deposited : ℕ
  pub withdrawn : ℕ

-- nothing is traded, and nothing transferred: it holds the support of each variable that has a share of nothing
abbrev pub opening_holding : List Variable → GivenTree → List Pair → Holding
opening_holding network tree known =
    record { meaning = record { network = network; tree = tree; factors = map SupportOf (with_zeros network); known = known }; deposited = 0; withdrawn = 0 }

-- how many trades are held
abbrev pub trades_in : Holding → ℕ
trades_in h = count_by is_ratio h.meaning.factors

-- with one trade more
abbrev pub with_trade : TradeRatio → Holding → Holding
with_trade ratio h = record { meaning = with_factor (RatioOf ratio) h.meaning; deposited = h.deposited; withdrawn = h.withdrawn }

-- with bits deposited
abbrev pub with_deposit : ℕ → Holding → Holding
with_deposit bits h = record { meaning = h.meaning; deposited = h.deposited + bits; withdrawn = h.withdrawn }

-- with bits withdrawn
abbrev pub with_withdrawal : ℕ → Holding → Holding
with_withdrawal bits h = record { meaning = h.meaning; deposited = h.deposited; withdrawn = h.withdrawn + bits }

-- with so many of the pairs that are known there, the first
abbrev pub with_first_known : ℕ → Meaning → Meaning
with_first_known n m = record { network = m.network; tree = m.tree; factors = m.factors; known = take n m.known }

-- as many bits as all transfers of a market can come to
abbrev pub max_bits : ℕ
max_bits = max_transfers * max_transfer_bits

-- net bits are those deposited less those withdrawn
pub record IsNet (net : ℤ) (deposited withdrawn : ℕ) : Type 0 where
  pub same : paid_in net + withdrawn ≡ deposited + taken_out net

-- the plan stands for the network
pub record IsPlanned {P : Type 0} (plan_for : P → List Variable → GivenTree
    → Type 0) (plan : P) (network : List Variable) : Type 0 where
  pub legal : IsNetwork network
  pub tree : GivenTree
  pub planned : plan_for plan network tree

module _ {E P : Type 0} (stands_for : E → Meaning → Type 0) where
  -- the assets are those of a holding, and may not have learnt the last pairs that are known there
  pub record Holds (assets : Assets E P) (h : Holding) : Type 0 where
    pub stands : stands_for assets.engine (with_first_known assets.learnt h.meaning)
    pub some_learnt : assets.learnt ≤ length h.meaning.known
    pub counted : assets.trades ≡ trades_in h
    pub net : IsNet assets.net h.deposited h.withdrawn
    pub few_in : h.deposited ≤ max_bits
    pub few_out : h.withdrawn ≤ max_bits

  -- the assets stand for a holding: they have learnt all pairs that are known there
  pub record Owns (assets : Assets E P) (h : Holding) : Type 0 where
    pub stands : stands_for assets.engine h.meaning
    pub all_learnt : assets.learnt ≡ length h.meaning.known
    pub counted : assets.trades ≡ trades_in h
    pub net : IsNet assets.net h.deposited h.withdrawn
    pub few_in : h.deposited ≤ max_bits
    pub few_out : h.withdrawn ≤ max_bits

  -- they are those of a holding of whose network this is a ratio, with fewer factors than an engine may hold
  pub record CanTrade (assets : Assets E P) (ratio : TradeRatio) : Type 0 where
    pub holding : Holding
    pub holds : Holds assets holding
    pub in_range : IsRatioOf holding.meaning.network ratio
    pub room : length holding.meaning.factors < max_factors

  -- for one that so many bits may be deposited to
  pub record CanDeposit (assets : Assets E P) (bits : ℕ) : Type 0 where
    pub holding : Holding
    pub holds : Holds assets holding
    pub room : holding.deposited + bits ≤ max_bits

  -- for one that so many bits may be withdrawn from
  pub record CanWithdraw (assets : Assets E P) (bits : ℕ) : Type 0 where
    pub holding : Holding
    pub holds : Holds assets holding
    pub room : holding.withdrawn + bits ≤ max_bits

  -- for one over this tree of its network, where these pairs of the network are known
  pub record CanLearn (assets : Assets E P) (tree : GivenTree) (known : List Pair) : Type 0 where
    pub holding : Holding
    pub holds : Holds assets holding
    pub tree_of_it : IsTreeOf holding.meaning.network tree
    pub same_tree : holding.meaning.tree ≡ tree
    pub same_known : holding.meaning.known ≡ known
    pub in_range : ArePairsOf holding.meaning.network known

  -- they stand for one of whose network these are pairs
  pub record CanFindLeast (assets : Assets E P) (event : List Pair) : Type 0 where
    pub holding : Holding
    pub owns : Owns assets holding
    pub in_range : ArePairsOf holding.meaning.network event

  -- their engine can be asked for the other values of a question's variable, of which there are so many
  abbrev pub CanFindLeastOfOthers : Assets E P → ℕ → Asked → ℕ → Type 0
  CanFindLeastOfOthers assets at asked values = CanAskOthers stands_for assets.engine at asked
      values

-- their engine answers an event in this clique, or places there what speaks of its variables
abbrev pub IsTakenAt : {E P : Type 0} → (E → ℕ → List Pair → Type 0) → Assets E P → ℕ → List Pair
    → Type 0
IsTakenAt takes assets at event = takes assets.engine at event

-- the least factor of a holding over the states where the known pairs and an event hold: none where there is no such state
pub record IsLeastFactor (h : Holding) (least_gain most : ℕ) (result : Option Factor) : Type 0 where
  pub none : IsNone result ↔ (least_gain ≡ 0)
  pub gain : IfSome result (λ (f : Factor). Encloses f.gain least_gain)
  pub grade : IfSome result (λ (f : Factor). HasHeldGrade (Present f.gain) most)
  pub exact : whole_sum h.meaning < number_limit → IfSome result (λ (f : Factor). IsExact f.gain)
  pub trades : IfSome result (λ (f : Factor). f.trades ≡ trades_in h)
  pub net : IfSome result (λ (f : Factor). IsNet f.net h.deposited h.withdrawn)
