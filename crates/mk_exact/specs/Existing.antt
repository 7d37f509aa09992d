-- What exists: an allowed answer to each line that a market can be asked, in numbers. Where a law
-- says ⊤ for the small case, or for a user who holds no trade, it gives what this case asks for,
-- and so what any case does.
use Rattle.std.specs.Prelude.{◌≡◌, ℕ, ◌+◌, ◌*◌, ◌^◌, ◌<◌, ◌≤◌, true, false, ⊤, ◌⊎◌, List, [], ◌∷◌}
use Rattle.std.specs.Prelude.{◌++◌, length, Bool, Option, Some}
use Rattle.std.specs.List.{AllByRecursion, count_by}
use Rattle.mk_net.specs.Bounds.{max_market_trades, max_transfers, max_transfer_bits, number_limit}
use Rattle.mk_net.specs.Bounds.{million, sharpness}
use Rattle.mk_net.specs.Network.{Variable, IsNetwork}
use Rattle.mk_net.specs.Asked.{Asked}
use Rattle.mk_net.specs.Events.{speaks_of, AreApart}
use Rattle.mk_states.specs.InitialWeight.{initial_total}
use Rattle.mk_states.specs.Events.{holds, with_target, without_target, always}
use Rattle.mk_exact.specs.History.{Entry, Deposit, Withdraw, Trade, UserTrade, bits_in, is_transfer, trades, resolutions}
use Rattle.mk_exact.specs.Weight.{possible_states, IsSmall}
use Rattle.mk_exact.specs.Factors.{Fraction, HoldsNoTrade, factor, factor_with, least_gain}
use Rattle.mk_exact.specs.Factors.{IsAtLeastOne}
use Rattle.mk_exact.specs.Prices.{CoversPrice, exact_price}
use Rattle.mk_exact.specs.Cash.{IsCash, CoversCash}
use Rattle.mk_exact.specs.Risk.{least_weight, CoversBound}
use Rattle.mk_exact.specs.Accepted.{Covers, IsMost}
use Rattle.mk_exact.specs.Limits.{Side, Inside, AreRight}
use Rattle.mk_exact.specs.Sound.{IsSound}
use Rattle.mk_states.specs.OfNetwork.{IsQuestionOf}
use Rattle.mk_exact.specs.Proper.{IsProper}
use Rattle.mk_exact.specs.Sides.{AreSides, AreRightLimits, IsFairPair, ratio_in}

-- ---- numbers

-- a price that is positive and at most one
pub record IsPositivePrice (price : Fraction) : Type 0 where
  pub positive : 1 ≤ price.num
  pub at_most_one : price.num ≤ price.den

-- a factor of at least one, with something below the line
pub record IsSafeFactor (q : Fraction) : Type 0 where
  pub divides : 1 ≤ q.den
  pub at_least_one : IsAtLeastOne q

-- a price of at most one has an interval, its floor and its ceiling, however near it is to be
abbrev pub PriceIsCovered : Type 0
PriceIsCovered = (near : ℕ) (price : Fraction) → 2 ≤ near → 1 ≤ price.den → price.num ≤ price.den
    → (low : ℕ) × (high : ℕ) × CoversPrice ⊤ near price low high

-- and each interval that covers a price is at most two units wide
abbrev pub PriceIsNarrow : Type 0
PriceIsNarrow = (network : List Variable) (H : List Entry) (most_trades : ℕ) (asked : Asked)
    (low high : ℕ)
    → CoversPrice (IsSmall network H) (sharpness most_trades) (exact_price network H asked) low high
    → high ≤ low + 2

-- what covers a price covers it less sharply too
abbrev pub PriceCoversMore : Type 0
PriceCoversMore = (network : List Variable) (H : List Entry) (near nearer : ℕ) (price : Fraction)
    (low high : ℕ) → 2 ≤ near → near ≤ nearer
    → CoversPrice (IsSmall network H) nearer price low high
    → CoversPrice (IsSmall network H) near price low high

-- a factor of at least one has its cash
abbrev pub CashExists : Type 0
CashExists = (q : Fraction) (b : ℕ) → IsSafeFactor q → (cash : ℕ) × IsCash q b cash

-- and an interval that covers it, however near it is to be
abbrev pub CashIsCovered : Type 0
CashIsCovered = (near : ℕ) (q : Fraction) (b : ℕ) → 2 ≤ near → IsSafeFactor q
    → (low : ℕ) × (high : ℕ) × CoversCash ⊤ ⊤ near q b low high

-- at up to a million points per bit each such interval is at most one point wide
abbrev pub CashIsNarrow : Type 0
CashIsNarrow = (network : List Variable) (H : List Entry) (most_trades u : ℕ) (q : Fraction)
    (b low high : ℕ) → b ≤ million
    → CoversCash (IsSmall network H) (HoldsNoTrade H u) (sharpness most_trades) q b low high
    → high ≤ low + 1

-- what covers cash covers it less sharply too
abbrev pub CashCoversMore : Type 0
CashCoversMore = (network : List Variable) (H : List Entry) (u near nearer : ℕ) (q : Fraction)
    (b low high : ℕ) → 2 ≤ near → near ≤ nearer
    → CoversCash (IsSmall network H) (HoldsNoTrade H u) nearer q b low high
    → CoversCash (IsSmall network H) (HoldsNoTrade H u) near q b low high

-- the cash of a factor of at most 2^m is at most m times the points per bit
abbrev pub CashIsBounded : Type 0
CashIsBounded = (q : Fraction) (b m cash : ℕ) → 1 ≤ q.den → q.num ≤ 2 ^ m * q.den → IsCash q b cash → cash ≤ m * b

-- some bits, none or more, are the most that a factor of at least one covers, however near they are
-- to be
abbrev pub MostExists : Type 0
MostExists = (near : ℕ) (q : Fraction) → 2 ≤ near → IsSafeFactor q → (k : ℕ) × IsMost ⊤ ⊤ near q k

-- what are the most bits are so less sharply too
abbrev pub MostCoversMore : Type 0
MostCoversMore = (network : List Variable) (H : List Entry) (u near nearer : ℕ)
    (q : Fraction) (k : ℕ)
    → 2 ≤ near → near ≤ nearer → IsMost (IsSmall network H) (HoldsNoTrade H u) nearer q k
    → IsMost (IsSmall network H) (HoldsNoTrade H u) near q k

-- what a factor covers is less than what it does not cover
abbrev pub CoveredIsLess : Type 0
CoveredIsLess = (q : Fraction) (k bits : ℕ) → Covers q k → ¬ Covers q bits → k < bits

-- a withdrawal is covered, or more than the most that is
abbrev pub WithdrawalIsJudged : Type 0
WithdrawalIsJudged = (near : ℕ) (q : Fraction) (bits : ℕ) → 2 ≤ near → IsSafeFactor q
    → Covers q bits ⊎ ((most : ℕ) × (most < bits) × IsMost ⊤ ⊤ near q most)

-- two sides have right limits, none or some
abbrev pub LimitsExist : Type 0
LimitsExist = (hit miss : Side) → IsPositivePrice hit.price → IsPositivePrice miss.price → (limits : Option (ℕ × ℕ)) × AreRight ⊤ hit miss limits

-- a share is inside of limits or not
abbrev pub InsideIsDecided : Type 0
InsideIsDecided = (limits : Option (ℕ × ℕ)) (X : ℕ) → Inside limits X ⊎ (¬ Inside limits X)

-- ---- markets

-- a fair and solvent pair for X
abbrev pub HasFairPair : List Variable → List Entry → ℕ → Asked → ℕ → Type 0
HasFairPair network H u asked X = (F_t : ℕ) × (F_n : ℕ) × IsFairPair network H u asked X F_t F_n

-- right limits judge each share: inside it can be traded, and else it is outside
abbrev pub LimitsJudge : Type 0
LimitsJudge = (network : List Variable) (H : List Entry) (u : ℕ) (asked : Asked) (limits : Option (ℕ × ℕ)) (X : ℕ)
    → AreRightLimits network H u asked limits → (Inside limits X × HasFairPair network H u asked X) ⊎ (¬ Inside limits X)

-- a price of at most one, none or more
pub record IsPortion (price : Fraction) : Type 0 where
  pub divides : 1 ≤ price.den
  pub at_most_one : price.num ≤ price.den

-- a question in order: its pairs are the network's, its condition gives no variable two values and its target's none, and no
-- resolution gives the target's variable a value
pub record IsInOrder (network : List Variable) (H : List Entry) (asked : Asked) : Type 0 where
  pub in_range : IsQuestionOf network asked
  pub apart : AreApart asked.condition
  pub target_apart : speaks_of asked.condition asked.target.variable ≡ false
  pub unresolved : speaks_of (resolutions H) asked.target.variable ≡ false

-- a question that can be asked: it is in order, and in some possible state its condition holds
pub record CanBeAsked (network : List Variable) (H : List Entry) (asked : Asked) : Type 0 where
  pub in_order : IsInOrder network H asked
  pub some_state : 1 ≤ length (possible_states network H (holds asked.condition))

-- a question whose price can move: its target may come where its condition holds, and may not
pub record CanMove (network : List Variable) (H : List Entry) (asked : Asked) : Type 0 where
  pub can_ask : CanBeAsked network H asked
  pub some_hit : 1 ≤ length (possible_states network H (with_target asked))
  pub some_miss : 1 ≤ length (possible_states network H (without_target asked))

-- some state stays possible
abbrev pub StateExists : Type 0
StateExists = (network : List Variable) (H : List Entry) → IsNetwork network → IsProper network H → 1 ≤ length (possible_states network H always)

-- an exact price of at most one, and an interval that covers it
pub record HasPrice (network : List Variable) (H : List Entry) (near : ℕ) (asked : Asked)
    : Type 0 where
  pub exact : IsPortion (exact_price network H asked)
  pub low : ℕ
  pub high : ℕ
  pub covers : CoversPrice (IsSmall network H) near (exact_price network H asked) low high

-- some interval covers the most that the operator can lose
pub record HasBound (network : List Variable) (H : List Entry) (b : ℕ) : Type 0 where
  pub least : ℕ
  pub is_least : least_weight network H ≡ Some least
  pub low : ℕ
  pub high : ℕ
  pub covers : CoversBound (initial_total network) least b low high

-- in a proper history there is one
abbrev pub BoundExists : Type 0
BoundExists = (network : List Variable) (H : List Entry) (b : ℕ) → IsNetwork network → IsProper network H → HasBound network H b

-- at up to a million points per bit it fits 63 bits
abbrev pub BoundFits : Type 0
BoundFits = (network : List Variable) (H : List Entry) (b least low high : ℕ) → IsNetwork network → b ≤ million → least_weight network H ≡ Some least
    → CoversBound (initial_total network) least b low high → high < number_limit

-- each question that can be asked has a price
abbrev pub PriceExists : Type 0
PriceExists = (network : List Variable) (H : List Entry) (near : ℕ) (asked : Asked) → 2 ≤ near
    → IsNetwork network → IsProper network H
    → CanBeAsked network H asked → HasPrice network H near asked

-- a user's least gain over the possible states, whose factor is at least one where the history is sound
pub record HasLeast (network : List Variable) (H : List Entry) (u : ℕ) : Type 0 where
  pub least : ℕ
  pub is_least : least_gain network H u always ≡ Some least
  pub safe : IsSound network H → IsSafeFactor (factor_with H u least)

-- in a proper history each user has one
abbrev pub LeastExists : Type 0
LeastExists = (network : List Variable) (H : List Entry) (u : ℕ)
    → IsNetwork network → IsProper network H → HasLeast network H u

-- a positive price of at most one, and where the history is sound a factor of at least one
pub record IsOpenSide (sound : Type 0) (side : Side) : Type 0 where
  pub price : IsPositivePrice side.price
  pub least : sound → IsSafeFactor side.least

-- the two sides of a question
pub record HasSides (network : List Variable) (H : List Entry) (u : ℕ) (asked : Asked) : Type 0 where
  pub hit : Side
  pub miss : Side
  pub sides : AreSides network H u asked hit miss
  pub hit_open : IsOpenSide (IsSound network H) hit
  pub miss_open : IsOpenSide (IsSound network H) miss

-- in a proper history each question whose price can move has both sides, for each user
abbrev pub SidesExist : Type 0
SidesExist = (network : List Variable) (H : List Entry) (u : ℕ) (asked : Asked)
    → IsNetwork network → IsProper network H
    → CanMove network H asked → HasSides network H u asked

-- and right limits
abbrev pub RightLimitsExist : Type 0
RightLimitsExist = (network : List Variable) (H : List Entry) (u : ℕ) (asked : Asked)
    → IsNetwork network → IsProper network H
    → CanMove network H asked → (limits : Option (ℕ × ℕ)) × AreRightLimits network H u asked limits

-- the one state that is possible; where the history is sound each user's factor in it is at least one
pub record HasOutcome (network : List Variable) (H : List Entry) : Type 0 where
  pub state : List ℕ
  pub one_state : possible_states network H always ≡ state ∷ []
  pub safe : IsSound network H → (u : ℕ) → IsSafeFactor (factor H u state)

-- in a proper history whose variables are all resolved one state is left
abbrev pub OutcomeExists : Type 0
OutcomeExists = (network : List Variable) (H : List Entry)
    → IsNetwork network → IsProper network H
    → ((v : ℕ) → v < length network → speaks_of (resolutions H) v ≡ true) → HasOutcome network H

-- a history of at most a million trades, their units below 2^63, and at most a million transfers,
-- with at most 1,000 bits in each deposit
pub record IsWithinBounds (H : List Entry) : Type 0 where
  pub few_trades : length (trades H) ≤ max_market_trades
  pub units_fit : AllByRecursion (λ (t : UserTrade). AllByRecursion (λ n. n < number_limit) t.ratio.factors) (trades H)
  pub few_transfers : count_by is_transfer H ≤ max_transfers
  pub few_bits : AllByRecursion (λ e. (u : ℕ) → bits_in u e ≤ max_transfer_bits) H

-- a change for which there is room: one more trade whose units fit, or one more transfer, a deposit of at most 1,000 bits
abbrev pub HasRoom : List Entry → Entry → Type 0
HasRoom H (Deposit u bits) = (count_by is_transfer H < max_transfers) × (bits ≤ max_transfer_bits)
HasRoom H (Withdraw u bits) = count_by is_transfer H < max_transfers
HasRoom H (Trade u r) = (length (trades H) < max_market_trades) × AllByRecursion (λ n. n < number_limit) r.factors
HasRoom H _ = ⊤

-- it keeps a history within the bounds
abbrev pub BoundsKept : Type 0
BoundsKept = (H : List Entry) (e : Entry) → IsWithinBounds H → HasRoom H e → IsWithinBounds (H ++ e ∷ [])

-- the units of a fair pair fit
abbrev pub FairPairFits : Type 0
FairPairFits = (network : List Variable) (H : List Entry) (u : ℕ) (asked : Asked) (X F_t F_n : ℕ) → IsFairPair network H u asked X F_t F_n
    → AllByRecursion (λ n. n < number_limit) (ratio_in network asked F_t F_n).factors

-- within the bounds the cash in any state fits 63 bits, at up to a million points per bit, and so does each interval that covers it
abbrev pub CashFits : Type 0
CashFits = (network : List Variable) (H : List Entry) (most_trades u : ℕ) (s : List ℕ)
    (b low high : ℕ) → IsWithinBounds H → b ≤ million
    → CoversCash (IsSmall network H) (HoldsNoTrade H u) (sharpness most_trades) (factor H u s)
    b low high
    → high < number_limit

-- as does the cash of a least gain
abbrev pub LeastCashFits : Type 0
LeastCashFits = (network : List Variable) (H : List Entry) (most_trades u : ℕ)
    (test : List ℕ → Bool) (least b low high : ℕ) → IsWithinBounds H → b ≤ million
    → least_gain network H u test ≡ Some least
    → CoversCash (IsSmall network H) (HoldsNoTrade H u) (sharpness most_trades)
    (factor_with H u least) b low high
    → high < number_limit
