-- The laws of the exact market. Each is the contract of a function of this crate, and so proved.
use Rattle.std.specs.Prelude.{◌≡◌, ℕ, ◌+◌, ◌*◌, ◌^◌, ◌<◌, ◌≤◌, List, [], ◌∷◌, ◌++◌, map, length, slice_index, All, Some, sum, sum_by}
use Rattle.std.specs.List.{AllByRecursion}
use Rattle.mk_net.specs.declared.words.Pair.{Pair}
use Rattle.mk_net.specs.Bounds.{million}
use Rattle.mk_net.specs.Network.{Variable, sizes, IsNetwork}
use Rattle.mk_net.specs.Zeros.{HasNoZeros}
use Rattle.mk_net.specs.Events.{AreApart}
use Rattle.mk_net.specs.Asked.{Asked}
use Rattle.mk_states.specs.InitialWeight.{all_states, initial_weight, initial_total}
use Rattle.mk_states.specs.Events.{holds, with_target, always}
use Rattle.mk_states.specs.Ratios.{unit}
use Rattle.mk_exact.specs.History.{Entry, users, resolutions, deposited, withdrawn}
use Rattle.mk_states.specs.States.{states, numbers_below, product_by}
use Rattle.mk_exact.specs.Cash.{IsCash}
use Rattle.mk_exact.specs.Risk.{least_weight, CoversBound}
use Rattle.mk_states.specs.OfNetwork.{IsPairOf}
use Rattle.mk_exact.specs.Proper.{IsProper}
use Rattle.mk_exact.specs.Accepted.{IsAcceptable, IsInRange, IsSafeTrade}
use Rattle.mk_exact.specs.Weight.{total, weight, possible_states}
use Rattle.mk_exact.specs.Factors.{Fraction, factor, gain, trade_count, IsAtLeastOne}
use Rattle.mk_exact.specs.Prices.{exact_price}
use Rattle.mk_exact.specs.Sides.{ratio_in, traded, AreFair, AreSolvent, IsFairPair}
use Rattle.mk_exact.specs.Sound.{IsSound}

-- before any change the weight of a state is its initial weight
abbrev pub WeightsBegin : Type 0
WeightsBegin = (network : List Variable) (s : List ℕ) → weight network [] s ≡ initial_weight network s

-- a market that nobody has used is sound
abbrev pub BeginsSound : Type 0
BeginsSound = (network : List Variable) → IsSound network []

-- a question on the first variable, under no condition
abbrev pub first_is : ℕ → Asked
first_is value = record { target = record { variable = 0; value = value }; condition = [] }

-- in an unused market of one question, the shares of its row are the weights, and together a million
pub record OpensWithRow (v : Variable) (row : List ℕ) : Type 0 where
  pub weights : map (initial_weight (v ∷ [])) (states (sizes (v ∷ []))) ≡ row
  pub initial : initial_total (v ∷ []) ≡ million
  pub each : (value : ℕ) → total (v ∷ []) [] (with_target (first_is value)) ≡ slice_index row value
  pub all : total (v ∷ []) [] (holds []) ≡ million

abbrev pub SingleOpens : Type 0
SingleOpens = (v : Variable) (row : List ℕ) → IsNetwork (v ∷ []) → v.parents ≡ [] → v.rows ≡ row ∷ [] → OpensWithRow v row

-- a fair trade never raises the total weight per unit
abbrev pub TotalNeverRises : Type 0
TotalNeverRises = (network : List Variable) (H : List Entry) (u : ℕ) (asked : Asked) (X F_t F_n : ℕ) → IsPairOf network asked.target
    → AreFair network H asked X F_t F_n → total network (traded network H u asked F_t F_n) always ≤ total network H always * unit

-- a price within 2^-27 of X parts in a million
pub record IsNear (price : Fraction) (X : ℕ) : Type 0 where
  pub above : million * price.num * 2 ^ 27 < (X * 2 ^ 27 + million) * price.den
  pub below : X * price.den * 2 ^ 27 < million * (price.num * 2 ^ 27 + price.den)

-- a fair trade takes the exact price of its question to X parts in a million, to within 2^-27
abbrev pub PriceMoves : Type 0
PriceMoves = (network : List Variable) (H : List Entry) (u : ℕ) (asked : Asked) (X F_t F_n : ℕ) → IsPairOf network asked.target
    → AreFair network H asked X F_t F_n → IsNear (exact_price network (traded network H u asked F_t F_n) asked) X

-- a solvent trade leaves its user's factor at least one in each possible state
abbrev pub SolventStays : Type 0
SolventStays = (network : List Variable) (H : List Entry) (u : ℕ) (asked : Asked) (F_t F_n : ℕ) → IsPairOf network asked.target
    → AreSolvent network H u asked F_t F_n → All (λ s. IsAtLeastOne (factor H u s)) (possible_states network H always)
    → All (λ s. IsAtLeastOne (factor (traded network H u asked F_t F_n) u s)) (possible_states network (traded network H u asked F_t F_n) always)

-- a history with one change more
abbrev pub then_change : List Entry → Entry → List Entry
then_change H e = H ++ e ∷ []

-- beside one network, an acceptable change leads from a sound history to a sound one
abbrev pub SoundNext : Type 0
SoundNext = (network : List Variable) (H : List Entry) (e : Entry) → IsSound network H → IsAcceptable network H e → IsSound network (then_change H e)

-- and a change in range from a proper history to a proper one
abbrev pub ProperNext : Type 0
ProperNext = (network : List Variable) (H : List Entry) (e : Entry) → IsProper network H → IsInRange network H e → IsProper network (then_change H e)

-- a fair and solvent pair for X, as a quote's limits promise it, makes a safe trade
abbrev pub FairPairIsSafe : Type 0
FairPairIsSafe = (network : List Variable) (H : List Entry) (u : ℕ) (asked : Asked) (X F_t F_n : ℕ) → X ≤ million → IsPairOf network asked.target
    → IsFairPair network H u asked X F_t F_n → IsSafeTrade network H u (ratio_in network asked F_t F_n)

-- two pairs do not give one variable two values
abbrev pub AgreesWith : Pair → Pair → Type 0
AgreesWith p r = r.variable ≡ p.variable → r.value ≡ p.value

-- without zeros pairs that give no variable two values, and no resolved variable another value than its own, hold in some possible state
abbrev pub StateRemains : Type 0
StateRemains = (network : List Variable) (H : List Entry) (pairs : List Pair) → IsNetwork network → HasNoZeros network → IsProper network H
    → AllByRecursion (IsPairOf network) pairs → AreApart pairs → AllByRecursion (λ p. AllByRecursion (AgreesWith p) (resolutions H)) pairs
    → 1 ≤ length (possible_states network H (holds pairs))

-- what all users have gained together, in a possible state, is at most one over its initial probability
pub record GainsAreBounded (network : List Variable) (H : List Entry) (s : List ℕ) : Type 0 where
  pub bound : initial_weight network s * product_by (λ u. gain H u s) (numbers_below (length (users H)))
      ≤ initial_total network * product_by (λ u. unit ^ trade_count H u) (numbers_below (length (users H)))

abbrev pub GainsBounded : Type 0
GainsBounded = (network : List Variable) (H : List Entry) → IsSound network H → IsProper network H → All (GainsAreBounded network H) (possible_states network H always)

-- a payment of at most the cash of a factor
pub record IsWithinCash (q : Fraction) (b paid : ℕ) : Type 0 where
  pub cash : ℕ
  pub is_cash : IsCash q b cash
  pub at_most : paid ≤ cash

-- one payment for each user, of at most the cash of the user's factor in this state
pub record ArePayments (H : List Entry) (b : ℕ) (s : List ℕ) (paid : List ℕ) : Type 0 where
  pub one_each : length paid ≡ length (users H)
  pub within : (u : ℕ) → u < length (users H) → IsWithinCash (factor H u s) b (slice_index paid u)

-- in points and over all users: payments and withdrawals exceed deposits by at most b times the bits of the initial improbability
pub record LossIsBounded (network : List Variable) (H : List Entry) (b : ℕ) (s : List ℕ) (paid : List ℕ) : Type 0 where
  pub bound : 2 ^ (sum paid + b * sum_by (withdrawn H) (numbers_below (length (users H)))) * initial_weight network s ^ b
      ≤ 2 ^ (b * sum_by (deposited H) (numbers_below (length (users H)))) * initial_total network ^ b

-- whatever the outcome, a settlement costs the operator at most that
abbrev pub SettlementBounded : Type 0
SettlementBounded = (network : List Variable) (H : List Entry) (b : ℕ) → IsSound network H → IsProper network H
    → All (λ s. (paid : List ℕ) → ArePayments H b s paid → LossIsBounded network H b s paid) (possible_states network H always)

-- in a proper history no state's weight falls to nothing
abbrev pub WeightsPositive : Type 0
WeightsPositive = (network : List Variable) (H : List Entry) → IsNetwork network → IsProper network H → All (λ s. 1 ≤ weight network H s) (all_states network)

-- the initial weights of all states together are a million for each variable
abbrev pub InitialTotalIsMillions : Type 0
InitialTotalIsMillions = (network : List Variable) → IsNetwork network → initial_total network ≡ million ^ length network

-- in each state that is left, what is paid and withdrawn at last exceeds what is deposited by no more than a bound's high end
abbrev pub BoundHolds : Type 0
BoundHolds = (network : List Variable) (H later : List Entry) (b least low high : ℕ) (paid : List ℕ) → least_weight network H ≡ Some least
    → CoversBound (initial_total network) least b low high
    → All (λ s. LossIsBounded network later b s paid
    → sum paid + b * sum_by (withdrawn later) (numbers_below (length (users later)))
    ≤ b * sum_by (deposited later) (numbers_below (length (users later))) + high) (possible_states network H always)
