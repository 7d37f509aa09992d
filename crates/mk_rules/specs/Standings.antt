-- What holds of a market and of its standing after every allowed run.
use Rattle.std.specs.Prelude.{◌≡◌, ℕ, ◌<◌, ◌≤◌, List, [], ◌∷◌, length, sum_by, true, false, IfSome}
use Rattle.std.specs.List.{AllByRecursion}
use Rattle.mk_net.specs.Bounds.{million, max_cells, max_market_trades, max_users, max_transfers}
use Rattle.mk_net.specs.Network.{IsNetwork, sizes, choices}
use Rattle.mk_net.specs.Zeros.{HasNoZeros}
use Rattle.mk_net.specs.Asked.{TradeRatio}
use Rattle.mk_states.specs.Events.{always}
use Rattle.mk_exact.specs.History.{Entry, UserTrade, users, trades, additions, revision, is_settled, payment_to}
use Rattle.mk_exact.specs.Weight.{possible_states}
use Rattle.mk_exact.specs.Factors.{factor}
use Rattle.mk_exact.specs.Cash.{IsCashBetween}
use Rattle.mk_exact.specs.Proper.{IsProper}
use Rattle.mk_exact.specs.Sound.{IsSound}
use Rattle.mk_exact.specs.Sides.{AreRightLimits}
use Rattle.mk_exact.specs.Market.{Market}
use Rattle.mk_rules.specs.Refusals.{variables_in, is_wide}
use Rattle.mk_spread.specs.Markets.{AreRightBoundsOf}
use Rattle.mk_rules.specs.Quotes.{Quoted, EditLimits, SpreadBounds, Quote, last_quote}
use Rattle.mk_rules.specs.Transcript.{Standing}

-- what a market file that is accepted gives: a network, cliques of its variables that have no more
-- cells than there may be, four numbers within their limits, and no share of nothing but where these
-- may occur
pub record IsMarket (market : Market) : Type 0 where
  pub network : IsNetwork market.network
  pub cliques_known : AllByRecursion (AllByRecursion (λ x. x < length market.network))
      market.cliques
  pub few_cells : sum_by (choices (sizes market.network)) market.cliques ≤ max_cells
  pub shares : market.zeros ≡ false → HasNoZeros market.network
  pub some_points : 1 ≤ market.points_per_bit
  pub few_points : market.points_per_bit ≤ million
  pub some_trades : 1 ≤ market.max_trades
  pub few_trades : market.max_trades ≤ max_market_trades
  pub some_users : 1 ≤ market.max_users
  pub few_users : market.max_users ≤ max_users
  pub some_transfers : 1 ≤ market.max_transfers
  pub few_transfers : market.max_transfers ≤ max_transfers

-- the variables that a ratio speaks of
abbrev pub variables_of : TradeRatio → List ℕ
variables_of ratio = ratio.variable ∷ variables_in ratio.condition

-- some clique holds the variables of a trade
abbrev pub IsInClique : List (List ℕ) → UserTrade → Type 0
IsInClique cliques t = is_wide cliques (variables_of t.ratio) ≡ false

-- what a settlement pays each user: the cash of the user's factor in the one possible state lies between the two ends
pub record ArePaidOff (market : Market) (H : List Entry) : Type 0 where
  pub state : List ℕ
  pub one_state : possible_states market.network H always ≡ state ∷ []
  pub each : (u : ℕ) → u < length (users H)
      → IsCashBetween (factor H u state) market.points_per_bit (payment_to H u).0 (payment_to H u).1

-- the market is one; nobody can be bankrupt and the operator's loss is bounded; users, pairs and units are in range; no trade is
-- wide; some question was not added; and once it is settled each user is paid off
pub record Stands (market : Market) (H : List Entry) : Type 0 where
  pub legal : IsMarket market
  pub sound : IsSound market.network H
  pub proper : IsProper market.network H
  pub none_wide : AllByRecursion (IsInClique market.cliques) (trades H)
  pub few_added : length (additions H) < length market.network
  pub paid_off : is_settled H ≡ true → ArePaidOff market H

-- what a quote of the present revision says to a user is right
abbrev pub IsRight : Market → List Entry → ℕ → Quoted → Type 0
IsRight market H u (EditLimits asked limits) = AreRightLimits market.network H u asked limits
IsRight market H u (SpreadBounds spread intervals) = AreRightBoundsOf market.network H u spread intervals

-- a quote was made at the present revision, and then it is right, or at an earlier one
pub record IsRightQuote (market : Market) (H : List Entry) (u : ℕ) (quote : Quote) : Type 0 where
  pub not_later : quote.at ≤ revision H
  pub right : quote.at ≡ revision H → IsRight market H u quote.says

-- a standing in which every line can be answered: its history stands, and each user has a place for a quote, and no wrong one
pub record IsReady (market : Market) (now : Standing) : Type 0 where
  pub stands : Stands market now.history
  pub one_place_each : length now.quotes ≡ length (users now.history)
  pub quotes_right : (u : ℕ) → IfSome (last_quote now.quotes u) (IsRightQuote market now.history u)
