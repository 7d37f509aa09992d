-- The accepted changes of a market, in order, and what is read off them.
use Rattle.std.specs.Prelude.{ℕ, List, Bool, true, false, ◌==◌, if◌then◌else◌, Option, Some, None, [], length, filter, flat_map, sum_by, slice_get}
use Rattle.std.specs.List.{filter_map, list_any}
use Rattle.mk_net.specs.declared.words.Pair.{Pair}
use Rattle.mk_net.specs.Network.{Variable}
use Rattle.mk_net.specs.Asked.{TradeRatio}

-- a question that was added: a variable behind all others, the variables of a clique that holds it with its parents, in rising
-- order, and the number of the clique to which that is linked
pub record Addition : Type 0 where
  pub variable : Variable
  pub clique : List ℕ
  pub link : ℕ

-- an accepted change; users are counted by their joining, from 0. A settlement has a payment for each user, in the order of
-- joining: the two ends of an interval, of which the low one is paid
pub data Entry : Type 0 where
  Join : (name : List ℕ) → Entry
  Deposit : (user bits : ℕ) → Entry
  Withdraw : (user bits : ℕ) → Entry
  Trade : (user : ℕ) (ratio : TradeRatio) → Entry
  Resolve : (pair : Pair) → Entry
  Settle : (payments : List (ℕ × ℕ)) → Entry
  Add : (addition : Addition) → Entry

-- one user's trade
pub record UserTrade : Type 0 where
  pub user : ℕ
  pub ratio : TradeRatio

abbrev pub join_in : Entry → Option (List ℕ)
join_in (Join name) = Some name
join_in _ = None

abbrev pub trade_in : Entry → Option UserTrade
trade_in (Trade user ratio) = Some (record { user = user; ratio = ratio })
trade_in _ = None

abbrev pub resolution_in : Entry → Option Pair
resolution_in (Resolve pair) = Some pair
resolution_in _ = None

abbrev pub addition_in : Entry → Option Addition
addition_in (Add addition) = Some addition
addition_in _ = None

abbrev pub is_settlement : Entry → Bool
is_settlement (Settle payments) = true
is_settlement _ = false

abbrev pub payments_in : Entry → List (ℕ × ℕ)
payments_in (Settle payments) = payments
payments_in _ = []

abbrev pub is_transfer : Entry → Bool
is_transfer (Deposit user bits) = true
is_transfer (Withdraw user bits) = true
is_transfer _ = false

-- the bits that an entry deposits for a user, and those that it withdraws
abbrev pub bits_in : ℕ → Entry → ℕ
bits_in u (Deposit user bits) = if user == u then bits else 0
bits_in u _ = 0

abbrev pub bits_out : ℕ → Entry → ℕ
bits_out u (Withdraw user bits) = if user == u then bits else 0
bits_out u _ = 0

-- the users in the order of joining
abbrev pub users : List Entry → List (List ℕ)
users H = filter_map join_in H

abbrev pub trades : List Entry → List UserTrade
trades H = filter_map trade_in H

abbrev pub trades_of : List Entry → ℕ → List UserTrade
trades_of H u = filter (λ (t : UserTrade). t.user == u) (trades H)

abbrev pub resolutions : List Entry → List Pair
resolutions H = filter_map resolution_in H

abbrev pub additions : List Entry → List Addition
additions H = filter_map addition_in H

abbrev pub is_settled : List Entry → Bool
is_settled H = list_any is_settlement H

-- the payments of the settlement; there are none before it
abbrev pub payments : List Entry → List (ℕ × ℕ)
payments H = flat_map payments_in H

abbrev pub or_nothing : Option (ℕ × ℕ) → ℕ × ℕ
or_nothing None = (0, 0)
or_nothing (Some payment) = payment

-- what the settlement pays a user, and nothing before it
abbrev pub payment_to : List Entry → ℕ → ℕ × ℕ
payment_to H u = or_nothing (slice_get (payments H) u)

abbrev pub deposited : List Entry → ℕ → ℕ
deposited H u = sum_by (bits_in u) H

abbrev pub withdrawn : List Entry → ℕ → ℕ
withdrawn H u = sum_by (bits_out u) H

-- the revision of a market is the number of its accepted changes
abbrev pub revision : List Entry → ℕ
revision H = length H
