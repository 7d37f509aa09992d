-- The replies that a market allows to a command, the entry that a reply appends, and the quotes that it sets.
use Rattle.std.specs.Prelude.{◌≡◌, ℕ, ◌+◌, ◌<◌, List, [], ◌∷◌, ◌++◌, ◌≤◌, length, map, Option, Some, None, option_map, option_to_list, IsSomeAnd, MatchOption, slice_set, ◌⊎◌}
use Rattle.std.specs.List.{AllZip, enumerate_from}
use Rattle.mk_net.specs.declared.words.PairText.{PairText}
use Rattle.mk_net.specs.declared.words.QuestionText.{QuestionText}
use Rattle.mk_net.specs.Bounds.{max_payments, sharpness}
use Rattle.mk_net.specs.Network.{Variable}
use Rattle.mk_net.specs.Named.{pair_named}
use Rattle.mk_net.specs.Asked.{Asked}
use Rattle.mk_states.specs.InitialWeight.{initial_total}
use Rattle.mk_states.specs.Events.{always}
use Rattle.mk_exact.specs.History.{Entry, Join, Deposit as Deposits, Withdraw as Withdraws, Trade, Resolve as Resolves, Settle as Settles, Add as Adds, users, revision, payment_to}
use Rattle.mk_exact.specs.Weight.{IsSmall, possible_states}
use Rattle.mk_exact.specs.Factors.{Fraction, HoldsNoTrade, factor, factor_with, least_gain}
use Rattle.mk_exact.specs.ByRule.{payments_by_rule, paid_in_all}
use Rattle.mk_exact.specs.Prices.{CoversPrice, exact_price}
use Rattle.mk_exact.specs.Cash.{CoversCash}
use Rattle.mk_exact.specs.Risk.{least_weight, CoversBound}
use Rattle.mk_exact.specs.Limits.{Inside}
use Rattle.mk_exact.specs.Sides.{AreRightLimits, IsFairPair, ratio_in}
use Rattle.mk_exact.specs.Accepted.{Covers, IsMost}
use Rattle.mk_exact.specs.Market.{Market}
use Rattle.mk_spread.specs.Spreads.{SpreadAsked, spread_ratio}
use Rattle.mk_spread.specs.Bounds.{Intervals, InsideEach}
use Rattle.mk_spread.specs.Markets.{AreRightBoundsOf, IsFairList}
use Rattle.arrayvec.specs.ArrayVec.{ArrayVec}
use Rattle.mk_command.specs.declared.command.Command.{Command}
use Rattle.mk_command.specs.declared.command.Command.TheVariants.{User, Deposit, Withdraw, Price, Limits, Edit, Bounds, Spread, Worst, Resolve, Settle, Bound, Paid}
use Rattle.mk_command.specs.declared.command.Command.TheVariants.{Prices, Position, Status, Add}
use Rattle.mk_addition.specs.Adds.{IsAddText}
use Rattle.mk_reply.specs.declared.refusal.Refusal.TheVariants.{Beyond, Outside, Short, Memory}
use Rattle.mk_reply.specs.declared.payments.Payment.{Payment}
use Rattle.mk_reply.specs.declared.reply.Reply.{Reply}
use Rattle.mk_reply.specs.declared.reply.Reply.TheVariants.{Joined, Deposited, Withdrawn, Price as Priced, Limits as Limited, Traded, Bounded, Spreaded, Worst as Worsted, Resolved, Settled, SettledAll, Paid as PaidOut, Bound as Risked, Added, Refused}
use Rattle.mk_reply.specs.Refusals.{given_in}
use Rattle.mk_rules.specs.Told.{ArePrices, IsPosition, status_of}
use Rattle.mk_rules.specs.Refusals.{question_named, spread_named, user_number, first_refusal}
use Rattle.mk_rules.specs.Additions.{addition_of}
use Rattle.mk_rules.specs.Quotes.{Interval, Quoted, EditLimits, SpreadBounds, Quotes, last_quote, current_limits, current_bounds}

-- a trade with a fair and solvent pair
pub record IsTrade (network : List Variable) (H : List Entry) (u : ℕ) (asked : Asked) (X : ℕ) (reply : Reply) : Type 0 where
  pub hit : ℕ
  pub miss : ℕ
  pub printed : reply ≡ Traded hit miss (revision H + 1)
  pub fair : IsFairPair network H u asked X hit miss

-- limits that X is outside of
pub record IsBeyond (limits : Interval) (X : ℕ) (reply : Reply) : Type 0 where
  pub outside : ¬ Inside limits X
  pub printed : reply ≡ Refused (Beyond limits)

-- an edit that is judged by limits that were quoted: inside it is a trade, outside a refusal with these limits
abbrev pub IsJudged : List Variable → List Entry → ℕ → Asked → ℕ → Interval → Reply → Type 0
IsJudged network H u asked X limits reply = (Inside limits X × IsTrade network H u asked X reply) ⊎ IsBeyond limits X reply

-- right limits that X is outside of
pub record IsBeyondRight (network : List Variable) (H : List Entry) (u : ℕ) (asked : Asked) (X : ℕ) (reply : Reply) : Type 0 where
  pub limits : Interval
  pub right : AreRightLimits network H u asked limits
  pub beyond : IsBeyond limits X reply

-- an edit that is judged by limits made for this reply
abbrev pub IsJudgedAfresh : List Variable → List Entry → ℕ → Asked → ℕ → Reply → Type 0
IsJudgedAfresh network H u asked X reply = IsTrade network H u asked X reply ⊎ IsBeyondRight network H u asked X reply

-- a trade of a whole distribution, with a fair and solvent list
pub record IsSpreadTrade (network : List Variable) (H : List Entry) (u : ℕ) (spread : SpreadAsked) (Xs : List ℕ) (reply : Reply) : Type 0 where
  pub factors : ArrayVec ℕ
  pub printed : reply ≡ Spreaded factors (revision H + 1)
  pub fair : IsFairList network H u spread Xs factors.items

-- bounds that the shares are outside of
pub record IsOutside (intervals : Intervals) (Xs : List ℕ) (reply : Reply) : Type 0 where
  pub outside : ¬ InsideEach intervals Xs
  pub box : Option (ArrayVec (ℕ × ℕ))
  pub given : given_in box ≡ intervals
  pub printed : reply ≡ Refused (Outside box)

-- a spread that is judged by bounds that were quoted: inside it is a trade, outside a refusal with these bounds
abbrev pub IsSpreadJudged : List Variable → List Entry → ℕ → SpreadAsked → List ℕ → Intervals → Reply → Type 0
IsSpreadJudged network H u spread Xs intervals reply =
    (InsideEach intervals Xs × IsSpreadTrade network H u spread Xs reply) ⊎ IsOutside intervals Xs reply

-- right bounds that the shares are outside of
pub record IsOutsideRight (network : List Variable) (H : List Entry) (u : ℕ) (spread : SpreadAsked) (Xs : List ℕ) (reply : Reply) : Type 0 where
  pub intervals : Intervals
  pub right : AreRightBoundsOf network H u spread intervals
  pub outside : IsOutside intervals Xs reply

-- a spread that is judged by bounds made for this reply
abbrev pub IsSpreadJudgedAfresh : List Variable → List Entry → ℕ → SpreadAsked → List ℕ → Reply → Type 0
IsSpreadJudgedAfresh network H u spread Xs reply = IsSpreadTrade network H u spread Xs reply ⊎ IsOutsideRight network H u spread Xs reply

-- a withdrawal that is too much, with the bits that may be taken out
pub record IsShort (small idle : Type 0) (near : ℕ) (q : Fraction) (bits : ℕ) (reply : Reply)
    : Type 0 where
  pub most : ℕ
  pub less : most < bits
  pub is_most : IsMost small idle near q most
  pub printed : reply ≡ Refused (Short most)

-- a withdrawal that the factor covers, or one that is too much
abbrev pub IsWithdrawal : Type 0 → Type 0 → ℕ → Fraction → List ℕ → ℕ → ℕ → Reply → Type 0
IsWithdrawal small idle near q u bits at reply = (Covers q bits × (reply ≡ Withdrawn u bits at)) ⊎
    IsShort small idle near q bits reply

-- an interval that covers the exact price
pub record IsPrice (network : List Variable) (H : List Entry) (most_trades : ℕ) (asked : Asked)
    (reply : Reply) : Type 0 where
  pub low : ℕ
  pub high : ℕ
  pub printed : reply ≡ Priced low high
  pub covers : CoversPrice (IsSmall network H) (sharpness most_trades) (exact_price network H asked)
      low high

-- right limits
pub record IsLimits (network : List Variable) (H : List Entry) (u : ℕ) (asked : Asked) (reply : Reply) : Type 0 where
  pub limits : Interval
  pub printed : reply ≡ Limited limits (revision H)
  pub right : AreRightLimits network H u asked limits

-- right bounds
pub record IsBounds (network : List Variable) (H : List Entry) (u : ℕ) (spread : SpreadAsked) (reply : Reply) : Type 0 where
  pub box : Option (ArrayVec (ℕ × ℕ))
  pub printed : reply ≡ Bounded box (revision H)
  pub right : AreRightBoundsOf network H u spread (given_in box)

-- an interval that covers the cash of a factor
pub record IsWorst (small idle : Type 0) (near : ℕ) (q : Fraction) (points_per_bit : ℕ)
    (reply : Reply) : Type 0 where
  pub low : ℕ
  pub high : ℕ
  pub printed : reply ≡ Worsted low high
  pub covers : CoversCash small idle near q points_per_bit low high

-- a user's payment in the one possible state: the low end of an interval that covers the cash
pub record IsPayment (network : List Variable) (H : List Entry) (most_trades points_per_bit : ℕ)
    (s : List ℕ) (user : ℕ × List ℕ) (payment : Payment) : Type 0 where
  pub name : payment.user ≡ user.1
  pub covers : CoversCash (IsSmall network H) (HoldsNoTrade H (user.0)) (sharpness most_trades)
      (factor H (user.0) s) points_per_bit payment.low payment.high
  pub low_end : payment.paid ≡ payment.low

-- one payment for each user, in the order of joining
pub record IsSettlement (network : List Variable) (H : List Entry) (most_trades points_per_bit : ℕ)
    (reply : Reply) : Type 0 where
  pub state : List ℕ
  pub one_state : possible_states network H always ≡ state ∷ []
  pub payments : List Payment
  pub printed : reply ≡ Settled (revision H + 1) payments
  pub paid : AllZip (IsPayment network H most_trades points_per_bit state)
      (enumerate_from 0 (users H)) payments

-- a settlement that lists no payments: they are those by rule, and it tells how many users there are and what all are paid
abbrev pub settled_by_rule : Market → List Entry → Reply
settled_by_rule market H =
    SettledAll (revision H + 1) (length (users H)) (paid_in_all (payments_by_rule market.network H market.points_per_bit))

-- a settlement lists its payments, but for more users than it may list
pub record IsSettling (market : Market) (H : List Entry) (reply : Reply) : Type 0 where
  pub listed : length (users H) ≤ max_payments
      → IsSettlement market.network H market.max_trades market.points_per_bit reply
  pub summed : max_payments < length (users H) → reply ≡ settled_by_rule market H

-- the two ends of a payment that is told
abbrev pub ends_of : Payment → ℕ × ℕ
ends_of payment = (payment.low, payment.high)

-- a payment as it is told: the low end is paid
abbrev pub told_payment : List ℕ → ℕ × ℕ → Payment
told_payment u ends = record { user = u; low = ends.0; high = ends.1; paid = ends.0 }

-- an interval that covers the most that the operator can lose
pub record IsBound (network : List Variable) (H : List Entry) (points_per_bit : ℕ) (reply : Reply) : Type 0 where
  pub low : ℕ
  pub high : ℕ
  pub printed : reply ≡ Risked low high
  pub covers : IsSomeAnd (least_weight network H) (λ least. CoversBound (initial_total network) least points_per_bit low high)

-- the replies to a command that meets no refusal of the table, but perhaps `beyond`, `outside`, `short` or want of memory
abbrev pub IsAnswer : Market → List Entry → Quotes → Command → Reply → Type 0
IsAnswer market H quotes (User u) reply = (reply ≡ Joined u (revision H + 1)) ⊎ (reply ≡ Refused Memory)
IsAnswer market H quotes (Deposit u bits) reply = reply ≡ Deposited u bits (revision H + 1)
IsAnswer market H quotes (Withdraw u bits) reply =
    let network = market.network in
    let n = user_number H u in
    IsSomeAnd (least_gain network H n always)
    (λ g. IsWithdrawal (IsSmall network H) (HoldsNoTrade H n) (sharpness market.max_trades)
    (factor_with H n g) u bits (revision H + 1) reply)
IsAnswer market H quotes (Price q) reply =
    let network = market.network in
    IsSomeAnd (question_named network q) (λ asked. IsPrice network H market.max_trades asked reply)
IsAnswer market H quotes (Limits u q) reply =
    let network = market.network in
    IsSomeAnd (question_named network q) (λ asked. IsLimits network H (user_number H u) asked reply)
IsAnswer market H quotes (Edit u q X seen) reply =
    let network = market.network in
    let n = user_number H u in
    IsSomeAnd (question_named network q) (λ asked. MatchOption (current_limits (last_quote quotes n) asked (revision H))
    (IsJudgedAfresh network H n asked X reply) (λ limits. IsJudged network H n asked X limits reply))
IsAnswer market H quotes (Bounds u v condition) reply =
    let network = market.network in
    IsSomeAnd (spread_named network v condition.items) (λ spread. IsBounds network H (user_number H u) spread reply)
IsAnswer market H quotes (Spread u v condition to seen) reply =
    let network = market.network in
    let n = user_number H u in
    IsSomeAnd (spread_named network v condition.items) (λ spread. MatchOption (current_bounds (last_quote quotes n) spread (revision H))
    (IsSpreadJudgedAfresh network H n spread to.items reply) (λ intervals. IsSpreadJudged network H n spread to.items intervals reply))
IsAnswer market H quotes (Worst u) reply =
    let network = market.network in
    let n = user_number H u in
    IsSomeAnd (least_gain network H n always)
    (λ g. IsWorst (IsSmall network H) (HoldsNoTrade H n) (sharpness market.max_trades)
    (factor_with H n g) market.points_per_bit reply)
IsAnswer market H quotes (Resolve p) reply = reply ≡ Resolved p (revision H + 1)
IsAnswer market H quotes (Paid u) reply = reply ≡ PaidOut (told_payment u (payment_to H (user_number H u)))
IsAnswer market H quotes Settle reply = IsSettling market H reply
IsAnswer market H quotes Bound reply = IsBound market.network H market.points_per_bit reply
IsAnswer market H quotes (Prices v condition) reply =
    let network = market.network in
    IsSomeAnd (spread_named network v condition.items)
    (λ spread. ArePrices network H market.max_trades spread reply)
IsAnswer market H quotes (Position u v condition) reply =
    let network = market.network in
    IsSomeAnd (spread_named network v condition.items)
    (λ spread. IsPosition network H market.max_trades (user_number H u) market.points_per_bit spread
    reply)
IsAnswer market H quotes Status reply = reply ≡ status_of market H
IsAnswer market H quotes (Add add) reply =
    (IsAddText add × (reply ≡ Added add.variable (revision H + 1))) ⊎ (reply ≡ Refused Memory)

-- the refusal of the table that comes first is the one reply; else the command's answers
abbrev pub IsAllowed : Market → List Entry → Quotes → Command → Reply → Type 0
IsAllowed market H quotes command reply =
    MatchOption (first_refusal market H command) (IsAnswer market H quotes command reply) (λ why. reply ≡ Refused why)

-- the entry that a reply appends
abbrev pub entry_of : Market → List Entry → Command → Reply → Option Entry
entry_of market H (User u) (Joined _ _) = Some (Join u)
entry_of market H (Deposit u bits) (Deposited _ _ _) = Some (Deposits (user_number H u) bits)
entry_of market H (Withdraw u bits) (Withdrawn _ _ _) = Some (Withdraws (user_number H u) bits)
entry_of market H (Edit u q X seen) (Traded hit miss _) =
    let network = market.network in
    option_map (λ asked. Trade (user_number H u) (ratio_in network asked hit miss)) (question_named network q)
entry_of market H (Spread u v condition to seen) (Spreaded factors _) =
    option_map (λ spread. Trade (user_number H u) (spread_ratio spread factors.items)) (spread_named market.network v condition.items)
entry_of market H (Resolve p) (Resolved _ _) = option_map Resolves (pair_named market.network p)
entry_of market H Settle (Settled _ payments) = Some (Settles (map ends_of payments))
entry_of market H Settle (SettledAll _ _ _) = Some (Settles (payments_by_rule market.network H market.points_per_bit))
entry_of market H (Add add) (Added _ _) = Some (Adds (addition_of market.network add))
entry_of market H _ _ = None

abbrev pub next_history : Market → List Entry → Command → Reply → List Entry
next_history market H command reply = H ++ option_to_list (entry_of market H command reply)

-- the quotes once a user was quoted this at this revision
abbrev pub with_quote : List Entry → Quotes → List ℕ → Option Quoted → Quotes
with_quote H quotes u said = slice_set quotes (user_number H u) (option_map (λ says. record { says = says; at = revision H }) said)

-- the quotes once a user was quoted these limits of a question
abbrev pub with_limits : Market → List Entry → Quotes → List ℕ → QuestionText → Interval → Quotes
with_limits market H quotes u q limits = with_quote H quotes u (option_map (λ asked. EditLimits asked limits) (question_named market.network q))

-- the quotes once a user was quoted these bounds of a spread
abbrev pub with_bounds : Market → List Entry → Quotes → List ℕ → List ℕ → List PairText → Intervals → Quotes
with_bounds market H quotes u v pairs intervals =
    with_quote H quotes u (option_map (λ spread. SpreadBounds spread intervals) (spread_named market.network v pairs))

-- a new user has no quote, `limits`, `beyond`, `bounds` and `outside` set the user's, and nothing else changes one
abbrev pub next_quotes : Market → List Entry → Quotes → Command → Reply → Quotes
next_quotes market H quotes (User u) (Joined _ _) = quotes ++ None ∷ []
next_quotes market H quotes (Limits u q) (Limited limits _) = with_limits market H quotes u q limits
next_quotes market H quotes (Edit u q X seen) (Refused (Beyond limits)) = with_limits market H quotes u q limits
next_quotes market H quotes (Bounds u v condition) (Bounded box _) = with_bounds market H quotes u v condition.items (given_in box)
next_quotes market H quotes (Spread u v condition to seen) (Refused (Outside box)) = with_bounds market H quotes u v condition.items (given_in box)
next_quotes market H quotes _ _ = quotes
