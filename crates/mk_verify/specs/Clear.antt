-- Which replies an auditor may leave undecided: two numbers that a definition compares are near
-- each other, so that enclosures of
-- them need not show which is greater.
use Rattle.std.specs.Prelude.{◌≡◌, ℕ, ◌+◌, ◌-◌, ◌*◌, ◌^◌, ◌⊎◌, ◌∷◌, [], List, Some}
use Rattle.std.specs.Prelude.{None, IsSomeAnd, slice_get, Bool}
use Rattle.mk_net.specs.Bounds.{sharpness}
use Rattle.mk_net.specs.Asked.{Asked}
use Rattle.mk_states.specs.InitialWeight.{initial_total}
use Rattle.mk_states.specs.Events.{always, with_target}
use Rattle.mk_exact.specs.History.{Entry, revision}
use Rattle.mk_exact.specs.Weight.{IsSmall, possible_states}
use Rattle.mk_exact.specs.Factors.{Fraction, HoldsNoTrade, factor, factor_with, least_gain}
use Rattle.mk_exact.specs.Prices.{exact_price}
use Rattle.mk_exact.specs.Risk.{least_weight, nearness}
use Rattle.mk_exact.specs.Market.{Market}
use Rattle.mk_spread.specs.Spreads.{asked_of}
use Rattle.mk_command.specs.declared.command.Command.{Command}
use Rattle.mk_command.specs.declared.command.Command.TheVariants.{Withdraw, Price, Limits, Edit}
use Rattle.mk_command.specs.declared.command.Command.TheVariants.{Bounds, Spread, Worst, Settle}
use Rattle.mk_command.specs.declared.command.Command.TheVariants.{Bound}
use Rattle.mk_command.specs.declared.command.Command.TheVariants.{Prices, Position}
use Rattle.mk_reply.specs.declared.payments.Payment.{Payment}
use Rattle.mk_reply.specs.declared.refusal.Refusal.TheVariants.{Beyond, Outside, Short}
use Rattle.mk_reply.specs.declared.reply.Reply.{Reply}
use Rattle.mk_reply.specs.declared.reply.Reply.TheVariants.{Withdrawn, Price as Priced}
use Rattle.mk_reply.specs.declared.reply.Reply.TheVariants.{Limits as Limited, Traded, Bounded}
use Rattle.mk_reply.specs.declared.reply.Reply.TheVariants.{Spreaded, Worst as Worsted, Settled}
use Rattle.mk_reply.specs.declared.reply.Reply.TheVariants.{Bound as Risked, Refused}
use Rattle.mk_reply.specs.declared.reply.Reply.TheVariants.{Prices as PricesTold}
use Rattle.mk_reply.specs.declared.reply.Reply.TheVariants.{Position as PositionTold}
use Rattle.mk_reply.specs.Refusals.{given_in}
use Rattle.mk_rules.specs.Refusals.{question_named, spread_named, user_number}
use Rattle.mk_rules.specs.Quotes.{Quotes, last_quote, current_limits, current_bounds}
use Rattle.mk_judge.specs.Compared.{AreNear}
use Rattle.mk_judge_points.specs.Cash.{ArePowersNear}
use Rattle.mk_judge_points.specs.Losses.{quotient}
use Rattle.mk_judge.specs.Prices.{AreNearUnits}
use Rattle.mk_judge_quotes.specs.Clear.{near_steps, IsTradeOpen, AreLimitsOpen}
use Rattle.mk_judge_quotes.specs.Clear.{AreFactorsOpen, AreBoundsOpen}

-- ---- numbers

-- a price and its printed ends, outside of the small case
pub record IsPriceOpen (market : Market) (H : List Entry) (asked : Asked) (ends : ℕ × ℕ) : Type
    0 where
  pub large : ¬ IsSmall market.network H
  pub near : AreNearUnits (sharpness market.max_trades) (exact_price market.network H asked)
      (ends.0) (ends.1) (near_steps market H)

-- the cash of a factor and its printed ends; never of a user who holds no trade. Small histories
-- leave it open too, since the power of a factor is rounded
pub record IsCashOpen (market : Market) (H : List Entry) (u : ℕ) (q : Fraction) (ends : ℕ × ℕ) :
    Type 0 where
  pub traded : ¬ HoldsNoTrade H u
  pub near : ArePowersNear (sharpness market.max_trades) q market.points_per_bit (ends.0) (ends.1)
      (market.points_per_bit * near_steps market H)
      ⊎ IsSmall market.network H × ArePowersNear (2 ^ 59) q market.points_per_bit (ends.0)
      (ends.1) (market.points_per_bit * near_steps market H)

-- the least factor over the possible states that pass a test
abbrev pub IsLeastCashOpen : Market → List Entry → ℕ → (List ℕ → Bool) → ℕ × ℕ → Type 0
IsLeastCashOpen market H u test ends = IsSomeAnd (least_gain market.network H u test)
    (λ g. IsCashOpen market H u (factor_with H u g) ends)

-- the bits of a withdrawal, outside of the small case, of a user who holds some trade
pub record AreBitsOpen (market : Market) (H : List Entry) (u : ℕ) (q : Fraction) (bits : ℕ) : Type 0
  where
    pub large : ¬ IsSmall market.network H
    pub traded : ¬ HoldsNoTrade H u
    pub near : AreNear (2 ^ bits * q.den) q.num (near_steps market H)

-- the most bits that can be taken out, told to who asked for more
pub record IsMostOpen (market : Market) (H : List Entry) (u : ℕ) (q : Fraction) (most : ℕ) : Type 0
  where
    pub large : ¬ IsSmall market.network H
    pub traded : ¬ HoldsNoTrade H u
    pub near : AreNear (2 ^ most * q.den) q.num (near_steps market H)
        ⊎ AreNear (2 ^ (most + 1) * (2 * sharpness market.max_trades) * q.den)
        (q.num * (2 * sharpness market.max_trades - 1)) (near_steps market H)

-- ---- replies

-- one of a list's printed intervals
pub record IsPlaceOpen {T : Type 0} (intervals : List T) (unclear : ℕ → T → Type 0) : Type 0 where
  pub value : ℕ
  pub interval : T
  pub stands : slice_get intervals value ≡ Some interval
  pub is_open : unclear value interval

-- one of the payments
pub record IsPaymentOpen (market : Market) (H : List Entry) (payments : List Payment) : Type 0 where
  pub state : List ℕ
  pub one_state : possible_states market.network H always ≡ state ∷ []
  pub user : ℕ
  pub payment : Payment
  pub stands : slice_get payments user ≡ Some payment
  pub is_open : IsCashOpen market H user (factor H user state) (payment.low, payment.high)

-- the operator's bound
abbrev pub IsBoundOpen : Market → List Entry → ℕ × ℕ → Type 0
IsBoundOpen market H ends = IsSomeAnd (least_weight market.network H)
    (λ least. let total = initial_total market.network in
    ArePowersNear (nearness total) (quotient total least) market.points_per_bit (ends.0) (ends.1)
    (market.points_per_bit * near_steps market H))

-- what may be left undecided of a reply to a command: what the reply tells is near to what is
-- exact. All other replies are clear
abbrev pub IsOpen : Market → List Entry → Quotes → Command → Reply → Type 0
IsOpen market H quotes (Withdraw u bits) (Withdrawn user taken at) =
    let n = user_number H u in
    IsSomeAnd (least_gain market.network H n always)
    (λ g. AreBitsOpen market H n (factor_with H n g) bits)
IsOpen market H quotes (Withdraw u bits) (Refused (Short most)) =
    let n = user_number H u in
    IsSomeAnd (least_gain market.network H n always)
    (λ g. IsMostOpen market H n (factor_with H n g) most)
IsOpen market H quotes (Price q) (Priced low high) =
    IsSomeAnd (question_named market.network q)
    (λ asked. IsPriceOpen market H asked (low, high))
IsOpen market H quotes (Prices v condition) (PricesTold intervals) =
    IsSomeAnd (spread_named market.network v condition.items)
    (λ spread. IsPlaceOpen intervals.items
    (λ value ends. IsPriceOpen market H (asked_of spread value) ends))
IsOpen market H quotes (Worst u) (Worsted low high) =
    IsLeastCashOpen market H (user_number H u) always (low, high)
IsOpen market H quotes (Position u v condition) (PositionTold intervals) =
    IsSomeAnd (spread_named market.network v condition.items)
    (λ spread. IsPlaceOpen intervals.items
    (λ value told. IsSomeAnd told (IsLeastCashOpen market H (user_number H u)
    (with_target (asked_of spread value)))))
IsOpen market H quotes Settle (Settled at payments) = IsPaymentOpen market H payments
IsOpen market H quotes Bound (Risked low high) = IsBoundOpen market H (low, high)
IsOpen market H quotes (Edit u q X seen) (Traded hit miss at) =
    IsSomeAnd (question_named market.network q)
    (λ asked. IsTradeOpen market H (user_number H u) asked X hit miss)
IsOpen market H quotes (Limits u q) (Limited limits at) =
    IsSomeAnd (question_named market.network q)
    (λ asked. AreLimitsOpen market H (user_number H u) asked limits)
IsOpen market H quotes (Edit u q X seen) (Refused (Beyond limits)) =
    IsSomeAnd (question_named market.network q)
    (λ asked. (current_limits (last_quote quotes (user_number H u)) asked (revision H) ≡ None)
    × AreLimitsOpen market H (user_number H u) asked limits)
IsOpen market H quotes (Spread u v condition to seen) (Spreaded factors at) =
    IsSomeAnd (spread_named market.network v condition.items)
    (λ spread. AreFactorsOpen market H (user_number H u) spread to.items factors.items)
IsOpen market H quotes (Bounds u v condition) (Bounded box at) =
    IsSomeAnd (spread_named market.network v condition.items)
    (λ spread. AreBoundsOpen market H (user_number H u) spread (given_in box))
IsOpen market H quotes (Spread u v condition to seen) (Refused (Outside box)) =
    IsSomeAnd (spread_named market.network v condition.items)
    (λ spread. (current_bounds (last_quote quotes (user_number H u)) spread (revision H) ≡ None)
    × AreBoundsOpen market H (user_number H u) spread (given_in box))
IsOpen market H quotes _ _ = ⊥
