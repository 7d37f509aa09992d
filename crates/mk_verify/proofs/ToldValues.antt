-- Judgements of replies that tell a number of each value of a variable.
use Rattle.std.proofs.Common.{◌≡◌, ℕ, List, Bool, ◌≤◌, Option, Some, None, IsSomeAnd, IfSome, refl}
use Rattle.std.specs.List.{All}
use Rattle.arrayvec.specs.ArrayVec.{ArrayVec}
use Rattle.mk_net.specs.declared.words.PairText.{PairText}
use Rattle.mk_net.specs.Asked.{Asked}
use Rattle.mk_net.specs.Network.{Variable}
use Rattle.mk_states.specs.Events.{with_target}
use Rattle.mk_spread.specs.Spreads.{SpreadAsked, asked_of}
use Rattle.mk_spread.specs.Told.{ArePricesOf, IsPositionOf}
use Rattle.mk_command.specs.declared.command.Command.TheVariants.{Prices, Position}
use Rattle.mk_reply.specs.declared.reply.Reply.{Reply}
use Rattle.mk_reply.specs.declared.reply.Reply.TheVariants.{Prices as PricesTold, Position as PositionTold}
use Rattle.mk_rules.specs.Refusals.{spread_named, user_number, first_refusal}
use Rattle.mk_rules.specs.Told.{ArePrices, IsPosition}
use Rattle.mk_judge.specs.declared.judged.Judged.TheVariants.{Wrong}
use Rattle.mk_judge.specs.declared.price.PriceBounds.{PriceBounds}
use Rattle.mk_judge.proofs.Judging.{judges_as}
use Rattle.mk_exact.specs.History.{Entry}
use Rattle.mk_exact.specs.Market.{Market}
use Rattle.mk_exact.specs.Sound.{IsSound}
use Rattle.mk_exact.specs.Weight.{IsSmall}
use Rattle.mk_exact.specs.Cash.{CoversCash}
use Rattle.mk_exact.specs.Factors.{HoldsNoTrade, factor_with, least_gain}
use Rattle.mk_enclose.specs.declared.factor.Factor.{Factor}
use Rattle.mk_spread.specs.Told.{CoversLeast}
use Rattle.mk_judge.specs.declared.judged.Judged.{Judged}
use Rattle.mk_judge.specs.Judged.{Judges}
use Rattle.mk_answers.specs.Evidence.{IsLeastFactorOf, IsFactorOf}
use Rattle.mk_evidence.specs.Grades.{evidence_grade}
use Rattle.mk_verify.specs.Clear.{IsPlaceOpen, IsPriceOpen, IsCashOpen, IsLeastCashOpen}
use Rattle.mk_judge_quotes.specs.Small.{TellsSmall}
use Rattle.mk_verify.specs.inner.Judging.{JudgesReply, AreBoundsOfPrices, AreSureFactorsOf}
use Rattle.mk_verify.proofs.Exactness.{JudgesCash, cash_judged}
use Rattle.mk_judge.specs.Powers.{HasCashRange}
use Rattle.mk_judge.specs.Prices.{HavePriceRange}
use Rattle.mk_net.specs.Bounds.{max_points_per_bit, sharpness}
use Rattle.mk_answers.specs.Evidence.{AreBoundsOfPrice, IsSureFactor}
use Rattle.mk_verify.proofs.Places.{each_ranged}
use Rattle.mk_verify.proofs.Verdicts.{judges_some, none_holds, judges_answer}

pub least_judged : (market : Market) (H : List Entry) (u : ℕ) (test : List ℕ → Bool)
    (factor : Factor) (small : Bool) (most_trades b low high : ℕ) (j : Judged)
    → TellsSmall small market H → IsSound market.network H
    → most_trades ≡ market.max_trades → b ≡ market.points_per_bit
    → IsLeastFactorOf (evidence_grade market H) market.network H u test factor
    → JudgesCash j factor small most_trades b low high
    → Judges j
    (CoversLeast market.network H market.max_trades u market.points_per_bit test (low, high))
    (IsLeastCashOpen market H u test (low, high))
least_judged market H u test factor small most_trades b low high j tells sound trades points
    evidence says =
    let network = market.network in
    judges_some (least_gain network H u test)
    (λ g. IsFactorOf (evidence_grade market H) network H u g factor)
    (λ g. CoversCash (IsSmall network H) (HoldsNoTrade H u) (sharpness market.max_trades)
    (factor_with H u g) market.points_per_bit low high)
    (λ g. IsCashOpen market H u (factor_with H u g) (low, high)) j evidence
    (λ g its. cash_judged market H u g factor small most_trades b low high j tells sound its trades
    points says)

-- ---- prices

same_prices : (told other : ArrayVec (ℕ × ℕ)) → PricesTold told ≡ PricesTold other → told ≡ other
same_prices told other e = cc

module _ (market : Market) (H : List Entry) (v : List ℕ) (condition : ArrayVec PairText)
    (none : first_refusal market H (Prices v condition) ≡ None) where
  pub prices_told : (bounds : List (Option PriceBounds)) (intervals : ArrayVec (ℕ × ℕ))
      (j : Judged) → IsSomeAnd (spread_named market.network v condition.items)
      (λ spread. AreBoundsOfPrices market H spread bounds)
      → ((spread : SpreadAsked) → AreBoundsOfPrices market H spread bounds
      → Judges j (ArePricesOf market.network H market.max_trades spread intervals.items)
      (IsPlaceOpen intervals.items (λ value ends. IsPriceOpen market H (asked_of spread value) ends)))
      → JudgesReply market H (Prices v condition) (PricesTold intervals) j
  prices_told bounds intervals j evidence judged =
      let network = market.network in
      judges_answer market H (Prices v condition) (PricesTold intervals) j none (λ quotes stands.
      judges_some (spread_named network v condition.items)
      (λ spread. AreBoundsOfPrices market H spread bounds)
      (λ spread. ArePrices network H market.max_trades spread (PricesTold intervals))
      (λ spread. IsPlaceOpen intervals.items
      (λ value ends. IsPriceOpen market H (asked_of spread value) ends)) j evidence
      (λ spread its. judges_as j (ArePricesOf network H market.max_trades spread intervals.items)
      _ _ _
      (λ covers. record { intervals = intervals; printed = refl; covers = covers }) (from spread)
      (λ o. o) (judged spread its)))
    where
      from : (spread : SpreadAsked)
          → ArePrices market.network H market.max_trades spread (PricesTold intervals)
          → ArePricesOf market.network H market.max_trades spread intervals.items
      from spread h =
          let covers = h.covers in
          rw (same_prices intervals h.intervals h.printed) covers

  pub no_prices : (reply : Reply)
      → ((intervals : ArrayVec (ℕ × ℕ)) → reply ≡ PricesTold intervals → ⊥)
      → JudgesReply market H (Prices v condition) reply Wrong
  no_prices reply other =
      judges_answer market H (Prices v condition) reply Wrong none (λ quotes stands.
      none_holds (spread_named market.network v condition.items)
      (λ spread. ArePrices market.network H market.max_trades spread reply)
      (λ spread h. other h.intervals h.printed))

-- ---- a position

same_position : (told other : ArrayVec (Option (ℕ × ℕ)))
    → PositionTold told ≡ PositionTold other → told ≡ other
same_position told other e = cc

module _ (market : Market) (H : List Entry) (name v : List ℕ) (condition : ArrayVec PairText)
    (none : first_refusal market H (Position name v condition) ≡ None) where
  abbrev its_number : ℕ
  its_number = user_number H name

  abbrev IsTold : SpreadAsked → Reply → Type 0
  IsTold spread reply =
      IsPosition market.network H market.max_trades its_number market.points_per_bit spread reply

  pub position_told : (factors : List (Option Factor)) (intervals : ArrayVec (Option (ℕ × ℕ)))
      (j : Judged)
      → IsSomeAnd (spread_named market.network v condition.items)
      (λ spread. AreSureFactorsOf market H its_number spread factors)
      → ((spread : SpreadAsked) → IsSound market.network H
      → AreSureFactorsOf market H its_number spread factors
      → Judges j
      (IsPositionOf market.network H market.max_trades its_number market.points_per_bit spread
      intervals.items) (IsPlaceOpen intervals.items (λ value ends. IsSomeAnd ends
      (IsLeastCashOpen market H its_number (with_target (asked_of spread value))))))
      → JudgesReply market H (Position name v condition) (PositionTold intervals) j
  position_told factors intervals j evidence judged =
      let network = market.network in
      judges_answer market H (Position name v condition) (PositionTold intervals) j none
      (λ quotes stands. judges_some (spread_named network v condition.items)
      (λ spread. AreSureFactorsOf market H its_number spread factors)
      (λ spread. IsTold spread (PositionTold intervals))
      (λ spread. IsPlaceOpen intervals.items (λ value ends. IsSomeAnd ends
      (IsLeastCashOpen market H its_number (with_target (asked_of spread value))))) j evidence
      (λ spread its. judges_as j
      (IsPositionOf network H market.max_trades its_number market.points_per_bit spread
      intervals.items) _ _ _
      (λ covers. record { intervals = intervals; printed = refl; covers = covers }) (from spread)
      (λ o. o) (judged spread stands.sound its)))
    where
      from : (spread : SpreadAsked) → IsTold spread (PositionTold intervals)
          → IsPositionOf market.network H market.max_trades its_number market.points_per_bit spread
          intervals.items
      from spread h =
          let covers = h.covers in
          rw (same_position intervals h.intervals h.printed) covers

  pub no_position : (reply : Reply)
      → ((intervals : ArrayVec (Option (ℕ × ℕ))) → reply ≡ PositionTold intervals → ⊥)
      → JudgesReply market H (Position name v condition) reply Wrong
  no_position reply other =
      judges_answer market H (Position name v condition) reply Wrong none (λ quotes stands.
      none_holds (spread_named market.network v condition.items) (λ spread. IsTold spread reply)
      (λ spread h. other h.intervals h.printed))

-- ---- ranges

some_price : (most : ℕ) (network : List Variable) (H : List Entry) (asked : Asked)
    (found : Option PriceBounds)
    → IsSomeAnd found (AreBoundsOfPrice most network H asked) → IfSome found HavePriceRange
some_price most network H asked None h = absurd h
some_price most network H asked (Some bounds) h = h.range

pub prices_in_range : (market : Market) (H : List Entry) (o : Option SpreadAsked)
    (bounds : List (Option PriceBounds)) → IsSomeAnd o (λ spread. AreBoundsOfPrices market H spread bounds)
    → All (λ found. IfSome found HavePriceRange) bounds
prices_in_range market H None bounds h = absurd h
prices_in_range market H (Some spread) bounds h =
    each_ranged (λ value price. IsSomeAnd price
    (AreBoundsOfPrice (evidence_grade market H) market.network H (asked_of spread value)))
    (λ found. IfSome found HavePriceRange) 0 _ bounds h
    (λ value found its. some_price (evidence_grade market H) market.network H
    (asked_of spread value) found its)

least_range : (most : ℕ) (network : List Variable) (H : List Entry) (u : ℕ) (o : Option ℕ)
    (factor : Factor) (b : ℕ)
    → b ≤ max_points_per_bit → IsSomeAnd o (λ g. IsFactorOf most network H u g factor)
    → HasCashRange factor b
least_range most network H u None factor b few h = absurd h
least_range most network H u (Some g) factor b few h = h.cash b few

pub worst_range : (market : Market) (H : List Entry) (u : ℕ) (test : List ℕ → Bool)
    (factor : Factor) (b : ℕ) → b ≤ max_points_per_bit
    → IsLeastFactorOf (evidence_grade market H) market.network H u test factor
    → HasCashRange factor b
worst_range market H u test factor b few h = least_range (evidence_grade market H)
    market.network H u
    (least_gain market.network H u test) factor b few h

some_sure : (market : Market) (H : List Entry) (u : ℕ) (test : List ℕ → Bool)
    (found : Option Factor) (b : ℕ) → b ≤ max_points_per_bit
    → IsSureFactor (evidence_grade market H) market.network H u test found
    → IfSome found (λ factor. HasCashRange factor b)
some_sure market H u test None b few h = tt
some_sure market H u test (Some factor) b few h = worst_range market H u test factor b few h

pub position_in_range : (market : Market) (H : List Entry) (u : ℕ) (o : Option SpreadAsked)
    (factors : List (Option Factor)) (b : ℕ) → b ≤ max_points_per_bit
    → IsSomeAnd o (λ spread. AreSureFactorsOf market H u spread factors)
    → All (λ found. IfSome found (λ factor. HasCashRange factor b)) factors
position_in_range market H u None factors b few h = absurd h
position_in_range market H u (Some spread) factors b few h =
    each_ranged (λ value factor. IsSureFactor (evidence_grade market H) market.network H u
    (with_target (asked_of spread value)) factor)
    (λ found. IfSome found (λ factor. HasCashRange factor b)) 0 _ factors h
    (λ value found its. some_sure market H u (with_target (asked_of spread value)) found b few its)
