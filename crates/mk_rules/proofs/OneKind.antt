-- In the small case a fair and solvent pair has the exact floors, and so right limits hold its share: an edit has one kind of
-- allowed reply. So has a spread, since right bounds hold the shares of a fair and solvent list.
use Rattle.std.proofs.Common.{◌≡◌, ℕ, ◌-◌, ◌*◌, ◌/◌, ◌^◌, ◌<◌, ◌≤◌, inl, inr, List, Option, Some, None, IsSomeAnd, MatchOption, Bool, ◌∙◌, sym, subst, arith}
use Rattle.std.specs.Prelude.{◌↔◌}
use Rattle.std.proofs.Math.Nat.{div-eq_of_lt-le}
use Rattle.mk_net.specs.Bounds.{million}
use Rattle.arrayvec.specs.ArrayVec.{ArrayVec}
use Rattle.mk_net.specs.declared.words.PairText.{PairText}
use Rattle.mk_net.specs.declared.words.QuestionText.{QuestionText}
use Rattle.mk_net.specs.Network.{Variable}
use Rattle.mk_net.specs.Asked.{Asked}
use Rattle.mk_states.specs.Events.{with_target, without_target}
use Rattle.mk_states.specs.Ratios.{unit}
use Rattle.mk_exact.specs.History.{Entry, revision}
use Rattle.mk_exact.specs.Market.{Market}
use Rattle.mk_exact.specs.Weight.{IsSmall}
use Rattle.mk_exact.specs.Factors.{factor_with, least_gain}
use Rattle.mk_exact.specs.Prices.{price_where, IsSolvent}
use Rattle.mk_exact.specs.Limits.{Side, Inside, IsFairAndSolvent, IsFloorSolvent}
use Rattle.mk_exact.specs.Sides.{IsSide}
use Rattle.mk_spread.specs.Spreads.{SpreadAsked}
use Rattle.mk_spread.specs.Bounds.{Intervals, InsideEach}
use Rattle.mk_spread.specs.Markets.{SuitValues}
use Rattle.mk_spread.proofs.Agree.{fair_list_is_inside}
use Rattle.mk_command.specs.declared.command.Command.{Command}
use Rattle.mk_command.specs.declared.command.Command.TheVariants.{Edit, Spread}
use Rattle.mk_reply.specs.declared.refusal.Refusal.{Refusal}
use Rattle.mk_reply.specs.declared.reply.Reply.{Reply}
use Rattle.mk_reply.specs.declared.reply.Reply.TheVariants.{Refused}
use Rattle.mk_rules.specs.Refusals.{question_named, spread_named, user_number, least_share, refusals, first_refusal}
use Rattle.mk_rules.specs.Quotes.{Interval, last_quote, current_limits, current_bounds}
use Rattle.mk_rules.specs.Answers.{IsTrade, IsBeyond, IsBeyondRight, IsJudged, IsJudgedAfresh, IsSpreadTrade, IsOutside, IsOutsideRight, IsSpreadJudged, IsSpreadJudgedAfresh, IsAnswer}
use Rattle.mk_rules.specs.Transcript.{Standing, OfCommand, IsAllowedFor}
use Rattle.mk_rules.specs.Laws.{IsTraded}
use Rattle.mk_rules.proofs.Options.{value_of, at_none, at_some, at_value}
use Rattle.mk_rules.proofs.Unrefused.{none_applies, number_in_range}
use Rattle.mk_rules.proofs.Spreadable.{shares_suit}
use Rattle.mk_rules.proofs.Judged.{traded_inside, spread_traded_inside, alike}

-- a question has one side of each kind
pub one_side : (network : List Variable) (H : List Entry) (u : ℕ) (asked : Asked) (test : List ℕ → Bool) (a b : Side)
    → IsSide network H u asked test a → IsSide network H u asked test b → a ≡ b
one_side network H u asked test a b h k = at (least_gain network H u test) h k
  where
    side_of : ℕ → Side
    side_of g = record { price = price_where network H asked.condition test; least = factor_with H u g }

    at : (o : Option ℕ) → IsSomeAnd o (λ g. a ≡ side_of g) → IsSomeAnd o (λ g. b ≡ side_of g) → a ≡ b
    at None h k = absurd h
    at (Some g) h k = h ∙ sym k

-- in the small case fair units are the exact floor
floor_of : (small : Type 0) (side : Side) (X F : ℕ) → small → IsFairAndSolvent small side X F → X * unit * side.price.den / (10 ^ 6 * side.price.num) ≡ F
floor_of small side X F s h = div-eq_of_lt-le {k = F} (10 ^ 6 * side.price.num) (omega (arith, h.fair.not_above)) (omega (arith, h.fair.floor s))

floor_solvent : (small : Type 0) (side : Side) (X F : ℕ) → small → IsFairAndSolvent small side X F → IsFloorSolvent side X
floor_solvent small side X F s h = subst (λ (n : ℕ). (n < 2 ^ 63) × IsSolvent n side.least) (sym (floor_of small side X F s h)) (h.fair.fits, h.solvent)

not_both : (network : List Variable) (H : List Entry) (u : ℕ) (asked : Asked) (X : ℕ) (first second : Reply)
    → IsSmall network H → 1 ≤ X → X ≤ 999999 → IsTrade network H u asked X first → IsBeyondRight network H u asked X second → ⊥
not_both network H u asked X first second small least most trade refused =
    refused.beyond.outside ((refused.right.right.exact small X least most).1 (hit, miss))
  where
    hit : IsFloorSolvent refused.right.hit X
    hit = subst (λ (side : Side). IsFloorSolvent side X) (one_side network H u asked (with_target asked) _ _ trade.fair.sides.hit_side refused.right.sides.hit_side)
        (floor_solvent (IsSmall network H) trade.fair.hit X trade.hit small trade.fair.hit_units)

    miss : IsFloorSolvent refused.right.miss (10 ^ 6 - X)
    miss = subst (λ (side : Side). IsFloorSolvent side (10 ^ 6 - X)) (one_side network H u asked (without_target asked) _ _ trade.fair.sides.miss_side refused.right.sides.miss_side)
        (floor_solvent (IsSmall network H) trade.fair.miss (10 ^ 6 - X) trade.miss small trade.fair.miss_units)

not_traded : (limits : Interval) (X : ℕ) (reply : Reply) → IsBeyond limits X reply → IsTraded reply → ⊥
not_traded limits X reply beyond traded = subst IsTraded beyond.printed traded

module _ (network : List Variable) (H : List Entry) (u : ℕ) (asked : Asked) (X : ℕ) (small : IsSmall network H) (least : 1 ≤ X) (most : X ≤ 999999) where
  afresh : (first second : Reply) → IsJudgedAfresh network H u asked X first → IsJudgedAfresh network H u asked X second → IsTraded first → IsTraded second
  afresh first second a (inl trade) traded = subst IsTraded (sym trade.printed) tt
  afresh first second (inl trade) (inr beyond) traded = absurd (not_both network H u asked X first second small least most trade beyond)
  afresh first second (inr other) (inr beyond) traded = absurd (not_traded other.limits X first other.beyond traded)

  of_kind : (o : Option Interval) (first second : Reply)
      → MatchOption o (IsJudgedAfresh network H u asked X first) (λ limits. IsJudged network H u asked X limits first)
      → MatchOption o (IsJudgedAfresh network H u asked X second) (λ limits. IsJudged network H u asked X limits second) → IsTraded first ↔ IsTraded second
  of_kind = alike (IsJudgedAfresh network H u asked X) (IsJudged network H u asked X) (λ limits. Inside limits X) afresh (traded_inside network H u asked X)

pub one_kind : (market : Market) (now : Standing) (u : List ℕ) (q : QuestionText) (X : ℕ) (seen : Option ℕ) (first second : Reply)
    → IsSmall market.network now.history → first_refusal market now.history (Edit u q X seen) ≡ None
    → IsAllowedFor market now (OfCommand (Edit u q X seen)) first → IsAllowedFor market now (OfCommand (Edit u q X seen)) second
    → IsTraded first ↔ IsTraded second
one_kind market now u q X seen first second small none a b =
    let refused = none_applies (refusals market now.history (Edit u q X seen)) none in
    let share = number_in_range (million - 1) X refused.1.1.1.1.1.1.1.1.0 in
    let judged = value_of _ (question_named market.network q) (at_none (λ (why : Refusal). first ≡ Refused why) (first_refusal market now.history (Edit u q X seen)) none a) in
    of_kind market.network now.history (user_number now.history u) judged.0 X small share.0 share.1
    (current_limits (last_quote now.quotes (user_number now.history u)) judged.0 (revision now.history)) first second judged.2
    (at_value _ (question_named market.network q) judged.0 judged.1
    (at_none (λ (why : Refusal). second ≡ Refused why) (first_refusal market now.history (Edit u q X seen)) none b))

-- the shares of a spread that is a trade are inside of all right bounds
not_outside : (network : List Variable) (H : List Entry) (u : ℕ) (spread : SpreadAsked) (Xs : List ℕ) (first second : Reply)
    → IsSmall network H → SuitValues network H spread Xs → IsSpreadTrade network H u spread Xs first → IsOutsideRight network H u spread Xs second → ⊥
not_outside network H u spread Xs first second small suited trade refused =
    refused.outside.outside (fair_list_is_inside network H u spread refused.intervals Xs trade.factors.items small suited refused.right trade.fair)

not_spread : (intervals : Intervals) (Xs : List ℕ) (reply : Reply) → IsOutside intervals Xs reply → IsTraded reply → ⊥
not_spread intervals Xs reply outside traded = subst IsTraded outside.printed traded

module _ (network : List Variable) (H : List Entry) (u : ℕ) (spread : SpreadAsked) (Xs : List ℕ) (small : IsSmall network H)
    (suited : SuitValues network H spread Xs) where
  spread_afresh : (first second : Reply) → IsSpreadJudgedAfresh network H u spread Xs first → IsSpreadJudgedAfresh network H u spread Xs second → IsTraded first → IsTraded second
  spread_afresh first second a (inl trade) traded = subst IsTraded (sym trade.printed) tt
  spread_afresh first second (inl trade) (inr refused) traded = absurd (not_outside network H u spread Xs first second small suited trade refused)
  spread_afresh first second (inr other) (inr refused) traded = absurd (not_spread other.intervals Xs first other.outside traded)

  spread_of_kind : (o : Option Intervals) (first second : Reply)
      → MatchOption o (IsSpreadJudgedAfresh network H u spread Xs first) (λ intervals. IsSpreadJudged network H u spread Xs intervals first)
      → MatchOption o (IsSpreadJudgedAfresh network H u spread Xs second) (λ intervals. IsSpreadJudged network H u spread Xs intervals second) → IsTraded first ↔ IsTraded second
  spread_of_kind = alike (IsSpreadJudgedAfresh network H u spread Xs) (IsSpreadJudged network H u spread Xs) (λ intervals. InsideEach intervals Xs) spread_afresh
      (spread_traded_inside network H u spread Xs)

pub spread_one_kind : (market : Market) (now : Standing) (u v : List ℕ) (condition : ArrayVec PairText) (to : ArrayVec ℕ) (seen : Option ℕ) (first second : Reply)
    → IsSmall market.network now.history → first_refusal market now.history (Spread u v condition to seen) ≡ None
    → IsAllowedFor market now (OfCommand (Spread u v condition to seen)) first → IsAllowedFor market now (OfCommand (Spread u v condition to seen)) second
    → IsTraded first ↔ IsTraded second
spread_one_kind market now u v condition to seen first second small none a b =
    let refused = none_applies (refusals market now.history (Spread u v condition to seen)) none in
    let judged = value_of _ (spread_named market.network v condition.items)
    (at_none (λ (why : Refusal). first ≡ Refused why) (first_refusal market now.history (Spread u v condition to seen)) none a) in
    let behind = refused.1.1.1.1.1.1.1.1.1 in
    let suited = shares_suit market.network now.history v condition.items judged.0 (least_share market) to.items judged.1 behind.0 behind.1.0 behind.1.1.1.1.1.1.0 behind.1.1.1.1.1.1.1.0 in
    spread_of_kind market.network now.history (user_number now.history u) judged.0 to.items small suited
    (current_bounds (last_quote now.quotes (user_number now.history u)) judged.0 (revision now.history)) first second judged.2
    (at_value _ (spread_named market.network v condition.items) judged.0 judged.1
    (at_none (λ (why : Refusal). second ≡ Refused why) (first_refusal market now.history (Spread u v condition to seen)) none b))

pub one_refusal : (market : Market) (now : Standing) (command : Command) (why : Refusal) (reply : Reply) → first_refusal market now.history command ≡ Some why
    → IsAllowedFor market now (OfCommand command) reply ↔ (reply ≡ Refused why)
one_refusal market now command why reply e = (
  λ h. at_some (IsAnswer market now.history now.quotes command reply) (λ (w : Refusal). reply ≡ Refused w) (first_refusal market now.history command) why e h,
  λ h. subst (λ (o : Option Refusal). MatchOption o (IsAnswer market now.history now.quotes command reply) (λ w. reply ≡ Refused w)) (sym e) h,
)
