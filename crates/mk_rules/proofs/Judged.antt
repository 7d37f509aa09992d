-- An edit under limits that were quoted is a trade exactly inside of them, and so is a spread under bounds that were.
use Rattle.std.proofs.Common.{◌≡◌, ℕ, inl, inr, List, Option, Some, None, MatchOption, sym, subst}
use Rattle.std.specs.Prelude.{◌↔◌}
use Rattle.arrayvec.specs.ArrayVec.{ArrayVec}
use Rattle.mk_net.specs.declared.words.PairText.{PairText}
use Rattle.mk_net.specs.declared.words.QuestionText.{QuestionText}
use Rattle.mk_net.specs.Network.{Variable}
use Rattle.mk_net.specs.Asked.{Asked}
use Rattle.mk_exact.specs.History.{Entry, revision}
use Rattle.mk_exact.specs.Limits.{Inside}
use Rattle.mk_exact.specs.Market.{Market}
use Rattle.mk_spread.specs.Spreads.{SpreadAsked}
use Rattle.mk_spread.specs.Bounds.{Intervals, InsideEach}
use Rattle.mk_command.specs.declared.command.Command.TheVariants.{Edit, Spread}
use Rattle.mk_reply.specs.declared.refusal.Refusal.{Refusal}
use Rattle.mk_reply.specs.declared.reply.Reply.{Reply}
use Rattle.mk_reply.specs.declared.reply.Reply.TheVariants.{Refused}
use Rattle.mk_rules.specs.Refusals.{question_named, spread_named, user_number, first_refusal}
use Rattle.mk_rules.specs.Quotes.{Interval, last_quote, current_limits, current_bounds}
use Rattle.mk_rules.specs.Answers.{IsJudged, IsSpreadJudged}
use Rattle.mk_rules.specs.Transcript.{Standing, OfCommand, IsAllowedFor}
use Rattle.mk_rules.specs.Laws.{IsTraded}
use Rattle.mk_rules.proofs.Options.{at_none, at_some, at_value}

pub traded_inside : (network : List Variable) (H : List Entry) (u : ℕ) (asked : Asked) (X : ℕ) (limits : Interval) (reply : Reply) → IsJudged network H u asked X limits reply
    → IsTraded reply ↔ Inside limits X
traded_inside network H u asked X limits reply (inl (inside, trade)) = (λ traded. inside, λ inside. subst IsTraded (sym trade.printed) tt)
traded_inside network H u asked X limits reply (inr beyond) = (λ traded. absurd (subst IsTraded beyond.printed traded), λ inside. absurd (beyond.outside inside))

pub judged_exactly : (market : Market) (now : Standing) (u : List ℕ) (q : QuestionText) (X : ℕ) (seen : Option ℕ) (asked : Asked)
    (limits : Interval) (reply : Reply) → first_refusal market now.history (Edit u q X seen) ≡ None
    → question_named market.network q ≡ Some asked
    → current_limits (last_quote now.quotes (user_number now.history u)) asked (revision now.history) ≡ Some limits
    → IsAllowedFor market now (OfCommand (Edit u q X seen)) reply → IsTraded reply ↔ Inside limits X
judged_exactly market now u q X seen asked limits reply none named current h =
    traded_inside market.network now.history (user_number now.history u) asked X limits reply
    (at_some _ _ (current_limits (last_quote now.quotes (user_number now.history u)) asked (revision now.history)) limits current
    (at_value _ (question_named market.network q) asked named (at_none (λ (why : Refusal). reply ≡ Refused why) (first_refusal market now.history (Edit u q X seen)) none h)))

pub spread_traded_inside : (network : List Variable) (H : List Entry) (u : ℕ) (spread : SpreadAsked) (Xs : List ℕ) (intervals : Intervals) (reply : Reply)
    → IsSpreadJudged network H u spread Xs intervals reply → IsTraded reply ↔ InsideEach intervals Xs
spread_traded_inside network H u spread Xs intervals reply (inl (inside, trade)) = (λ traded. inside, λ inside. subst IsTraded (sym trade.printed) tt)
spread_traded_inside network H u spread Xs intervals reply (inr refused) =
    (λ traded. absurd (subst IsTraded refused.printed traded), λ inside. absurd (refused.outside inside))

pub spread_judged_exactly : (market : Market) (now : Standing) (u v : List ℕ) (condition : ArrayVec PairText) (to : ArrayVec ℕ) (seen : Option ℕ) (spread : SpreadAsked)
    (intervals : Intervals) (reply : Reply) → first_refusal market now.history (Spread u v condition to seen) ≡ None
    → spread_named market.network v condition.items ≡ Some spread
    → current_bounds (last_quote now.quotes (user_number now.history u)) spread (revision now.history) ≡ Some intervals
    → IsAllowedFor market now (OfCommand (Spread u v condition to seen)) reply → IsTraded reply ↔ InsideEach intervals to.items
spread_judged_exactly market now u v condition to seen spread intervals reply none named current h =
    spread_traded_inside market.network now.history (user_number now.history u) spread to.items intervals reply
    (at_some _ _ (current_bounds (last_quote now.quotes (user_number now.history u)) spread (revision now.history)) intervals current
    (at_value _ (spread_named market.network v condition.items) spread named
    (at_none (λ (why : Refusal). reply ≡ Refused why) (first_refusal market now.history (Spread u v condition to seen)) none h)))

-- by what was quoted, or afresh where nothing was, two replies are both trades or neither is
pub alike : {X : Type 0} (Afresh : Reply → Type 0) (By : X → Reply → Type 0) (Admits : X → Type 0)
    → ((first second : Reply) → Afresh first → Afresh second → IsTraded first → IsTraded second)
    → ((x : X) (reply : Reply) → By x reply → IsTraded reply ↔ Admits x)
    → (o : Option X) (first second : Reply) → MatchOption o (Afresh first) (λ x. By x first)
    → MatchOption o (Afresh second) (λ x. By x second) → IsTraded first ↔ IsTraded second
alike Afresh By Admits afresh inside None first second a b =
    (afresh first second a b, afresh second first b a)
alike Afresh By Admits afresh inside (Some x) first second a b =
    let one = inside x first a in
    let other = inside x second b in
    (λ traded. other.1 (one.0 traded), λ traded. one.1 (other.0 traded))
