-- The entry that a reply appends.
use Rattle.std.proofs.Common.{◌≡◌, ℕ, inl, inr, List, Option, Some, None, IfSome, MatchOption, sym, subst}
use Rattle.arrayvec.specs.ArrayVec.{ArrayVec}
use Rattle.mk_net.specs.declared.words.PairText.{PairText}
use Rattle.mk_net.specs.declared.words.QuestionText.{QuestionText}
use Rattle.mk_net.specs.Asked.{Asked}
use Rattle.mk_exact.specs.History.{Entry}
use Rattle.mk_exact.specs.Market.{Market}
use Rattle.mk_spread.specs.Spreads.{SpreadAsked}
use Rattle.mk_spread.specs.Bounds.{Intervals}
use Rattle.mk_command.specs.declared.command.Command.{Command}
use Rattle.mk_command.specs.declared.command.Command.TheVariants.{User, Deposit, Withdraw, Price, Limits, Edit, Bounds, Spread, Worst, Resolve, Settle, Bound, Paid}
use Rattle.mk_command.specs.declared.command.Command.TheVariants.{Prices, Position, Status, Add}
use Rattle.mk_reply.specs.declared.refusal.Refusal.{Refusal}
use Rattle.mk_reply.specs.declared.reply.Reply.{Reply}
use Rattle.mk_reply.specs.declared.reply.Reply.TheVariants.{Refused}
use Rattle.mk_rules.specs.Refusals.{user_number}
use Rattle.mk_rules.specs.Quotes.{Interval}
use Rattle.mk_rules.specs.Answers.{IsTrade, IsJudged, IsJudgedAfresh, IsSpreadTrade, IsSpreadJudged, IsSpreadJudgedAfresh, entry_of}

-- the entry has a property, if there is one
abbrev pub Appends : (Entry → Type 0) → Market → List Entry → Command → Reply → Type 0
Appends P market H command reply = IfSome (entry_of market H command reply) P

-- a refusal appends none
pub refused_appends : (P : Entry → Type 0) (market : Market) (H : List Entry) (command : Command) (why : Refusal) → Appends P market H command (Refused why)
refused_appends P market H (User u) why = tt
refused_appends P market H (Deposit u bits) why = tt
refused_appends P market H (Withdraw u bits) why = tt
refused_appends P market H (Price q) why = tt
refused_appends P market H (Limits u q) why = tt
refused_appends P market H (Edit u q X seen) why = tt
refused_appends P market H (Bounds u v condition) why = tt
refused_appends P market H (Spread u v condition to seen) why = tt
refused_appends P market H (Worst u) why = tt
refused_appends P market H (Paid u) why = tt
refused_appends P market H (Resolve p) why = tt
refused_appends P market H Settle why = tt
refused_appends P market H Bound why = tt
refused_appends P market H (Prices v condition) why = tt
refused_appends P market H (Position u v condition) why = tt
refused_appends P market H Status why = tt
refused_appends P market H (Add add) why = tt

-- a reply that is known
pub reply_appends : (P : Entry → Type 0) (market : Market) (H : List Entry) (command : Command) (reply known : Reply) → reply ≡ known → Appends P market H command known
    → Appends P market H command reply
reply_appends P market H command reply known e h = subst (λ (r : Reply). Appends P market H command r) (sym e) h

-- an edit appends at most what a trade does
pub judged_appends : (P : Entry → Type 0) (market : Market) (H : List Entry) (u : List ℕ) (q : QuestionText) (X : ℕ) (seen : Option ℕ) (asked : Asked) (reply : Reply) (o : Option Interval)
    → (IsTrade market.network H (user_number H u) asked X reply → Appends P market H (Edit u q X seen) reply)
    → MatchOption o (IsJudgedAfresh market.network H (user_number H u) asked X reply) (λ limits. IsJudged market.network H (user_number H u) asked X limits reply)
    → Appends P market H (Edit u q X seen) reply
judged_appends P market H u q X seen asked reply None fits (inl trade) = fits trade
judged_appends P market H u q X seen asked reply None fits (inr beyond) = reply_appends P market H (Edit u q X seen) reply _ beyond.beyond.printed tt
judged_appends P market H u q X seen asked reply (Some limits) fits (inl trade) = fits trade.1
judged_appends P market H u q X seen asked reply (Some limits) fits (inr beyond) = reply_appends P market H (Edit u q X seen) reply _ beyond.printed tt

-- and so does a spread
pub spread_appends : (P : Entry → Type 0) (market : Market) (H : List Entry) (u v : List ℕ) (condition : ArrayVec PairText) (to : ArrayVec ℕ) (seen : Option ℕ) (spread : SpreadAsked) (reply : Reply)
    (o : Option Intervals) → (IsSpreadTrade market.network H (user_number H u) spread to.items reply → Appends P market H (Spread u v condition to seen) reply)
    → MatchOption o (IsSpreadJudgedAfresh market.network H (user_number H u) spread to.items reply)
    (λ intervals. IsSpreadJudged market.network H (user_number H u) spread to.items intervals reply) → Appends P market H (Spread u v condition to seen) reply
spread_appends P market H u v condition to seen spread reply None fits (inl trade) = fits trade
spread_appends P market H u v condition to seen spread reply None fits (inr outside) = reply_appends P market H (Spread u v condition to seen) reply _ outside.outside.printed tt
spread_appends P market H u v condition to seen spread reply (Some intervals) fits (inl trade) = fits trade.1
spread_appends P market H u v condition to seen spread reply (Some intervals) fits (inr outside) = reply_appends P market H (Spread u v condition to seen) reply _ outside.printed tt
