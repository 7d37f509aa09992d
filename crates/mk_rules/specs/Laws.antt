-- The laws of the market's rules. Each is the contract of a function of this crate, and so proved.
use Rattle.std.specs.Prelude.{◌≡◌, ℕ, ◌+◌, ◌*◌, ◌≤◌, sum, sum_by, List, [], ◌∷◌, ◌++◌, length, map, All, Option, Some, None, ⊤, ◌↔◌}
use Rattle.std.specs.List.{AllByRecursion}
use Rattle.arrayvec.specs.ArrayVec.{ArrayVec}
use Rattle.mk_net.specs.declared.words.PairText.{PairText}
use Rattle.mk_net.specs.declared.words.QuestionText.{QuestionText}
use Rattle.mk_net.specs.Asked.{Asked}
use Rattle.mk_states.specs.Events.{always}
use Rattle.mk_states.specs.States.{numbers_below}
use Rattle.mk_exact.specs.History.{Entry, users, additions, revision, deposited, withdrawn}
use Rattle.mk_exact.specs.Weight.{possible_states, IsSmall}
use Rattle.mk_exact.specs.Market.{Market, present}
use Rattle.mk_exact.specs.Limits.{Inside}
use Rattle.mk_spread.specs.Spreads.{SpreadAsked}
use Rattle.mk_spread.specs.Bounds.{Intervals, InsideEach}
use Rattle.mk_exact.specs.Laws.{GainsAreBounded, LossIsBounded}
use Rattle.mk_command.specs.declared.command.Command.{Command}
use Rattle.mk_command.specs.declared.command.Command.TheVariants.{Edit, Spread, Settle, Bound}
use Rattle.mk_reply.specs.Replies.{IsReply}
use Rattle.mk_reply.specs.declared.refusal.Refusal.{Refusal}
use Rattle.mk_reply.specs.declared.payments.Payment.{Payment}
use Rattle.mk_reply.specs.declared.reply.Reply.{Reply}
use Rattle.mk_reply.specs.declared.reply.Reply.TheVariants.{Traded, Spreaded, Settled, SettledAll, Bound as Risked, Refused}
use Rattle.mk_rules.specs.Refusals.{question_named, spread_named, user_number, first_refusal}
use Rattle.mk_rules.specs.Quotes.{Interval, no_quotes, last_quote, current_limits, current_bounds}
use Rattle.mk_rules.specs.Transcript.{Standing, opening, Line, OfCommand, IsAllowedFor, after, market_after, Run}
use Rattle.mk_rules.specs.Standings.{IsMarket, Stands, IsReady}
use Rattle.mk_rules.specs.Bounded.{IsLine, JoinsByName, IsBounded}

-- an allowed reply to any line leads from a history that stands to one that does
abbrev pub AllowedKeeps : Type 0
AllowedKeeps = (market : Market) (now : Standing) (line : Line) (reply : Reply)
    → Stands market now.history → IsAllowedFor market now line reply
    → Stands (market_after market now line reply) (after market now line reply).history

-- and so does each run
abbrev pub RunKeeps : Type 0
RunKeeps = (market : Market) (old new : Standing) (lines : List Line) (replies : List Reply)
    → Stands (present market old.history) old.history → Run market old lines replies new
    → Stands (present market new.history) new.history

-- the history after each run from the opening stands
abbrev pub RunStands : Type 0
RunStands = (market : Market) (new : Standing) (lines : List Line) (replies : List Reply)
    → IsMarket market → Run market opening lines replies new → Stands (present market new.history) new.history

-- a history that stands is ready where its users were quoted nothing, as after a restart and at the opening
abbrev pub UnquotedIsReady : Type 0
UnquotedIsReady = (market : Market) (H : List Entry) → Stands market H → IsReady market (record { history = H; quotes = no_quotes H })

-- an allowed reply to any line leads from a ready standing to a ready one
abbrev pub ReadyKeeps : Type 0
ReadyKeeps = (market : Market) (now : Standing) (line : Line) (reply : Reply)
    → IsReady market now → IsAllowedFor market now line reply
    → IsReady (market_after market now line reply) (after market now line reply)

-- and so does each run
abbrev pub RunKeepsReady : Type 0
RunKeepsReady = (market : Market) (old new : Standing) (lines : List Line) (replies : List Reply)
    → IsReady (present market old.history) old → Run market old lines replies new
    → IsReady (present market new.history) new

-- the standing after each run from the opening is ready
abbrev pub RunIsReady : Type 0
RunIsReady = (market : Market) (new : Standing) (lines : List Line) (replies : List Reply)
    → IsMarket market → Run market opening lines replies new → IsReady (present market new.history) new

-- a line has an allowed reply
abbrev pub HasReply : Market → Standing → Line → Type 0
HasReply market now line = (reply : Reply) × IsAllowedFor market now line reply

-- and so it has in each ready standing
abbrev pub AlwaysAnswered : Type 0
AlwaysAnswered = (market : Market) (now : Standing) (line : Line) → IsMarket market → IsReady market now → HasReply market now line

-- some lines can be answered in turn
pub record HasRun (market : Market) (old : Standing) (lines : List Line) : Type 0 where
  pub replies : List Reply
  pub new : Standing
  pub run : Run market old lines replies new

-- and so can any
abbrev pub RunsExist : Type 0
RunsExist = (market : Market) (lines : List Line) (old : Standing)
    → IsReady (present market old.history) old → HasRun market old lines

-- some state stays possible
abbrev pub StateStaysPossible : Type 0
StateStaysPossible = (market : Market) (H : List Entry) → IsMarket market → Stands market H → 1 ≤ length (possible_states market.network H always)

-- an allowed reply to a line that is a text leads from a bounded history to a bounded one
abbrev pub BoundedKeeps : Type 0
BoundedKeeps = (market : Market) (now : Standing) (line : Line) (reply : Reply) → IsMarket market → IsLine line
    → IsBounded market now.history → IsAllowedFor market now line reply → IsBounded market (after market now line reply).history

-- and so does one to any line by which nobody joins but by a name
abbrev pub NamesKeepBounds : Type 0
NamesKeepBounds = (market : Market) (now : Standing) (line : Line) (reply : Reply) → IsMarket market → JoinsByName line
    → IsBounded market now.history → IsAllowedFor market now line reply → IsBounded market (after market now line reply).history

-- the history after each run from the opening is bounded
abbrev pub RunStaysBounded : Type 0
RunStaysBounded = (market : Market) (new : Standing) (lines : List Line) (replies : List Reply) → IsMarket market → AllByRecursion IsLine lines
    → Run market opening lines replies new → IsBounded market new.history

-- there, an allowed reply to a line that is a text has a text
abbrev pub RepliesHaveTexts : Type 0
RepliesHaveTexts = (market : Market) (now : Standing) (line : Line) (reply : Reply) → IsMarket market → IsReady market now
    → IsBounded market now.history → IsLine line → IsAllowedFor market now line reply → IsReply reply

-- a run goes on where another ended
abbrev pub RunsJoin : Type 0
RunsJoin = (market : Market) (old middle new : Standing) (first second : List Line) (replies more : List Reply)
    → Run market old first replies middle → Run market middle second more new → Run market old (first ++ second) (replies ++ more) new

-- and in each possible state after it, what all users have gained is at most one over its initial probability
abbrev pub RunIsBounded : Type 0
RunIsBounded = (market : Market) (new : Standing) (lines : List Line) (replies : List Reply)
    → IsMarket market → Run market opening lines replies new
    → All (GainsAreBounded (present market new.history).network new.history)
    (possible_states (present market new.history).network new.history always)

-- what is paid at a settlement
abbrev pub paid_by : List Payment → List ℕ
paid_by payments = map (λ (p : Payment). p.paid) payments

-- in the one possible state what is paid costs the operator at most the bound
pub record CostsAtMost (market : Market) (H : List Entry) (paid : List ℕ) : Type 0 where
  pub state : List ℕ
  pub one_state : possible_states market.network H always ≡ state ∷ []
  pub bounded : LossIsBounded market.network H market.points_per_bit state paid

-- what a reply pays costs the operator at most the bound, by the history that a run leaves; only a settlement pays
abbrev pub PaysWithin : Market → List Entry → Reply → Type 0
PaysWithin market H (Settled at payments) = CostsAtMost market H (paid_by payments)
PaysWithin market H (SettledAll at users total) = CostsAtMost market H (total ∷ [])
PaysWithin market H _ = ⊤

-- an allowed settlement does
abbrev pub SettlementKeeps : Type 0
SettlementKeeps = (market : Market) (now : Standing) (line : Line) (reply : Reply) → Stands market now.history
    → IsAllowedFor market now line reply → PaysWithin market now.history reply

-- in each run from the opening, so do the payments of each settlement
abbrev pub RunSettles : Type 0
RunSettles = (market : Market) (new : Standing) (lines : List Line) (replies : List Reply)
    → IsMarket market → Run market opening lines replies new
    → All (PaysWithin (present market new.history) new.history) replies

-- the reply to an edit or a spread is a trade
abbrev pub IsTraded : Reply → Type 0
IsTraded (Traded hit miss at) = ⊤
IsTraded (Spreaded factors at) = ⊤
IsTraded _ = ⊥

-- an edit that no refusal of the table meets, and whose user was quoted limits for it at this revision, is a trade exactly where its
-- share is inside them
abbrev pub JudgedExactly : Type 0
JudgedExactly = (market : Market) (now : Standing) (u : List ℕ) (q : QuestionText) (X : ℕ) (seen : Option ℕ) (asked : Asked)
    (limits : Interval) (reply : Reply) → first_refusal market now.history (Edit u q X seen) ≡ None
    → question_named market.network q ≡ Some asked
    → current_limits (last_quote now.quotes (user_number now.history u)) asked (revision now.history) ≡ Some limits
    → IsAllowedFor market now (OfCommand (Edit u q X seen)) reply → IsTraded reply ↔ Inside limits X

-- and so is a spread whose user was quoted bounds for it
abbrev pub SpreadJudgedExactly : Type 0
SpreadJudgedExactly = (market : Market) (now : Standing) (u v : List ℕ) (condition : ArrayVec PairText) (to : ArrayVec ℕ) (seen : Option ℕ) (spread : SpreadAsked)
    (intervals : Intervals) (reply : Reply) → first_refusal market now.history (Spread u v condition to seen) ≡ None
    → spread_named market.network v condition.items ≡ Some spread
    → current_bounds (last_quote now.quotes (user_number now.history u)) spread (revision now.history) ≡ Some intervals
    → IsAllowedFor market now (OfCommand (Spread u v condition to seen)) reply → IsTraded reply ↔ InsideEach intervals to.items

-- a refusal of the table is the one allowed reply
abbrev pub OneRefusal : Type 0
OneRefusal = (market : Market) (now : Standing) (command : Command) (why : Refusal) (reply : Reply) → first_refusal market now.history command ≡ Some why
    → IsAllowedFor market now (OfCommand command) reply ↔ (reply ≡ Refused why)

-- in the small case the allowed replies to an edit that no refusal of the table meets are all trades or none is
abbrev pub OneKind : Type 0
OneKind = (market : Market) (now : Standing) (u : List ℕ) (q : QuestionText) (X : ℕ) (seen : Option ℕ) (first second : Reply)
    → IsSmall market.network now.history → first_refusal market now.history (Edit u q X seen) ≡ None
    → IsAllowedFor market now (OfCommand (Edit u q X seen)) first → IsAllowedFor market now (OfCommand (Edit u q X seen)) second
    → IsTraded first ↔ IsTraded second

-- and so are those to a spread
abbrev pub SpreadOneKind : Type 0
SpreadOneKind = (market : Market) (now : Standing) (u v : List ℕ) (condition : ArrayVec PairText) (to : ArrayVec ℕ) (seen : Option ℕ) (first second : Reply)
    → IsSmall market.network now.history → first_refusal market now.history (Spread u v condition to seen) ≡ None
    → IsAllowedFor market now (OfCommand (Spread u v condition to seen)) first → IsAllowedFor market now (OfCommand (Spread u v condition to seen)) second
    → IsTraded first ↔ IsTraded second

-- what is paid at a settlement and all withdrawals cost beyond all deposits, in points, is at most so much
pub record CostsNoMoreThan (market : Market) (H : List Entry) (paid : List ℕ) (most : ℕ) : Type 0 where
  pub bound : sum paid + market.points_per_bit * sum_by (withdrawn H) (numbers_below (length (users H)))
      ≤ market.points_per_bit * sum_by (deposited H) (numbers_below (length (users H))) + most

-- so does what a reply pays
abbrev pub PaysNoMoreThan : Market → List Entry → ℕ → Reply → Type 0
PaysNoMoreThan market H most (Settled at payments) = CostsNoMoreThan market H (paid_by payments) most
PaysNoMoreThan market H most (SettledAll at users total) = CostsNoMoreThan market H (total ∷ []) most
PaysNoMoreThan market H most _ = ⊤

-- whatever comes behind an allowed reply to `bound`, but for added questions, an allowed settlement costs no more than the
-- reply's high end
abbrev pub BoundIsKept : Type 0
BoundIsKept = (market : Market) (middle new : Standing) (first second : List Line) (replies more : List Reply) (low high : ℕ) (reply : Reply)
    → IsMarket market → Run market opening first replies middle
    → IsAllowedFor (present market middle.history) middle (OfCommand Bound) (Risked low high)
    → Run market middle second more new → additions new.history ≡ additions middle.history
    → IsAllowedFor (present market new.history) new (OfCommand Settle) reply
    → PaysNoMoreThan market new.history high reply
