-- The laws of what is taken back. Each is the contract of a function of this crate, and so proved.
use Rattle.std.specs.Prelude.{◌≡◌, ◌≢◌, ℕ, ◌+◌, ◌<◌, ◌≤◌, List, [], ◌∷◌, ◌++◌, length, All, Some}
use Rattle.std.specs.List.{AllByRecursion}
use Rattle.mk_names.specs.declared.limits.TheConstants.{MAX_RECORD_BYTES}
use Rattle.mk_exact.specs.History.{Entry, trades, additions, revision}
use Rattle.mk_exact.specs.Market.{Market, present}
use Rattle.mk_exact.specs.Proper.{IsProper}
use Rattle.mk_command.specs.declared.command.Command.{Command}
use Rattle.mk_command.specs.Commands.{IsCommand, command_text}
use Rattle.mk_reply.specs.declared.reply.Reply.{Reply}
use Rattle.mk_reply.specs.Replies.{reply_text}
use Rattle.mk_rules.specs.Quotes.{Quotes, no_quotes}
use Rattle.mk_rules.specs.Answers.{IsAllowed, entry_of, next_history, next_quotes}
use Rattle.mk_rules.specs.Standings.{IsMarket, IsInClique, Stands}
use Rattle.mk_rules.specs.Bounded.{IsBounded}
use Rattle.mk_rules.specs.Transcript.{Standing, Line, with_entries, Run}
use Rattle.mk_restore.specs.Restoring.{IsFit, Changes, Restores, changes_of, IsChange, IsRecord}

-- an allowed reply that appends an entry is taken back
abbrev pub AllowedFits : Type 0
AllowedFits =
    (market : Market) (H : List Entry) (quotes : Quotes) (command : Command) (reply : Reply)
    (e : Entry)
    → IsAllowed market H quotes command reply → entry_of market H command reply ≡ Some e
    → IsFit market H command reply

-- the changes of a run give its history back
abbrev pub RunIsRestored : Type 0
RunIsRestored = (market : Market) (old new : Standing) (lines : List Line) (replies : List Reply)
    → Run market old lines replies new
    → Restores market old.history (changes_of market old lines replies) new.history

-- each front of them gives back a history that stands, as each that an honest store is left with
abbrev pub FrontStands : Type 0
FrontStands =
    (market : Market) (old new : Standing) (lines : List Line) (replies : List Reply)
    (first second : Changes)
    → Stands (present market old.history) old.history → Run market old lines replies new
    → changes_of market old lines replies ≡ first ++ second
    → (middle : List Entry) × Restores market old.history first middle
    × Stands (present market middle) middle

-- what a market's safety rests on, sound or not: it is a market; users, pairs and units are in
-- range, some state is possible, no trade is wide, some question was not added, and the history is
-- bounded
pub record IsSafe (market : Market) (H : List Entry) : Type 0 where
  pub legal : IsMarket market
  pub proper : IsProper market.network H
  pub none_wide : AllByRecursion (IsInClique market.cliques) (trades H)
  pub few_added : length (additions H) < length market.network
  pub bounded : IsBounded market H

-- the opening has it
abbrev pub OpeningIsSafe : Type 0
OpeningIsSafe = (market : Market) → IsMarket market → IsSafe market []

-- a change that is taken back keeps it, whatever its units are
abbrev pub FitIsSafe : Type 0
FitIsSafe = (market : Market) (H : List Entry) (command : Command) (reply : Reply)
    → IsChange (command, reply) → IsSafe market H → IsFit market H command reply
    → IsSafe (with_entries (entry_of market H command reply) market)
    (next_history market H command reply)

-- and so do many
abbrev pub RestoredIsSafe : Type 0
RestoredIsSafe = (market : Market) (old new : List Entry) (changes : Changes)
    → AllByRecursion IsChange changes → IsSafe (present market old) old
    → Restores market old changes new → IsSafe (present market new) new

-- a change that is taken back appends an entry
abbrev pub FitAppends : Type 0
FitAppends =
    (market : Market) (H : List Entry) (command : Command) (reply : Reply)
    → IsFit market H command reply
    → (e : Entry) × (entry_of market H command reply ≡ Some e)

-- so a market is at the revision of as many changes as it took back
abbrev pub EachCounts : Type 0
EachCounts =
    (market : Market) (old new : List Entry) (changes : Changes) → Restores market old changes new
    → revision new ≡ revision old + length changes

-- where nobody was quoted anything, a change that is taken back leaves nobody quoted
abbrev pub FitQuotesNobody : Type 0
FitQuotesNobody =
    (market : Market) (H : List Entry) (command : Command) (reply : Reply)
    → IsFit market H command reply
    → next_quotes market H (no_quotes H) command reply
    ≡ no_quotes (next_history market H command reply)

-- changes give one history
abbrev pub RestoresOne : Type 0
RestoresOne = (market : Market) (old new other : List Entry) (changes : Changes)
    → Restores market old changes new → Restores market old changes other → new ≡ other

-- changes that are taken back behind others are taken back with them
abbrev pub RestoresJoin : Type 0
RestoresJoin = (market : Market) (old middle new : List Entry) (first second : Changes)
    → Restores market old first middle → Restores market middle second new
    → Restores market old (first ++ second) new

-- so is each front of changes that are taken back
abbrev pub FrontIsRestored : Type 0
FrontIsRestored =
    (market : Market) (old new : List Entry) (first second : Changes)
    → Restores market old (first ++ second) new
    → (middle : List Entry) × Restores market old first middle × Restores market middle second new

-- no command's text has an LF
abbrev pub CommandIsOneLine : Type 0
CommandIsOneLine =
    (command : Command) → IsCommand command → All (λ b. b ≢ 10) (command_text command)

-- so the first LF of a record stands between its command and its reply
abbrev pub RecordSplits : Type 0
RecordSplits =
    (bytes : List ℕ) (command : Command) (reply : Reply) (front rest : List ℕ)
    → IsRecord bytes command reply
    → All (λ b. b ≢ 10) front → bytes ≡ front ++ 10 ∷ rest
    → (front ≡ command_text command) × (rest ≡ reply_text reply)

-- and a record holds one change
abbrev pub RecordHoldsOne : Type 0
RecordHoldsOne = (bytes : List ℕ) (command other : Command) (reply another : Reply)
    → IsRecord bytes command reply → IsRecord bytes other another
    → (command ≡ other) × (reply ≡ another)

-- it is as long as a store's record may be
abbrev pub RecordIsShort : Type 0
RecordIsShort =
    (bytes : List ℕ) (command : Command) (reply : Reply) → IsRecord bytes command reply
    → (1 ≤ length bytes) × (length bytes ≤ MAX_RECORD_BYTES)
