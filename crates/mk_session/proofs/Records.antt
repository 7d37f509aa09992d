-- The changes of a run have texts, and so each has a record.
use Rattle.std.proofs.Common.{refl, List, [], ◌∷◌, ◌++◌, Option, Some, None, filter}
use Rattle.std.specs.List.{AllZip, AllByRecursion}
use Rattle.mk_io.specs.Stream.{StreamLine, text, long, is_not_blank}
use Rattle.mk_exact.specs.History.{Entry}
use Rattle.mk_exact.specs.Market.{Market, present}
use Rattle.mk_command.specs.declared.command.Command.{Command}
use Rattle.mk_reply.specs.declared.reply.Reply.{Reply}
use Rattle.mk_reply.specs.Replies.{IsReply}
use Rattle.mk_rules.specs.Answers.{entry_of}
use Rattle.mk_rules.specs.Bounded.{IsLine, IsBounded}
use Rattle.mk_rules.specs.Standings.{IsReady}
use Rattle.mk_rules.specs.Transcript.{Standing, Line, OfCommand, NoCommand, LongLine}
use Rattle.mk_rules.specs.Transcript.{after, Run}
use Rattle.mk_rules.proofs.Ready.{step_keeps_ready}
use Rattle.mk_rules.proofs.Bounds.{limits_of}
use Rattle.mk_rules.proofs.Follows.{bounded_keeps, bounded_in}
use Rattle.mk_rules.proofs.Texts.{replies_have_texts}
use Rattle.mk_restore.specs.Restoring.{Changes, IsChange, change_of, changes_of}
use Rattle.mk_session.specs.Transcript.{Start, Asks}
use Rattle.mk_session.specs.Begins.{CanBegin}
use Rattle.mk_session.specs.Left.{records_of, IsRecordOf, changes_from}

-- what a line asks has a text
pub line_asked : (line : StreamLine) (asked : Line) → Asks line asked → IsLine asked
line_asked (text bytes) (OfCommand command) asks = asks.0
line_asked (text bytes) NoCommand asks = tt
line_asked (text bytes) LongLine asks = absurd asks
line_asked long LongLine asks = tt
line_asked long NoCommand asks = absurd asks
line_asked long (OfCommand command) asks = absurd asks

lines_asked : (lines : List StreamLine) (asked : List Line) → AllZip Asks lines asked
    → AllByRecursion IsLine asked
lines_asked [] [] asks = tt
lines_asked [] (x ∷ xs) asks = absurd asks
lines_asked (l ∷ ls) [] asks = absurd asks
lines_asked (l ∷ ls) (x ∷ xs) asks = (line_asked l x asks.0, lines_asked ls xs asks.1)

entry_has_text : (change : Command × Reply) (o : Option Entry) → IsChange change
    → AllByRecursion IsChange (elim o as (λ x. Changes) [ None ↦ [] | Some e ↦ change ∷ [] ])
entry_has_text change None is = tt
entry_has_text change (Some e) is = (is, tt)

change_has_text : (market : Market) (H : List Entry) (asked : Line) (reply : Reply)
    → IsLine asked → IsReply reply → AllByRecursion IsChange (change_of market H asked reply)
change_has_text market H (OfCommand command) reply is has =
    entry_has_text (command, reply) (entry_of market H command reply) (is, has)
change_has_text market H NoCommand reply is has = tt
change_has_text market H LongLine reply is has = tt

both_have : (first second : Changes) → AllByRecursion IsChange first
    → AllByRecursion IsChange second → AllByRecursion IsChange (first ++ second)
both_have [] second has more = more
both_have (c ∷ first) second has more = (has.0, both_have first second has.1 more)

changes_have_texts : (market : Market) (now new : Standing) (asked : List Line)
    (replies : List Reply) → IsReady (present market now.history) now
    → IsBounded market now.history → AllByRecursion IsLine asked → Run market now asked replies new
    → AllByRecursion IsChange (changes_of market now asked replies)
changes_have_texts market now new [] replies ready bounded are run = tt
changes_have_texts market now new (x ∷ xs) [] ready bounded are run = absurd run
changes_have_texts market now new (x ∷ xs) (r ∷ rs) ready bounded are run =
    let here = present market now.history in
    let next = after here now x r in
    let legal = ready.stands.legal in
    let bounded_here = bounded_in market here now.history refl refl refl bounded in
    let bounded_next = bounded_keeps here now x r (limits_of here legal) are.0 bounded_here run.0 in
    both_have (change_of here now.history x r) (changes_of market next xs rs)
    (change_has_text here now.history x r are.0
    (replies_have_texts here now x r legal ready bounded_here are.0 run.0))
    (changes_have_texts market next new xs rs (step_keeps_ready market now x r ready run.0)
    (bounded_in here market next.history refl refl refl bounded_next) are.1 run.1)

each_recorded : (changes : Changes) → AllByRecursion IsChange changes
    → AllZip IsRecordOf (records_of changes) changes
each_recorded [] has = tt
each_recorded (c ∷ changes) has =
    (record { has_texts = has.0; text = refl }, each_recorded changes has.1)

-- each change of a run has its record
pub are_recorded : (start : Start) → CanBegin start.market start.standing
    → (lines : List StreamLine) (now : Standing) (asked : List Line) (replies : List Reply)
    → AllZip Asks (filter is_not_blank lines) asked
    → Run start.market start.standing asked replies now
    → AllZip IsRecordOf (records_of (changes_from start asked replies))
    (changes_from start asked replies)
are_recorded start begins lines now asked replies asks run =
    each_recorded (changes_from start asked replies)
    (changes_have_texts start.market start.standing now asked replies
    begins.ready begins.bounded (lines_asked (filter is_not_blank lines) asked asks) run)
