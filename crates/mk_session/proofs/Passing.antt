-- What holds of each standing on the way of a run.
use Rattle.std.proofs.Common.{List, [], ◌∷◌, All, sym, subst}
use Rattle.std.proofs.lemmas.List.Elements.{All-nil, All-cons, All-head, All-tail}
use Rattle.mk_io.specs.Stream.{StreamLine}
use Rattle.mk_exact.specs.Market.{Market, present}
use Rattle.mk_exact.proofs.Gains.{gains_bounded}
use Rattle.mk_reply.specs.declared.reply.Reply.{Reply}
use Rattle.mk_rules.specs.Transcript.{Standing, Line, after, Run}
use Rattle.mk_rules.specs.Standings.{Stands}
use Rattle.mk_rules.proofs.Keeps.{step_keeps}
use Rattle.mk_session.specs.Passed.{standings, IsSafe}
use Rattle.mk_session.specs.Transcript.{Start, IsAllowedRun}

safe_where_stands : (market : Market) (now : Standing)
    → Stands (present market now.history) now.history → IsSafe market now
safe_where_stands market now stands = record {
  stands = stands;
  bounded = gains_bounded (present market now.history).network now.history stands.sound
      stands.proper;
}

pub safe_on_way : (market : Market) (old new : Standing) (lines : List Line) (replies : List Reply)
    → Stands (present market old.history) old.history
    → Run market old lines replies new → All (IsSafe market) (standings market old lines replies)
safe_on_way market old new [] [] stands run = All-cons (IsSafe market) old []
    (safe_where_stands market old stands) (All-nil (IsSafe market))
safe_on_way market old new [] (reply ∷ replies) stands run = absurd run
safe_on_way market old new (line ∷ lines) [] stands run = absurd run
safe_on_way market old new (line ∷ lines) (reply ∷ replies) stands run =
    let next = after (present market old.history) old line reply in
    All-cons (IsSafe market) old (standings market next lines replies)
    (safe_where_stands market old stands)
    (safe_on_way market next new lines replies
    (step_keeps market old line reply stands run.0) run.1)

-- the last of them is the one that the run leaves
last_on_way : (market : Market) (old new : Standing) (lines : List Line) (replies : List Reply)
    → Run market old lines replies new
    → All (IsSafe market) (standings market old lines replies) → IsSafe market new
last_on_way market old new [] [] run safe = subst (IsSafe market) (sym run)
    (All-head (IsSafe market) old [] safe)
last_on_way market old new [] (reply ∷ replies) run safe = absurd run
last_on_way market old new (line ∷ lines) [] run safe = absurd run
last_on_way market old new (line ∷ lines) (reply ∷ replies) run safe =
    let next = after (present market old.history) old line reply in
    last_on_way market next new lines replies run.1
    (All-tail (IsSafe market) old (standings market next lines replies) safe)

pub ends_safe : (start : Start) (lines : List StreamLine) (last : Standing) (replies : List Reply)
    → IsAllowedRun start lines last replies → IsSafe start.market last
ends_safe start lines last replies run = last_on_way start.market start.standing last
    run.replied.asked replies run.replied.run run.safe
