-- A law of allowed runs. It is the contract of a function of this crate, and so proved.
use Rattle.std.specs.Prelude.{List}
use Rattle.mk_io.specs.Stream.{StreamLine}
use Rattle.mk_reply.specs.declared.reply.Reply.{Reply}
use Rattle.mk_rules.specs.Transcript.{Standing}
use Rattle.mk_session.specs.Passed.{IsSafe}
use Rattle.mk_session.specs.Transcript.{Start, IsAllowedRun}

-- the standing that an allowed run leaves is among those that it passes through
abbrev pub EndsSafely : Type 0
EndsSafely = (start : Start) (lines : List StreamLine) (last : Standing) (replies : List Reply)
    → IsAllowedRun start lines last replies → IsSafe start.market last
