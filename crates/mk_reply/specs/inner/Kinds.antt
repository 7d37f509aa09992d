-- Kinds of replies.
use Rattle.std.specs.Prelude.{⊤}
use Rattle.mk_reply.specs.declared.reply.Reply.{Reply}
use Rattle.mk_reply.specs.declared.reply.Reply.TheVariants.{Price, Limits, Bounded, Worst, Bound}
use Rattle.mk_reply.specs.declared.reply.Reply.TheVariants.{Paid, Prices, Position, Status}

-- a reply to a question, which changes nothing
abbrev pub IsTold : Reply → Type 0
IsTold (Price low high) = ⊤
IsTold (Limits limits at) = ⊤
IsTold (Bounded intervals at) = ⊤
IsTold (Worst low high) = ⊤
IsTold (Paid payment) = ⊤
IsTold (Bound low high) = ⊤
IsTold (Prices intervals) = ⊤
IsTold (Position intervals) = ⊤
IsTold (Status at users trades most transfers most_transfers unresolved questions) = ⊤
IsTold _ = ⊥
