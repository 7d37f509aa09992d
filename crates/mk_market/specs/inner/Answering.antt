-- How what a command finds answers it.
use Rattle.std.specs.Prelude.{Result, Ok, Err}
use Rattle.mk_command.specs.declared.command.Command.{Command}
use Rattle.mk_reply.specs.declared.refusal.Refusal.{Refusal}
use Rattle.mk_reply.specs.declared.reply.Reply.{Reply}
use Rattle.mk_reply.specs.declared.reply.Reply.TheVariants.{Refused}
use Rattle.mk_market.specs.Trading.{Trading, IsAnswered}

-- a command is answered by the reply that tells what was found, or by its refusal
abbrev pub IsAnsweredBy : {Own F : Type 0} → Trading Own → Trading Own → Command → Result F Refusal
    → (F → Reply) → Type 0
IsAnsweredBy old new command (Ok found) tell = IsAnswered old new command (tell found)
IsAnsweredBy old new command (Err why) tell = IsAnswered old new command (Refused why)
