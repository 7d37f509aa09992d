-- The quotes that are kept behind a reply.
use Rattle.std.specs.Prelude.{◌≡◌, List}
use Rattle.mk_exact.specs.History.{Entry}
use Rattle.mk_exact.specs.Market.{Market}
use Rattle.mk_command.specs.declared.command.Command.{Command}
use Rattle.mk_reply.specs.declared.reply.Reply.{Reply}
use Rattle.mk_rules.specs.Answers.{IsAllowed, next_quotes}
use Rattle.mk_known.specs.Known.{Knowledge}

-- the quotes that are kept are those behind an allowed reply
abbrev pub IsNoted : Market → List Entry → Knowledge → Knowledge → Command → Reply → Type 0
IsNoted market H old new command reply = IsAllowed market H old.quotes command reply
    → new.quotes ≡ next_quotes market H old.quotes command reply
