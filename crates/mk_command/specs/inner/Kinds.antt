-- Kinds of commands.
use Rattle.std.specs.Prelude.{⊤}
use Rattle.mk_command.specs.declared.command.Command.{Command}
use Rattle.mk_command.specs.declared.command.Command.TheVariants.{Bounds, Spread, Prices, Position}

-- a command that speaks of every value of a variable
abbrev pub IsOfValues : Command → Type 0
IsOfValues (Bounds user variable condition) = ⊤
IsOfValues (Spread user variable condition to at) = ⊤
IsOfValues (Prices variable condition) = ⊤
IsOfValues (Position user variable condition) = ⊤
IsOfValues _ = ⊥

-- an edit of every value of a variable
abbrev pub IsSpread : Command → Type 0
IsSpread (Spread user variable condition to at) = ⊤
IsSpread _ = ⊥
