-- The lines of which the sample has one for each number.
use Rattle.std.specs.Prelude.{ℕ, ◌≤◌, List, ⊤}
use Rattle.mk_make.specs.Sample.{join_line, deposit_line, edit_line, resolve_line}
use Rattle.mk_make.specs.declared.commands.Line.{Line}
use Rattle.mk_make.specs.declared.commands.Line.TheVariants.{Join, Deposit, Edit, Resolution}

abbrev pub line_text : Line → ℕ → List ℕ
line_text Join = join_line
line_text Deposit = deposit_line
line_text (Edit variables) = edit_line variables
line_text Resolution = resolve_line

abbrev pub HasVariables : Line → Type 0
HasVariables (Edit variables) = 1 ≤ variables
HasVariables _ = ⊤
