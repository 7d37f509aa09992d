use Rattle.std.proofs.Common.{◌≡◌, ◌-◌, ◌++◌}
use Rattle.std.specs.List.{flat_map}
use Rattle.mk_make.specs.Lines.{numbers_to}
use Rattle.mk_make.specs.inner.Kinds.{line_text}
use Rattle.mk_make.proofs.commands.put_lines.Given as goal

abbrev pub invariant-loop-number : goal.invariant-loop-number
invariant-loop-number l = l.out.items ≡ l.initial.out.items ++ flat_map (line_text l.line) (numbers_to (l.number - 1))
