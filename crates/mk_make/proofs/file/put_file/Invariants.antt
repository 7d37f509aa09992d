use Rattle.std.proofs.Common.{◌≡◌, ◌-◌, ◌++◌}
use Rattle.std.specs.List.{flat_map}
use Rattle.mk_make.specs.Lines.{numbers_to}
use Rattle.mk_make.specs.Sample.{variable_part}
use Rattle.mk_make.proofs.file.put_file.Given as goal

abbrev pub invariant-loop-variable : goal.invariant-loop-variable
invariant-loop-variable l = l.out.items ≡ l.initial.out.items ++ flat_map variable_part (numbers_to (l.variable - 1))
