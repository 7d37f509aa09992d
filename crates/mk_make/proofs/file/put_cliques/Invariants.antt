use Rattle.std.proofs.Common.{◌≡◌, ◌-◌, ◌++◌, map, codes}
use Rattle.mk_make.specs.Lines.{joined, numbers_to}
use Rattle.mk_make.specs.Sample.{clique_of}
use Rattle.mk_make.proofs.file.put_cliques.Given as goal

abbrev pub invariant-loop-variable : goal.invariant-loop-variable
invariant-loop-variable l = l.out.items ≡ l.initial.out.items ++ joined (codes ", ") (map clique_of (numbers_to (l.variable - 1)))
