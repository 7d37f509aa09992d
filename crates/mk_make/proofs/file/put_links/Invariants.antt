use Rattle.std.proofs.Common.{◌≡◌, ◌-◌, ◌++◌, map, codes, decimal}
use Rattle.mk_make.specs.Lines.{joined, numbers_to}
use Rattle.mk_make.proofs.file.put_links.Given as goal

abbrev pub invariant-loop-clique : goal.invariant-loop-clique
invariant-loop-clique l = l.out.items ≡ l.initial.out.items ++ joined (codes ", ") (map decimal (numbers_to (l.clique - 1)))
