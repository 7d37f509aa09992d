use Rattle.mk_sums.proofs.Grades.{sums_lawful}
use Rattle.mk_sums.proofs.Lawfuls.{minima_lawful}
use Rattle.mk_sums.proofs.limits.are_lawful.Goals as goal

pub returns : goal.returns
returns c = (sums_lawful, minima_lawful)
