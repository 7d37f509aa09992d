use Rattle.mk_sums.proofs.Grades as grades
use Rattle.mk_sums.proofs.limits.grades_add.Goals as goal

pub returns : goal.returns
returns c = λ placed_number cell_number link m links a b h. grades.grades_add link m links placed_number cell_number a b h
