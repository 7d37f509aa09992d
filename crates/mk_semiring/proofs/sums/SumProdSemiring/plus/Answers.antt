use Rattle.mk_semiring.specs.declared.held.Held.TheVariants.{Present}
use Rattle.mk_semiring.proofs.Ends.{sum_bound, sum_grade, one_grade_more}
use Rattle.mk_semiring.proofs.sums.SumProdSemiring.plus.Goals as goal

pub returns-in-Absent-clause-grade : goal.returns-in-Absent-clause-grade
returns-in-Absent-clause-grade c = λ g h k. one_grade_more _ g k

pub returns-in-Absent-b-clause-grade : goal.returns-in-Absent-b-clause-grade
returns-in-Absent-b-clause-grade c = λ g h k. one_grade_more (Present c.in-Present.x) g (rw c.in-Present.is at h)

pub returns-in-Present-b-clause-grade : goal.returns-in-Present-b-clause-grade
returns-in-Present-b-clause-grade c = λ g h k.
    let p = rw c.in-Present.is at h in
    let q = rw c.in-Present-b.is at k in
    (sum_grade _ g (c.add.ensures.grade g g p.0 q.0), sum_bound _ _ _ g c.add.ensures.upper p.1 q.1)
