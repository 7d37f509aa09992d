use Rattle.mk_semiring.specs.declared.held.Held.TheVariants.{Present}
use Rattle.mk_semiring.proofs.Ends.{max_bound, one_more, one_grade_more, greatest_of_absent}
use Rattle.mk_semiring.proofs.Ends.{greatest_with_absent}
use Rattle.mk_semiring.proofs.most.MaxProdSemiring.plus.Goals as goal

pub returns-in-Absent-clause-value : goal.returns-in-Absent-clause-value
returns-in-Absent-clause-value c = λ v w h k.
    greatest_of_absent _ v w (rw c.in-Absent.is at h) k

pub returns-in-Absent-clause-grade : goal.returns-in-Absent-clause-grade
returns-in-Absent-clause-grade c = λ g h k. one_grade_more _ g k

pub returns-in-Absent-b-clause-value : goal.returns-in-Absent-b-clause-value
returns-in-Absent-b-clause-value c = λ v w h k.
    greatest_with_absent (Present c.in-Present.x) v w (rw c.in-Absent-b.is at k)
    (rw c.in-Present.is at h)

pub returns-in-Absent-b-clause-grade : goal.returns-in-Absent-b-clause-grade
returns-in-Absent-b-clause-grade c = λ g h k.
    one_grade_more (Present c.in-Present.x) g (rw c.in-Present.is at h)

pub returns-in-Present-b-clause-value : goal.returns-in-Present-b-clause-value
returns-in-Present-b-clause-value c = λ v w h k.
    c.max.ensures.encloses v w (rw c.in-Present.is at h) (rw c.in-Present-b.is at k)

pub returns-in-Present-b-clause-grade : goal.returns-in-Present-b-clause-grade
returns-in-Present-b-clause-grade c = λ g h k.
    let p = rw c.in-Present.is at h in
    let q = rw c.in-Present-b.is at k in
    (one_more _ g (c.max.ensures.grade g g p.0 q.0), max_bound _ _ _ g c.max.ensures.upper p.1 q.1)
