use Rattle.mk_semiring.proofs.Ends.{product_bound}
use Rattle.mk_semiring.proofs.held.product.Goals as goal

pub returns-in-Present-b-clause-grade : goal.returns-in-Present-b-clause-grade
returns-in-Present-b-clause-grade c = λ g h k l.
    let p = rw c.in-Present.is at k in
    let q = rw c.in-Present-b.is at l in
    (c.mul.ensures.grade g h p.0 q.0, product_bound _ _ _ g h c.mul.ensures.upper p.1 q.1)
