use Rattle.mk_enclose.proofs.Grades.{near_min}
use Rattle.mk_enclose.proofs.enclosure.Enclosure.min.Goals as goal

pub returns-clause-grade : goal.returns-clause-grade
returns-clause-grade c = λ g h k l. record { near = rw (c.lesser.ensures, c.lesser-2.ensures) (near_min _ _ _ _ g h k.near l.near) }
