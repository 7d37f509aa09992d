use Rattle.mk_enclose.proofs.Grades.{near_max}
use Rattle.mk_enclose.proofs.enclosure.Enclosure.max.Goals as goal

pub returns-clause-grade : goal.returns-clause-grade
returns-clause-grade c = λ g h k l. record { near = rw (c.greater.ensures, c.greater-2.ensures) (near_max _ _ _ _ g h k.near l.near) }
