use Rattle.mk_enclose.specs.inner.Widths.{narrow_ends}
use Rattle.mk_enclose.proofs.enclosure.Enclosure.hi.Goals as goal

pub returns-clause-narrow : goal.returns-clause-narrow
returns-clause-narrow c = λ g h k. narrow_ends _ _ g h k.near
