use Rattle.std.proofs.Common.{arith, le_trans}
use Rattle.mk_enclose.specs.inner.Widths.{narrow_ends}
use Rattle.mk_enclose.proofs.Parts.{part_below, part_above, parts_close}
use Rattle.mk_enclose.proofs.enclosure.Enclosure.parts.Goals as goal

pub returns-clause-below : goal.returns-clause-below
returns-clause-below c = λ v w h k.
    part_below c.args.num.now.lo c.args.den.now.hi c.args.unit _ v w c.whole_part.ensures h.lower k.upper

pub returns-clause-above : goal.returns-clause-above
returns-clause-above c = λ v w h k l.
    part_above c.args.num.now.hi c.args.den.now.lo c.args.unit _ v w c.args.den.now.positive c.capped_part.ensures h.upper k.lower l

pub returns-clause-narrow : goal.returns-clause-narrow
returns-clause-narrow c = λ g h k l.
    let n = c.args.num.now in
    let d = c.args.den.now in
    let p = parts_close n.lo n.hi d.lo d.hi c.args.unit d.positive (le_trans d.positive d.ordered) c.requires.part c.requires.unit_at_most
    (narrow_ends n.lo n.hi g h k.near) (narrow_ends d.lo d.hi g h l.near) in
    let low = c.whole_part.ensures in
    let high = c.capped_part.ensures in
    omega arith
