use Rattle.std.proofs.Common.{◌+◌, inl, inr, false, arith}
use Rattle.mk_exact.specs.Limits.{Side}
use Rattle.mk_enclose.specs.declared.enclosure.Enclosure.{Enclosure}
use Rattle.mk_enclose.specs.Enclosure.{HasGrade}
use Rattle.mk_quote.specs.declared.side.SideBounds.{SideBounds}
use Rattle.mk_judge.specs.Cash.{IsHeld}
use Rattle.mk_judge.specs.Units.{AreSideBounds}
use Rattle.mk_judge.specs.Wanted.{IsSomeNear}
use Rattle.mk_judge.proofs.Nearness.{more_steps}
use Rattle.mk_judge.proofs.Solving.{held_beside, idle_held}
use Rattle.mk_judge.proofs.wanting.wanted_of.Goals as goal

held_of : (bounds : SideBounds) (side : Side) → AreSideBounds bounds false side
    → IsHeld bounds.factor side.least
held_of bounds side is = record { stands = is.bounds_of.least; idle = is.idle }

-- a gain that was not rounded leaves no more near than another
loosened : (part whole one gain : Enclosure) (side : Side) → HasGrade one 0
    → IsSomeNear part whole one side → IsSomeNear part whole gain side
loosened part whole one gain side exact known = record {
  share = known.share;
  from = known.from;
  to = known.to;
  near = λ g h k graded graded' _. elim (known.near g h 0 graded graded' exact) [
    | inl above ↦ inl (more_steps _ _ (g + h + 0 + 2) (g + h + k + 2) (omega arith) above)
    | inr far ↦ inr far
  ];
}

pub returns-then-bounds-eq0 : goal.returns-then-bounds-eq0
returns-then-bounds-eq0 c = λ side is.
    let bounds = c.args.bounds.now in
    let scale = c.of_trade in
    let ends =
    c.wanted_by.ensures side 1 is.bounds_of.part is.bounds_of.whole c.exact.ensures.encloses
    (idle_held bounds.factor side.least scale.result (held_of bounds side is) c.if-bounds-eq0.true
    scale.ensures.gained scale.ensures.owed) in
    record {
      outer = ends.outer;
      inner = ends.inner;
      low = λ apart. loosened bounds.part bounds.whole c.exact.result bounds.factor.gain side
          c.exact.ensures.grade (ends.low apart);
      high = λ apart. loosened bounds.part bounds.whole c.exact.result bounds.factor.gain side
          c.exact.ensures.grade (ends.high apart);
    }

pub returns-else-bounds-eq0 : goal.returns-else-bounds-eq0
returns-else-bounds-eq0 c = λ side is.
    let bounds = c.args.bounds.now in
    let scale = c.of_trade-else-bounds-eq0 in
    c.wanted_by-else-bounds-eq0.ensures side is.bounds_of.least.gain is.bounds_of.part
    is.bounds_of.whole is.bounds_of.least.encloses
    (held_beside bounds.factor side.least scale.result is.bounds_of.least scale.ensures.gained
    scale.ensures.owed)
