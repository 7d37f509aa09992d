use Rattle.std.proofs.Common.{arith, length, subst}
use Rattle.mk_net.specs.Bounds.{sharpness}
use Rattle.mk_exact.specs.History.{trades}
use Rattle.mk_exact.specs.Weight.{IsSmall}
use Rattle.mk_exact.proofs.Sharp.{sharp_enough}
use Rattle.mk_semiring.specs.declared.held.Held.{Held}
use Rattle.mk_best.specs.inner.Engines.{ArePartAndWhole}
use Rattle.mk_best.proofs.Shares.{covers_nothing, covers_part}
use Rattle.mk_best.proofs.chances.share_of.Goals as goal

pub parts-requires-clause-part : goal.parts-requires-clause-part
parts-requires-clause-part c =
    let a = c.requires in
    let are = subst (λ (b : Held). ArePartAndWhole a.network a.history b c.args.whole.now a.inner
    a.outer) c.in-Present.is a.are in
    omega (arith, are.of_part.encloses.lower, are.of_whole.encloses.upper, are.less)

pub returns-in-Absent : goal.returns-in-Absent
returns-in-Absent c = λ network H v w are.
    let here = subst (λ (b : Held). ArePartAndWhole network H b c.args.whole.now v w) c.in-Absent.is
    are in
    covers_nothing (IsSmall network H) (sharpness (length (trades H))) v w
    (sharp_enough (length (trades H))) here.of_part.encloses (omega (arith, here.less))

pub returns-in-Present : goal.returns-in-Present
returns-in-Present c = λ network H v w are.
    let here = subst (λ (b : Held). ArePartAndWhole network H b c.args.whole.now v w)
    c.in-Present.is are in
    covers_part network H c.in-Present.part c.args.whole.now v w c.parts.result.0 c.parts.result.1
    here
    (assumption c.parts.ensures)
