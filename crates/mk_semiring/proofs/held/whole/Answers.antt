use Rattle.std.proofs.Common.{◌+◌, ◌*◌, ◌<◌, arith}
use Rattle.mk_scaled.specs.Range.{two_to, two_to-mono, whole_below}
use Rattle.mk_enclose.specs.Enclosure.{upper_of}
use Rattle.mk_semiring.proofs.held.whole.Goals as goal

pub returns-clause-grade : goal.returns-clause-grade
returns-clause-grade c =
    let u = c.exact.ensures.upper in
    let l : upper_of c.exact.result < two_to 64 = whole_below _ 64 64 (omega arith) (omega arith) in
    let m = two_to-mono 64 (192 * (0 + 1)) (omega arith) in
    (c.exact.ensures.grade, omega arith)
