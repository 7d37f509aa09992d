use Rattle.std.proofs.Common.{◌<◌, arith}
use Rattle.mk_cell.proofs.Digits.{few_unused, rounded_total}
use Rattle.mk_cell.proofs.cell.rounded.Goals as goal

pub overflow_sub-result-2 : goal.overflow_sub-result-2
overflow_sub-result-2 c =
    let p : 0 < c.args.total = omega arith in
    let u = few_unused 62 c.args.total (c.requires.full p) (omega arith) p in
    let l = c.requires.low p in
    omega arith

pub returns-clause-rounded : goal.returns-clause-rounded
returns-clause-rounded c =
    let p : 0 < c.args.total = omega arith in
    rounded_total c.args.total c.args.exponent (c.requires.full p) (omega arith) (c.requires.low p)

pub returns-clause-coarser : goal.returns-clause-coarser
returns-clause-coarser c = λ h.
    let p : 0 < c.args.total = omega arith in
    let u = few_unused 63 c.args.total h (omega arith) p in
    let l = c.requires.low p in
    omega arith
