use Rattle.std.proofs.Common.{arith}
use Rattle.mk_cell.proofs.Digits.{and_most_32}
use Rattle.mk_cell.proofs.cell.keep.Goals as goal

pub returns-clause-kept : goal.returns-clause-kept
returns-clause-kept c = λ h. and_most_32 c.args.number c.wrapping_neg.result (omega arith) (omega (arith, c.wrapping_neg.ensures))
