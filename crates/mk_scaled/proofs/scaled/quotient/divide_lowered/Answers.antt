use Rattle.std.proofs.Common.{arith}
use Rattle.mk_scaled.proofs.Quotients.{far_quotient, lowered_quotient, lowered_great}
use Rattle.mk_scaled.proofs.scaled.quotient.divide_lowered.Goals as goal

pub returns-then-k-ge128 : goal.returns-then-k-ge128
returns-then-k-ge128 c =
    (omega arith, far_quotient _ c.args.by c.args.k c.requires.number_below c.requires.by_positive c.if-k-ge128.true)

pub returns-then-whole-ge-LIMIT : goal.returns-then-whole-ge-LIMIT
returns-then-whole-ge-LIMIT c = lowered_great _ c.args.by c.args.k c.if-whole-ge-LIMIT.true

pub returns : goal.returns
returns c = (c.if-whole-ge-LIMIT.false, lowered_quotient c.args.number c.args.by c.args.k c.requires.number_below c.requires.by_positive)
