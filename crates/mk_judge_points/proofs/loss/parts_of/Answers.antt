use Rattle.std.proofs.Common.{arith}
use Rattle.mk_judge_points.proofs.Losing.{few_near, many_near}
use Rattle.mk_judge_points.proofs.loss.parts_of.Goals as goal

pub returns-then-variables-le3-clause-near : goal.returns-then-variables-le3-clause-near
returns-then-variables-le3-clause-near c = few_near c.args.variables c.if-variables-le3.true

pub returns-else-variables-le3-clause-near : goal.returns-else-variables-le3-clause-near
returns-else-variables-le3-clause-near c =
    many_near c.args.variables (omega (arith, c.if-variables-le3.false))
