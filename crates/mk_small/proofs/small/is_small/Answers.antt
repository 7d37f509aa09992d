use Rattle.std.proofs.Common.{arith}
use Rattle.std.proofs.lemmas.Bool.{leb-true}
use Rattle.mk_small.proofs.Weights.{many_are_large}
use Rattle.mk_small.proofs.Walk.{small_test}
use Rattle.mk_small.proofs.small.is_small.Goals as goal

pub returns-then-variables-le-MOST_VARIABLES : goal.returns-then-variables-le-MOST_VARIABLES
returns-then-variables-le-MOST_VARIABLES c = small_test c.args.net.now c.args.history.now.history
    c.total_behind.result c.total_behind.ensures

pub returns-else-variables-le-MOST_VARIABLES : goal.returns-else-variables-le-MOST_VARIABLES
returns-else-variables-le-MOST_VARIABLES c = (
  λ h. absurd (omega (
    arith,
    c.if-variables-le-MOST_VARIABLES.false,
    leb-true c.variables.result 3 h,
  )),
  λ small. absurd (many_are_large c.args.net.now c.args.history.now.history
      c.variables.ensures.network c.requires.proper
      (omega (arith, c.if-variables-le-MOST_VARIABLES.false, c.variables.ensures.count)) small),
)
