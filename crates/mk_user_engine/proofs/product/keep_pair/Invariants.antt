use Rattle.std.proofs.Common.{◌==◌}
use Rattle.mk_user_engine.specs.Names.{value_in}
use Rattle.mk_user_engine.proofs.Keeping.{IsKeptBelow}
use Rattle.mk_user_engine.proofs.product.keep_pair.Given as goal

abbrev pub invariant-loop-cell : goal.invariant-loop-cell
invariant-loop-cell l = IsKeptBelow (λ c. value_in l.names c l.pair.variable == l.pair.value)
    l.cell l.fn.asked l.asked
