use Rattle.std.proofs.Common.{take}
use Rattle.mk_user_engine.specs.Names.{agrees}
use Rattle.mk_user_engine.proofs.Keeping.{IsKept}
use Rattle.mk_user_engine.proofs.product.keep_pairs.Given as goal

abbrev pub invariant-loop-pair : goal.invariant-loop-pair
invariant-loop-pair l = IsKept (agrees l.names (take l.pair-index l.pairs)) l.fn.asked l.asked
