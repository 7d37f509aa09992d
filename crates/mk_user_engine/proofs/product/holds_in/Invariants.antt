use Rattle.std.proofs.Common.{◌≡◌, true, take}
use Rattle.mk_sums.specs.There.{holds_there}
use Rattle.mk_user_engine.specs.Names.{value_in}
use Rattle.mk_user_engine.proofs.product.holds_in.Given as goal

abbrev pub invariant-loop-pair : goal.invariant-loop-pair
invariant-loop-pair l = holds_there (take l.pair-index l.pairs) (value_in l.names l.cell) ≡ true
