use Rattle.std.proofs.Common.{List, take}
use Rattle.mk_engine.specs.Meaning.{ArePairsOf}
use Rattle.mk_best_trials.proofs.chances.expect_own.Given as goal

abbrev pub invariant-loop-pair : goal.invariant-loop-pair
invariant-loop-pair g l = ArePairsOf l.net (take l.pair-index l.pairs)
