use Rattle.std.proofs.Common.{take}
use Rattle.mk_engine.specs.Meaning.{Meaning}
use Rattle.mk_replay.specs.Known.{with_all_known}
use Rattle.mk_replay.proofs.rows.know_all.Given as goal

abbrev pub invariant-loop-pair : goal.invariant-loop-pair
invariant-loop-pair g l = (m : Meaning) → g.E.Engine.stands_for l.fn.engine m
    → g.E.Engine.stands_for l.engine (with_all_known (take l.pair-index l.pairs) m)
