use Rattle.std.proofs.Common.{take}
use Rattle.mk_beliefs.specs.Meanings.{weights_of}
use Rattle.mk_replay.proofs.engines.engine_after.Given as goal

abbrev pub invariant-loop-number : goal.invariant-loop-number
invariant-loop-number g l = g.E.Engine.stands_for l.engine
    (weights_of l.net l.tree (take l.number l.history.history))
