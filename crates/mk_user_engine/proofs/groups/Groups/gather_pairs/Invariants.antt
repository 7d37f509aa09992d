use Rattle.std.proofs.Common.{take}
use Rattle.mk_user_engine.proofs.Gathering.{HasGatheredPairs}
use Rattle.mk_user_engine.proofs.groups.Groups.gather_pairs.Given as goal

abbrev pub invariant-loop-pair : goal.invariant-loop-pair
invariant-loop-pair l =
    HasGatheredPairs l.scope l.pairs (take l.pair-index l.pairs) l.fn.self l.self l.place
