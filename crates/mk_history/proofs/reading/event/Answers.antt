use Rattle.mk_history.proofs.Pairs.{always_fits}
use Rattle.mk_history.proofs.reading.event.Goals as goal

pub unreachable-requires : goal.unreachable-requires
unreachable-requires c = always_fits c.loop-pair.event c.args.pairs.now c.loop-pair.pair-index _ c.loop-pair.invariant
    c.loop-pair-test.true c.requires.few c.requires.apart c.in-None.ensures.none
