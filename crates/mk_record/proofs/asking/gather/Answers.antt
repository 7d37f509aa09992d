use Rattle.std.proofs.Common.{arith}
use Rattle.mk_record.proofs.Gathering.{gathered_none, gathered_after, gathered_all}
use Rattle.mk_record.proofs.asking.gather.Goals as goal

pub loop-words-init : goal.loop-words-init
loop-words-init c = rw c.empty.ensures (gathered_none c.args.net.now c.args.pairs.now)

pub loop-words-preserved : goal.loop-words-preserved
loop-words-preserved c = gathered_after c.args.net.now c.args.pairs.now c.loop-words.words-index c.words-item.result c.in_ok-pair.pair _ _ _ _
    (omega (arith, c.loop-words-test.true, c.loop-words.auto.words-index-end)) c.words-item.is c.in_ok-pair.ensures.named c.take.ensures.repeated c.take.ensures.condition c.loop-words.invariant

pub returns-clause-gathered : goal.returns-clause-gathered
returns-clause-gathered c = gathered_all c.args.net.now c.args.pairs.now c.loop-words.words-index _ _ (omega (arith, c.loop-words-test.false, c.loop-words.auto.words-index-end)) c.requires c.loop-words.invariant
