use Rattle.std.proofs.Common.{◌+◌, ap, sym, subst, ◌∙◌}
use Rattle.mk_net.specs.Named.{pair_named}
use Rattle.daggre.proofs.Knowing.{AreKnown, known_more}
use Rattle.daggre.proofs.last_line.known.Goals as goal

pub loop-word-preserved : goal.loop-word-preserved
loop-word-preserved c =
    subst (AreKnown c.args.net.now c.args.words.now (c.loop-word.word-index + 1))
    (sym c.push.ensures.items)
    (known_more c.args.net.now c.args.words.now c.loop-word.word-index c.word-item.result
    c.loop-word.pairs.items c.in-Some.pair c.loop-word-test.true
    (c.in-Some.ensures ∙ ap (pair_named c.args.net.now) c.word-item.is) c.loop-word.invariant)
