use Rattle.daggre.proofs.Knowing.{AreKnown}
use Rattle.daggre.proofs.last_line.known.Given as goal

abbrev pub invariant-loop-word : goal.invariant-loop-word
invariant-loop-word l = AreKnown l.net l.words l.word-index l.pairs.items
