use Rattle.mk_record.proofs.Gathering.{IsGatheredTo}
use Rattle.mk_record.proofs.asking.gather.Given as goal

abbrev pub invariant-loop-words : goal.invariant-loop-words
invariant-loop-words l = IsGatheredTo l.net l.pairs l.words-index l.found.condition l.found.repeated
