use Rattle.std.proofs.Common.{◌≡◌, ◌≤◌, ◌+◌, ◌-◌, length, codes}
use Rattle.mk_text.specs.Reading.{never, items, read_pair}
use Rattle.mk_text.specs.Words.{IsRestOf}
use Rattle.mk_text.proofs.reader.Reader.more_pairs.Given as goal

abbrev pub invariant-pairs : goal.invariant-pairs
invariant-pairs l = record {
  few : length l.pairs.items ≤ 1 + l.counter;
  left : items never (codes ", ") read_pair (7 - l.counter) l.pairs.items l.self ≡ items never (codes ", ") read_pair 7 l.initial.pairs.items l.initial.self;
  rest : IsRestOf l.self l.initial.self;
}
