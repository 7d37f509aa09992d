use Rattle.std.proofs.Common.{◌≡◌, ◌≤◌, ◌+◌, ◌-◌, length, codes}
use Rattle.mk_text.specs.Reading.{items, before_revision}
use Rattle.mk_text.specs.Words.{IsRestOf}
use Rattle.mk_text.proofs.listed.more.Given as goal

abbrev pub invariant-items : goal.invariant-items
invariant-items g l = record {
  few : length l.items.items ≤ 1 + l.counter;
  left : items before_revision (codes " ") g.T.Item.reads (15 - l.counter) l.items.items l.reader ≡ items before_revision (codes " ") g.T.Item.reads 15 l.initial.items.items l.initial.reader;
  rest : IsRestOf l.reader l.initial.reader;
}
