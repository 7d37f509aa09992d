use Rattle.std.proofs.Common.{◌≡◌, ◌≤◌, ◌-◌, length, codes}
use Rattle.mk_text.specs.Reading.{items, read_short}
use Rattle.mk_text.specs.Words.{IsRestOf}
use Rattle.mk_addition.specs.Reading.{before_clique}
use Rattle.mk_addition.proofs.row.more_numbers.Given as goal

abbrev pub invariant-numbers : goal.invariant-numbers
invariant-numbers l =
    let read = items before_clique (codes " ") read_short in record {
      few : length l.row ≤ l.counter;
      left : read (16 - l.counter) l.row l.reader ≡ read 15 l.fn.first l.initial.reader;
      rest : IsRestOf l.reader l.initial.reader;
    }
