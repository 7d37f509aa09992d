use Rattle.std.proofs.Common.{◌≡◌, ◌≤◌, ◌-◌, length}
use Rattle.mk_text.specs.Reading.{items, never}
use Rattle.mk_text.specs.Words.{IsRestOf}
use Rattle.mk_addition.proofs.list.read_more.Given as goal

abbrev pub invariant-things : goal.invariant-things
invariant-things g l =
    let read = items never l.separator g.T.Readable.reads in record {
      few : length l.list.items ≤ l.counter;
      left : read (g.row.N - l.counter) l.list.items l.reader
          ≡ read (g.row.N - 1) l.initial.list.items l.initial.reader;
      rest : IsRestOf l.reader l.initial.reader;
    }
