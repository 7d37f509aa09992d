use Rattle.std.proofs.Common.{sym}
use Rattle.mk_text.proofs.ReadingLaws.{whole_found, whole_nothing, whole_left}
use Rattle.mk_addition.proofs.AddLaws.{add_tells}
use Rattle.mk_addition.proofs.read.read_add.Goals as goal

pub returns-in_default-clause-none : goal.returns-in_default-clause-none
returns-in_default-clause-none c =
    whole_nothing add_tells c.args.line.now (rw (← c.new-reader.ensures) c.in_default.ensures)

pub returns-then-is_at_end-clause-found : goal.returns-then-is_at_end-clause-found
returns-then-is_at_end-clause-found c =
    whole_found add_tells c.args.line.now c.add.new.words c.add.new.reader
    (rw (← c.new-reader.ensures) c.in-Some.ensures) (sym c.if-is_at_end.ensures)

pub returns-else-is_at_end-clause-none : goal.returns-else-is_at_end-clause-none
returns-else-is_at_end-clause-none c =
    whole_left add_tells c.args.line.now c.add.new.words c.add.new.reader
    (rw (← c.new-reader.ensures) c.in-Some.ensures) (sym c.if-is_at_end.ensures)
