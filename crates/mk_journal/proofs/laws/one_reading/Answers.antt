use Rattle.std.proofs.Common.{sym, ◌∙◌}
use Rattle.mk_journal.proofs.Meanings.{same_records}
use Rattle.mk_journal.proofs.laws.one_reading.Goals as goal

pub returns : goal.returns
returns c records others bytes holds held =
    same_records records others holds.gate held.gate holds.rest held.rest holds.closed held.closed holds.are held.are (sym holds.bytes_are ∙ held.bytes_are)
