use Rattle.std.proofs.Common.{◌≡◌, ◌+◌, ◌*◌, ◌<◌, ◌≤◌, ◌++◌, length}
use Rattle.mk_journal.specs.Store.{AreRecords, opened}
use Rattle.mk_journal.specs.Opening.{contents}
use Rattle.mk_journal.proofs.read.read_records.Given as goal

abbrev pub invariant-loop-after : goal.invariant-loop-after
invariant-loop-after l = record {
  bytes_are : l.bytes ≡ opened (contents l.records.items) ++ l.rest;
  are : AreRecords (contents l.records.items);
  far : length l.bytes ≤ length l.rest + 34005 * length l.records.items;
  some : 0 < length l.bytes → 0 < length l.rest;
}

abbrev pub decreases-loop-after : goal.decreases-loop-after
decreases-loop-after l = length l.rest
