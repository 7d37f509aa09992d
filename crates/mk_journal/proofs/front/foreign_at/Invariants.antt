use Rattle.std.proofs.Common.{◌≡◌, ◌+◌, ◌≤◌, length, drop}
use Rattle.mk_journal.specs.Store.{foreign_from}
use Rattle.mk_journal.proofs.front.foreign_at.Given as goal

abbrev pub invariant-loop-i : goal.invariant-loop-i
invariant-loop-i l = record {
  same : foreign_from (l.i + 1) (drop l.i l.head) (drop l.i l.bytes) ≡ foreign_from 1 l.head l.bytes;
  within : l.i ≤ length l.bytes;
}
