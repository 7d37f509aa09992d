use Rattle.std.proofs.Common.{take}
use Rattle.mk_disk.specs.inner.Contents.{IsContents}
use Rattle.mk_disk.specs.Memory.{file_after}
use Rattle.mk_disk.proofs.contents.contents_after.Given as goal

abbrev pub invariant-loop-event : goal.invariant-loop-event
invariant-loop-event l = IsContents (file_after l.name (take l.event-index l.events)) l.contents
